use Rattle.std.proofs.Common.{◌≡◌, ◌≤◌, ◌++◌, length, drop}
use Rattle.json.specs.Tree.{members_tokens}
use Rattle.serde_json.specs.Written.{members_outline}
use Rattle.lw_json.specs.Json.{attributes_json}
use Rattle.lw_json.proofs.registration.put_pairs.Given as goal

abbrev pub invariant-loop-place : goal.invariant-loop-place
invariant-loop-place l = record {
  within : l.place ≤ length l.attributes;
  added : l.out.tokens ++ members_tokens (members_outline (attributes_json (drop l.place l.attributes))) ≡ l.fn.out.tokens ++ members_tokens (members_outline (attributes_json l.attributes));
  before : l.out.before ≡ l.fn.out.before;
}
