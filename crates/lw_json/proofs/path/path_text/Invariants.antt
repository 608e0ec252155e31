use Rattle.std.proofs.Common.{◌≡◌, ◌++◌, drop, string_bytes}
use Rattle.std.specs.List.{flat_map}
use Rattle.lw_json.specs.PathText.{path_text, step_text}
use Rattle.lw_json.proofs.path.path_text.Given as goal

abbrev pub invariant-loop-number : goal.invariant-loop-number
invariant-loop-number l = string_bytes l.text ++ flat_map step_text (drop l.number-index l.number-items) ≡ path_text l.path
