use Rattle.std.proofs.Common.{◌≡◌, ◌++◌, drop, map}
use Rattle.std.specs.List.{flat_map}
use Rattle.lw_resp.specs.Bytes.{bulk_bytes, command_bytes}
use Rattle.lw_resp.proofs.writing.command.Given as goal

abbrev pub invariant-loop-word : goal.invariant-loop-word
invariant-loop-word l =
    l.out.items ++ flat_map bulk_bytes (map (λ word. word.now) (drop l.word-index l.words)) ≡ command_bytes (map (λ word. word.now) l.words)
