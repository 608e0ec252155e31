use Rattle.std.proofs.Common.{◌≡◌, ◌++◌, string_bytes, drop}
use Rattle.lw_link.specs.Printing.{more_text}
use Rattle.lw_link.proofs.printing.put_more.Given as goal

abbrev pub invariant-loop-link : goal.invariant-loop-link
invariant-loop-link l = string_bytes l.out ++ more_text (drop l.link-index l.links) ≡ string_bytes l.fn.out ++ more_text l.links
