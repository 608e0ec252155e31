use Rattle.std.proofs.Common.{◌≡◌, ◌++◌, string_bytes, drop}
use Rattle.lw_link.specs.Printing.{attrs_text}
use Rattle.lw_link.proofs.printing.put_attrs.Given as goal

abbrev pub invariant-loop-attr : goal.invariant-loop-attr
invariant-loop-attr l = string_bytes l.out ++ attrs_text (drop l.attr-index l.attrs) ≡ string_bytes l.fn.out ++ attrs_text l.attrs
