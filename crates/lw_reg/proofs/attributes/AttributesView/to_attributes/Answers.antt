use Rattle.std.proofs.Common.{sym, subst}
use Rattle.std.proofs.lemmas.Bool.{false≢true}
use Rattle.lw_reg.specs.Attribute.{AreAttributes}
use Rattle.lw_reg.proofs.attributes.AttributesView.to_attributes.Goals as goal

pub unreachable-requires : goal.unreachable-requires
unreachable-requires c =
    let copied = c.in_ok-copied_pairs.ensures in
    absurd (false≢true (c.in-None.ensures.accepted.1 (subst AreAttributes (sym copied.value) copied.attributes)))
