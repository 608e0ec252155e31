use Rattle.std.proofs.Common.{◌∙◌, arith}
use Rattle.lw_messaging.proofs.HeldLemmas.{numbered-drop, size-drop, last-drop}
use Rattle.lw_messaging.proofs.held.Held.drop_first.Goals as goal

pub invariant_of-self-2 : goal.invariant_of-self-2
invariant_of-self-2 c = record {
  numbered = numbered-drop _ _ c.self.inside.first c.in-Some.oldest _ c.self.inside.exchanges.items _ c.key.ensures c.in-Some.ensures.items c.self.invariant.numbered c.drop_number.ensures.gone c.drop_number.ensures.stays;
  size_is = c.taken_from-self-inside.ensures ∙ size-drop _ _ _ c.in-Some.oldest c.in-Some.ensures.items c.self.invariant.size_is;
  last = last-drop _ _ _ c.in-Some.oldest c.in-Some.ensures.items c.self.invariant.last;
}
