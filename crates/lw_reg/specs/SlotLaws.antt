-- The laws of what is known of an endpoint.
use Rattle.std.proofs.Common.{refl}
use Rattle.lw_join.specs.Join.{IsJoin}
use Rattle.lw_join.specs.JoinLaws.{laws_along}
use Rattle.lw_join.specs.LexLaws.{lex_laws}
use Rattle.lw_join.specs.OrGoneLaws.{gone_laws}
use Rattle.lw_join.specs.declared.lex.Lex.{Lex}
use Rattle.lw_join.specs.declared.or_gone.OrGone.{OrGone}
use Rattle.lw_reg.specs.declared.body.Body.{Body}
use Rattle.lw_reg.specs.declared.slot.Slot.{Slot}
use Rattle.lw_reg.specs.BodyLaws.{body_laws}
use Rattle.lw_reg.specs.Slot.{slot_below, slot_join}

pub slot_laws : IsJoin slot_below slot_join
slot_laws = laws_along (λ (s : Slot). s.registration) (λ (x : Lex (OrGone Body)). record { registration = x }) (λ s. refl) (λ t. refl) (lex_laws (gone_laws body_laws))
