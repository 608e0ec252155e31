-- The laws of what is known of a registration.
use Rattle.std.proofs.Common.{refl}
use Rattle.lw_stamp.proofs.StampLemmas.{stamp_order}
use Rattle.lw_join.specs.BothLaws.{both_laws}
use Rattle.lw_join.specs.Join.{IsJoin}
use Rattle.lw_join.specs.JoinLaws.{laws_along}
use Rattle.lw_join.specs.LastLaws.{last_laws}
use Rattle.lw_join.specs.LexLaws.{lex_laws}
use Rattle.lw_join.specs.LwwLaws.{lww_laws}
use Rattle.lw_join.specs.OnceLaws.{once_laws}
use Rattle.lw_join.specs.OrGoneLaws.{gone_laws}
use Rattle.lw_join.specs.PairLaws.{pair_laws}
use Rattle.lw_reg.specs.declared.body.Body.{Body}
use Rattle.lw_reg.specs.Body.{watching_below, watching_join, BodyBelow, body_join}
use Rattle.lw_reg.specs.BindingLaws.{binding_order}
use Rattle.lw_reg.specs.OrderLaws.{addr_order, text_order, base_order, moment_order, number_order, path_order, sms_order}

pub watching_laws : IsJoin watching_below watching_join
watching_laws = lex_laws (gone_laws (once_laws number_order))

-- an order that holds where another does has its laws
reordered : {S : Type 0} {below above : S → S → Type 0} {join : S → S → S} → ((x y : S) → below x y → above x y) → ((x y : S) → above x y → below x y) → IsJoin below join → IsJoin above join
reordered {join = join} forth back laws = record {
  reflexive = λ x. forth x x (laws.reflexive x);
  antisymmetric = λ x y h k. laws.antisymmetric x y (back x y h) (back y x k);
  transitive = λ x y z h k. forth x z (laws.transitive x y z (back x y h) (back y z k));
  above_left = λ x y. forth x (join x y) (laws.above_left x y);
  above_right = λ x y. forth y (join x y) (laws.above_right x y);
  least = λ x y z h k. forth (join x y) z (laws.least x y z (back x z h) (back y z k));
}

-- the parts as pairs, the first beside all behind it
pub body_laws : IsJoin BodyBelow body_join
body_laws =
    reordered
    (λ x y h. record { base = h.0; address = h.1.0; seen = h.1.1.0; lifetime = h.1.1.1.0; binding = h.1.1.1.1.0; sms = h.1.1.1.1.1.0; objects = h.1.1.1.1.1.1.0; ended = h.1.1.1.1.1.1.1.0; maps = h.1.1.1.1.1.1.1.1 })
    (λ x y h. (h.base, (h.address, (h.seen, (h.lifetime, (h.binding, (h.sms, (h.objects, (h.ended, h.maps)))))))))
    (laws_along
    (λ (b : Body). (b.base, (b.address, (b.seen, (b.lifetime, (b.binding, (b.sms, (b.objects, (b.ended, b.maps)))))))))
    (λ p. record { base = p.0; address = p.1.0; seen = p.1.1.0; lifetime = p.1.1.1.0; binding = p.1.1.1.1.0; sms = p.1.1.1.1.1.0; objects = p.1.1.1.1.1.1.0; ended = p.1.1.1.1.1.1.1.0; maps = p.1.1.1.1.1.1.1.1 })
    (λ s. refl)
    (λ t. refl)
    (pair_laws (once_laws base_order) (pair_laws (lww_laws addr_order) (pair_laws (lww_laws moment_order) (pair_laws (lww_laws number_order) (pair_laws (lww_laws binding_order) (pair_laws (lww_laws sms_order) (pair_laws (lww_laws text_order) (pair_laws (once_laws stamp_order) (both_laws text_order path_order (last_laws text_order) watching_laws))))))))))
