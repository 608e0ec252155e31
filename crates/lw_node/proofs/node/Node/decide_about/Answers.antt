use Rattle.std.proofs.Common.{refl, ap, ◌∙◌}
use Rattle.lw_reg.specs.Registration.{Registration}
use Rattle.lw_node.specs.Calls.{issuer_at}
use Rattle.lw_node.specs.Effects.{answered}
use Rattle.lw_node.proofs.Deciding.{if_ok, decides_at_end, decides_operation}
use Rattle.lw_node.proofs.node.Node.decide_about.Goals as goal

pub returns-in_default : goal.returns-in_default
returns-in_default c now =
    let place = issuer_at c.args.self.now now in
    if_ok _ _ c.refused.result (λ d h. decides_at_end place c.args.request.now _ (answered c.args.request.now c.args.code) d d.reply (c.in_default.ensures.end.0 refl) h.0 h.1) c.refused.ensures

pub returns : goal.returns
returns c now =
    let place = issuer_at c.args.self.now now in
    if_ok _ _ c.operates.result
    (λ d h. decides_operation place c.args.request.now _ (answered c.args.request.now c.args.code) d _
    (record { counter = c.in-Some.ensures.stamp.0; node = c.in-Some.ensures.stamp.1 })
    (record { endpoint = c.in_ok-copy_of.ensures ∙ ap (λ (r : Registration). r.endpoint) c.view.view_is; registration = ap (λ (r : Registration). r.id) c.view.view_is }, refl)
    h.0 h.1)
    c.operates.ensures
