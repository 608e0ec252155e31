use Rattle.std.proofs.Common.{refl, ap, ◌∙◌}
use Rattle.lw_reg.specs.Registration.{Registration}
use Rattle.lw_node.specs.Calls.{issuer_at}
use Rattle.lw_node.proofs.Deciding.{decides_end_refused, decides_end}
use Rattle.lw_node.proofs.node.Node.decide_end.Goals as goal

pub returns-in_default : goal.returns-in_default
returns-in_default c now =
    decides_end_refused (issuer_at c.args.self.now now) c.args.report (c.args.view.now, c.args.watch) _ _ _ c.report.view_is (c.in_default.ensures.end.0 refl) c.in_ok-reply.ensures c.reply.ensures

pub returns : goal.returns
returns c now =
    decides_end (issuer_at c.args.self.now now) c.args.report (c.args.view.now, c.args.watch) _ _ _ _ c.report.view_is
    (record { counter = c.in-Some.ensures.stamp.0; node = c.in-Some.ensures.stamp.1 })
    (record {
      about = record { endpoint = c.in_ok-endpoint.ensures ∙ ap (λ (r : Registration). r.endpoint) c.view.view_is; registration = ap (λ (r : Registration). r.id) c.view.view_is };
      what = refl;
    })
    c.in_ok-notice_of.ensures c.in_ok-reply-2.ensures
