use Rattle.std.proofs.Common.{◌≡◌}
use Rattle.lw_stamp.specs.Moment.{ms_of}
use Rattle.lw_node.specs.Calls.{issuer_at}
use Rattle.lw_node.specs.inner.Calls.{Decided}
use Rattle.lw_node.specs.Effects.{NamedChanges}
use Rattle.lw_node.specs.Node.{marks_in}
use Rattle.lw_node.proofs.Deciding.{if_ok, decides_unnamed, decides_named}
use Rattle.lw_node.proofs.node.Node.decide_named.Goals as goal

pub returns-in_default : goal.returns-in_default
returns-in_default c =
    if_ok _ (Decided c.args.self.now.table.state (λ M. NamedChanges (issuer_at c.args.self.now (ms_of c.args.now)) M c.args.request.now c.args.id (λ w. w ≡ c.args.what) c.args.code)) c.refused.result
    (λ d x known h. decides_unnamed (issuer_at c.args.self.now (ms_of c.args.now)) (marks_in c.args.self.now.table.state known) c.args.request.now c.args.id (λ w. w ≡ c.args.what) c.args.code d d.reply
    (c.in_default.ensures.found known h) x.0 x.1)
    c.refused.ensures

pub returns : goal.returns
returns c =
    let place = issuer_at c.args.self.now (ms_of c.args.now) in
    if_ok _ (Decided c.args.self.now.table.state (λ M. NamedChanges place M c.args.request.now c.args.id (λ w. w ≡ c.args.what) c.args.code)) c.decide_about.result
    (λ d x known h. decides_named place (marks_in c.args.self.now.table.state known) c.args.request.now c.args.id (λ w. w ≡ c.args.what) c.args.code c.in-Some.view d (c.in-Some.ensures.found known h) x)
    (c.decide_about.ensures (ms_of c.args.now))
