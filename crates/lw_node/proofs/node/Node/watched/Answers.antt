use Rattle.std.proofs.Common.{refl, ap}
use Rattle.lw_stamp.specs.Moment.{ms_of}
use Rattle.lw_node.specs.Node.{NodeContent}
use Rattle.lw_node.proofs.Deciding.{found_known, watched_some, watched_none}
use Rattle.lw_node.proofs.node.Node.watched.Goals as goal

pub returns-clause-some : goal.returns-clause-some
returns-clause-some c =
    let now = ms_of c.args.now in
    let stamp = c.in_ok-stamp_in.field-0 in
    let same = ap (λ (n : NodeContent). n.table.state) c.self.view_is in
    watched_some c.args.self.now.table.state now c.args.token.now stamp c.by_token.result ((c.in_ok-stamp_in.ensures stamp).0 refl)
    (found_known c.self.inside.table.state c.args.self.now.table.state now stamp c.by_token.result same c.by_token.ensures.read c.by_token.ensures.marks)

pub returns-clause-none : goal.returns-clause-none
returns-clause-none c =
    let now = ms_of c.args.now in
    let stamp = c.in_ok-stamp_in.field-0 in
    let same = ap (λ (n : NodeContent). n.table.state) c.self.view_is in
    watched_none c.args.self.now.table.state now c.args.token.now stamp c.by_token.result ((c.in_ok-stamp_in.ensures stamp).0 refl)
    (found_known c.self.inside.table.state c.args.self.now.table.state now stamp c.by_token.result same c.by_token.ensures.read c.by_token.ensures.marks)
