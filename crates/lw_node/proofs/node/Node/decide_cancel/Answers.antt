use Rattle.std.proofs.Common.{Some, None, subst, sym, ap, refl}
use Rattle.lw_stamp.specs.Moment.{ms_of}
use Rattle.lw_reg.specs.Registration.{Registration}
use Rattle.lw_reg.specs.declared.watch.Watch.{Watch}
use Rattle.lw_table.specs.LookUps.{ByToken}
use Rattle.lw_node.specs.Node.{NodeContent}
use Rattle.lw_node.proofs.Commanding.{found_at, memory_is, Cancelled, cancel_none, cancel_end, cancel_some, cancel_memory}
use Rattle.lw_node.proofs.node.Node.decide_cancel.Goals as goal

pub returns-in_default : goal.returns-in_default
returns-in_default c =
    let now = ms_of c.args.now in
    let node = c.args.self.now in
    let found = found_at (λ M. ByToken M now c.args.token None) c.self.inside.table.state node (ap (λ (n : NodeContent). n.table.state) c.self.view_is) c.in_default.ensures.read c.in_default.ensures.marks in
    cancel_none now c.args.token c.args.mid node found

pub returns-in_default-next_stamp : goal.returns-in_default-next_stamp
returns-in_default-next_stamp c =
    let now = ms_of c.args.now in
    let node = c.args.self.now in
    let x : Registration × Watch = (c.in-Some.view, c.in-Some.watch) in
    let found = found_at (λ M. ByToken M now c.args.token (Some x)) c.self.inside.table.state node (ap (λ (n : NodeContent). n.table.state) c.self.view_is) c.in-Some.ensures.read c.in-Some.ensures.marks in
    cancel_end now c.args.token c.args.mid node x found (c.in_default-next_stamp.ensures.end.0 refl)

pub returns-in_err-end : goal.returns-in_err-end
returns-in_err-end c =
    let now = ms_of c.args.now in
    let node = c.args.self.now in
    let x : Registration × Watch = (c.in-Some.view, c.in-Some.watch) in
    let found = found_at (λ M. ByToken M now c.args.token (Some x)) c.self.inside.table.state node (ap (λ (n : NodeContent). n.table.state) c.self.view_is) c.in-Some.ensures.read c.in-Some.ensures.marks in
    subst (Cancelled now c.args.token c.args.mid node) (sym (memory_is c.from_residual.result c.from_residual.ensures.1))
    (cancel_memory now c.args.token c.args.mid node x found c.in-Some-next_stamp.stamp c.in-Some-next_stamp.ensures.stamp.0 c.in-Some-next_stamp.ensures.stamp.1)

pub returns : goal.returns
returns c =
    let now = ms_of c.args.now in
    let node = c.args.self.now in
    let x : Registration × Watch = (c.in-Some.view, c.in-Some.watch) in
    let found = found_at (λ M. ByToken M now c.args.token (Some x)) c.self.inside.table.state node (ap (λ (n : NodeContent). n.table.state) c.self.view_is) c.in-Some.ensures.read c.in-Some.ensures.marks in
    cancel_some now c.args.token c.args.mid node x found c.in-Some-next_stamp.stamp c.in-Some-next_stamp.ensures.stamp.0 c.in-Some-next_stamp.ensures.stamp.1 c.in_ok-end.field-0 c.in_ok-end.ensures.operation c.in_ok-end.ensures.sent
