use Rattle.std.proofs.Common.{Some, None, subst, sym, ap, refl}
use Rattle.lw_stamp.specs.Moment.{ms_of}
use Rattle.lw_table.specs.LookUps.{ById}
use Rattle.lw_node.specs.Node.{NodeContent}
use Rattle.lw_node.proofs.Commanding.{found_at, memory_is, Observed, observe_none, observe_end, observe_some, observe_memory}
use Rattle.lw_node.proofs.node.Node.decide_observe.Goals as goal

pub returns-in_default : goal.returns-in_default
returns-in_default c =
    let now = ms_of c.args.now in
    let node = c.args.self.now in
    let found = found_at (λ M. ById M now c.args.id None) c.self.inside.table.state node (ap (λ (n : NodeContent). n.table.state) c.self.view_is) c.in_default.ensures.read c.in_default.ensures.marks in
    observe_none now c.args.id c.args.path c.args.accept c.args.mid node found

pub returns-in_default-next_stamp : goal.returns-in_default-next_stamp
returns-in_default-next_stamp c =
    let now = ms_of c.args.now in
    let node = c.args.self.now in
    let found = found_at (λ M. ById M now c.args.id (Some c.in-Some.view)) c.self.inside.table.state node (ap (λ (n : NodeContent). n.table.state) c.self.view_is) c.in-Some.ensures.read c.in-Some.ensures.marks in
    observe_end now c.args.id c.args.path c.args.accept c.args.mid node c.in-Some.view found (c.in_default-next_stamp.ensures.end.0 refl)

pub returns-in_err-observation : goal.returns-in_err-observation
returns-in_err-observation c =
    let now = ms_of c.args.now in
    let node = c.args.self.now in
    let found = found_at (λ M. ById M now c.args.id (Some c.in-Some.view)) c.self.inside.table.state node (ap (λ (n : NodeContent). n.table.state) c.self.view_is) c.in-Some.ensures.read c.in-Some.ensures.marks in
    subst (Observed now c.args.id c.args.path c.args.accept c.args.mid node) (sym (memory_is c.from_residual.result c.from_residual.ensures.1))
    (observe_memory now c.args.id c.args.path c.args.accept c.args.mid node c.in-Some.view found c.in-Some-next_stamp.token c.in-Some-next_stamp.ensures.stamp.0 c.in-Some-next_stamp.ensures.stamp.1)

pub returns : goal.returns
returns c =
    let now = ms_of c.args.now in
    let node = c.args.self.now in
    let found = found_at (λ M. ById M now c.args.id (Some c.in-Some.view)) c.self.inside.table.state node (ap (λ (n : NodeContent). n.table.state) c.self.view_is) c.in-Some.ensures.read c.in-Some.ensures.marks in
    observe_some now c.args.id c.args.path c.args.accept c.args.mid node c.in-Some.view found c.in-Some-next_stamp.token c.in-Some-next_stamp.ensures.stamp.0 c.in-Some-next_stamp.ensures.stamp.1 c.in_ok-observation.field-0 c.in_ok-observation.ensures.operation c.in_ok-observation.ensures.sent
