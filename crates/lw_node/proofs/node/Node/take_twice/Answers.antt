use Rattle.std.proofs.Common.{rules, subst}
use Rattle.lw_stamp.specs.Moment.{ms_of}
use Rattle.lw_node.specs.Calls.{issuer_at}
use Rattle.lw_node.specs.Effects.{DatagramMeans}
use Rattle.lw_node.specs.Node.{NodeContent, marks_in}
use Rattle.lw_node.specs.Within.{FitsClock}
use Rattle.lw_node.proofs.StepLemmas.{decided_next, taken_so}
use Rattle.lw_node.proofs.node.Node.take_twice.Goals as goal

pub commit-requires : goal.commit-requires
commit-requires c =
    let fits = subst (λ (n : NodeContent). FitsClock n.clock n.table.state) c.self.view_is c.self.invariant.1 in
    decided_next c.args.self.now (ms_of c.args.now) c.args.from c.args.bytes.now _ _ c.reply.view_is fits c.in_ok-reply.ensures.meaning

pub returns-clause-taken : goal.returns-clause-taken
returns-clause-taken c = λ known is.
    taken_so (DatagramMeans (issuer_at c.args.self.now (ms_of c.args.now)) (marks_in c.args.self.now.table.state known) c.args.from c.args.bytes.now) _ _ c.reply.view_is (c.in_ok-reply.ensures.meaning known is) c.args.self.now c.commit.new.self c.in_ok-commit.ensures.left

pub returns-in_err-copy-clause-unchanged : goal.returns-in_err-copy-clause-unchanged
returns-in_err-copy-clause-unchanged c = search rules
