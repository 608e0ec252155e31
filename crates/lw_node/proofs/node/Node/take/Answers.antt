use Rattle.std.proofs.Common.{subst, sym}
use Rattle.lw_stamp.specs.Moment.{ms_of}
use Rattle.lw_reg.specs.Marks.{among}
use Rattle.lw_reg.specs.Reading.{shown_in}
use Rattle.lw_node.specs.Calls.{issuer_at}
use Rattle.lw_node.specs.inner.Calls.{DecisionContent, Decided}
use Rattle.lw_node.specs.Effects.{DatagramMeans}
use Rattle.lw_node.specs.Node.{NodeContent}
use Rattle.lw_node.specs.Node.Known.{Shown, Told}
use Rattle.lw_node.specs.Within.{FitsClock}
use Rattle.lw_node.proofs.NextOperation.{datagram_next}
use Rattle.lw_node.proofs.Outcomes.{taken_so}
use Rattle.lw_node.proofs.node.Node.take.Goals as goal

pub commit-requires : goal.commit-requires
commit-requires c =
    let node = c.args.self.now in
    let decided = subst (λ (d : DecisionContent). Decided node.table.state (λ M. DatagramMeans (issuer_at node (ms_of c.args.now)) M c.args.from c.args.bytes.now) d) (sym c.reply.view_is) c.in_ok-reply.ensures.meaning in
    let fits : FitsClock node.clock node.table.state = subst (λ (n : NodeContent). FitsClock n.clock n.table.state) c.self.view_is c.self.invariant.1 in
    datagram_next (issuer_at node (ms_of c.args.now)) node.table.state fits c.args.from c.args.bytes.now _ (decided Shown tt).meant

pub returns-clause-read : goal.returns-clause-read
returns-clause-read c =
    let node = c.args.self.now in
    let decided = subst (λ (d : DecisionContent). Decided node.table.state (λ M. DatagramMeans (issuer_at node (ms_of c.args.now)) M c.args.from c.args.bytes.now) d) (sym c.reply.view_is) c.in_ok-reply.ensures.meaning in
    taken_so (DatagramMeans (issuer_at node (ms_of c.args.now)) (shown_in node.table.state) c.args.from c.args.bytes.now) node c.commit.new.self _ (decided Shown tt) c.in_ok-commit.ensures.left

pub returns-clause-marks : goal.returns-clause-marks
returns-clause-marks c = λ ms knows.
    let node = c.args.self.now in
    let decided = subst (λ (d : DecisionContent). Decided node.table.state (λ M. DatagramMeans (issuer_at node (ms_of c.args.now)) M c.args.from c.args.bytes.now) d) (sym c.reply.view_is) c.in_ok-reply.ensures.meaning in
    taken_so (DatagramMeans (issuer_at node (ms_of c.args.now)) (among ms) c.args.from c.args.bytes.now) node c.commit.new.self _ (decided (Told ms) knows) c.in_ok-commit.ensures.left
