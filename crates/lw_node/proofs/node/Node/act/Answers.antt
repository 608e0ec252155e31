use Rattle.std.proofs.Common.{refl, subst}
use Rattle.std.specs.Prelude.{List, ℕ, IfOk}
use Rattle.lw_stamp.specs.Moment.{ms_of}
use Rattle.lw_call.specs.declared.call.Call.TheVariants as calls
use Rattle.lw_call.specs.declared.reply.Reply.TheVariants as replies
use Rattle.lw_node.specs.Calls.{Takes, Observes, Cancels, Sweeps}
use Rattle.lw_node.specs.Exchange.{Merges}
use Rattle.lw_node.specs.Node.{marks_in}
use Rattle.lw_node.proofs.StepLemmas.{by_known, take_steps, steps_as}
use Rattle.lw_node.proofs.node.Node.act.Goals as goal

pub returns-in-Take : goal.returns-in-Take
returns-in-Take c = λ known is.
    let taken = by_known (λ M. IfOk c.take.result (λ t. Takes c.args.self.now M (ms_of c.in-Take.now) c.in-Take.from c.as_slice.result.now t c.take.new.self)) c.args.self.now c.take.ensures.read c.take.ensures.marks known is in
    take_steps c.args.self.now c.take.new.self (marks_in c.args.self.now.table.state known) c.in-Take.now c.in-Take.from c.as_slice.result.now c.in-Take.bytes c.as_slice.ensures c.args.call.now c.in-Take.is c.take.result taken c.take.ensures.unchanged c.take.ensures.silent

pub returns-in-Observe : goal.returns-in-Observe
returns-in-Observe c = λ known is.
    let a = c.in-Observe in
    let observed = by_known (λ M. Observes c.args.self.now M (ms_of a.now) a.id a.path a.accept a.mid c.observe.result c.observe.new.self) c.args.self.now c.observe.ensures.read c.observe.ensures.marks known is in
    steps_as c.args.self.now c.observe.new.self (marks_in c.args.self.now.table.state known) (calls.Observe a.now a.id a.path a.accept a.mid) c.args.call.now (replies.Observe c.observe.result) a.is observed

pub returns-in-Cancel : goal.returns-in-Cancel
returns-in-Cancel c = λ known is.
    let a = c.in-Cancel in
    let cancelled = by_known (λ M. Cancels c.args.self.now M (ms_of a.now) a.token a.mid c.cancel.result c.cancel.new.self) c.args.self.now c.cancel.ensures.read c.cancel.ensures.marks known is in
    steps_as c.args.self.now c.cancel.new.self (marks_in c.args.self.now.table.state known) (calls.Cancel a.now a.token a.mid) c.args.call.now (replies.Cancel c.cancel.result) a.is cancelled

pub returns-in-Send : goal.returns-in-Send
returns-in-Send c = λ known is.
    steps_as c.args.self.now c.args.self.now (marks_in c.args.self.now.table.state known) (calls.Send c.in-Send.since) c.args.call.now (replies.Send c.send.result) c.in-Send.is (c.send.ensures, refl)

pub returns-in-Merge : goal.returns-in-Merge
returns-in-Merge c = λ known is.
    let merged = subst (λ (bytes : List ℕ). Merges c.args.self.now bytes c.merge.result c.merge.new.self) c.as_slice-in-Merge.ensures c.merge.ensures.merges in
    steps_as c.args.self.now c.merge.new.self (marks_in c.args.self.now.table.state known) (calls.Merge c.in-Merge.bytes) c.args.call.now (replies.Merge c.merge.result) c.in-Merge.is merged

pub returns-in-Ask : goal.returns-in-Ask
returns-in-Ask c = λ known is.
    steps_as c.args.self.now c.args.self.now (marks_in c.args.self.now.table.state known) (calls.Ask c.in-Ask.now c.in-Ask.question) c.args.call.now (replies.Ask c.ask.result) c.in-Ask.is (c.ask.ensures known is, refl)

pub returns-in-Sweep : goal.returns-in-Sweep
returns-in-Sweep c = λ known is.
    let a = c.in-Sweep in
    let swept = by_known (λ M. Sweeps c.args.self.now M (ms_of a.now) c.sweep.result c.sweep.new.self) c.args.self.now c.sweep.ensures.read c.sweep.ensures.marks known is in
    steps_as c.args.self.now c.sweep.new.self (marks_in c.args.self.now.table.state known) (calls.Sweep a.now) c.args.call.now (replies.Sweep c.sweep.result) a.is swept
