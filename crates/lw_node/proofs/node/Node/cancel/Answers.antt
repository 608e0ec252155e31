use Rattle.lw_stamp.specs.Moment.{ms_of}
use Rattle.lw_reg.specs.Marks.{among}
use Rattle.lw_reg.specs.Reading.{shown_in}
use Rattle.lw_node.specs.Calls.{issuer_at}
use Rattle.lw_node.specs.Effects.{CancelMeans}
use Rattle.lw_node.specs.Node.Known.{Shown, Told}
use Rattle.lw_node.proofs.Outcomes.{cancel_not_found, cancel_at_end}
use Rattle.lw_node.proofs.StepLemmas.{cancelled_next, done_sent}
use Rattle.lw_node.proofs.node.Node.cancel.Goals as goal

pub carry_out-requires : goal.carry_out-requires
carry_out-requires c = cancelled_next c.args.self.now _ _ _ c.decide_cancel-command.result _ c.clock-clock.ensures.value c.clock-clock.ensures.within c.decide_cancel-command.ensures

pub returns-clause-read : goal.returns-clause-read
returns-clause-read c = done_sent (CancelMeans (issuer_at c.args.self.now (ms_of c.args.now)) (shown_in c.args.self.now.table.state) c.args.token c.args.mid) c.args.self.now c.carry_out.new.self c.decide_cancel-command.result c.carry_out.result (c.decide_cancel-command.ensures Shown tt) c.carry_out.ensures.done

pub returns-clause-marks : goal.returns-clause-marks
returns-clause-marks c = λ ms knows. done_sent (CancelMeans (issuer_at c.args.self.now (ms_of c.args.now)) (among ms) c.args.token c.args.mid) c.args.self.now c.carry_out.new.self c.decide_cancel-command.result c.carry_out.result (c.decide_cancel-command.ensures (Told ms) knows) c.carry_out.ensures.done

pub returns-clause-not_found : goal.returns-clause-not_found
returns-clause-not_found c = cancel_not_found c.args.self.now c.carry_out.new.self (ms_of c.args.now) c.args.token c.args.mid c.carry_out.result (done_sent (CancelMeans (issuer_at c.args.self.now (ms_of c.args.now)) (shown_in c.args.self.now.table.state) c.args.token c.args.mid) c.args.self.now c.carry_out.new.self c.decide_cancel-command.result c.carry_out.result (c.decide_cancel-command.ensures Shown tt) c.carry_out.ensures.done)

pub returns-clause-clock_end : goal.returns-clause-clock_end
returns-clause-clock_end c = cancel_at_end c.args.self.now c.carry_out.new.self (ms_of c.args.now) c.args.token c.args.mid c.carry_out.result (done_sent (CancelMeans (issuer_at c.args.self.now (ms_of c.args.now)) (shown_in c.args.self.now.table.state) c.args.token c.args.mid) c.args.self.now c.carry_out.new.self c.decide_cancel-command.result c.carry_out.result (c.decide_cancel-command.ensures Shown tt) c.carry_out.ensures.done)
