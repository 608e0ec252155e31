use Rattle.lw_stamp.specs.Moment.{ms_of}
use Rattle.lw_reg.specs.Marks.{among}
use Rattle.lw_reg.specs.Reading.{shown_in}
use Rattle.lw_node.specs.Calls.{issuer_at}
use Rattle.lw_node.specs.Effects.{ObserveMeans}
use Rattle.lw_node.specs.Node.Known.{Shown, Told}
use Rattle.lw_node.proofs.Outcomes.{observe_not_found, observe_at_end}
use Rattle.lw_node.proofs.StepLemmas.{observed_next, done_sent}
use Rattle.lw_node.proofs.node.Node.observe.Goals as goal

pub carry_out-requires : goal.carry_out-requires
carry_out-requires c = observed_next c.args.self.now _ _ _ _ _ c.decide_observe-command.result _ c.clock-clock.ensures.value c.clock-clock.ensures.within c.decide_observe-command.ensures

pub returns-clause-read : goal.returns-clause-read
returns-clause-read c = done_sent (ObserveMeans (issuer_at c.args.self.now (ms_of c.args.now)) (shown_in c.args.self.now.table.state) c.args.id c.args.path c.args.accept c.args.mid) c.args.self.now c.carry_out.new.self c.decide_observe-command.result c.carry_out.result (c.decide_observe-command.ensures Shown tt) c.carry_out.ensures.done

pub returns-clause-marks : goal.returns-clause-marks
returns-clause-marks c = λ ms knows. done_sent (ObserveMeans (issuer_at c.args.self.now (ms_of c.args.now)) (among ms) c.args.id c.args.path c.args.accept c.args.mid) c.args.self.now c.carry_out.new.self c.decide_observe-command.result c.carry_out.result (c.decide_observe-command.ensures (Told ms) knows) c.carry_out.ensures.done

pub returns-clause-not_found : goal.returns-clause-not_found
returns-clause-not_found c = observe_not_found c.args.self.now c.carry_out.new.self (ms_of c.args.now) c.args.id c.args.path c.args.accept c.args.mid c.carry_out.result (done_sent (ObserveMeans (issuer_at c.args.self.now (ms_of c.args.now)) (shown_in c.args.self.now.table.state) c.args.id c.args.path c.args.accept c.args.mid) c.args.self.now c.carry_out.new.self c.decide_observe-command.result c.carry_out.result (c.decide_observe-command.ensures Shown tt) c.carry_out.ensures.done)

pub returns-clause-clock_end : goal.returns-clause-clock_end
returns-clause-clock_end c = observe_at_end c.args.self.now c.carry_out.new.self (ms_of c.args.now) c.args.id c.args.path c.args.accept c.args.mid c.carry_out.result (done_sent (ObserveMeans (issuer_at c.args.self.now (ms_of c.args.now)) (shown_in c.args.self.now.table.state) c.args.id c.args.path c.args.accept c.args.mid) c.args.self.now c.carry_out.new.self c.decide_observe-command.result c.carry_out.result (c.decide_observe-command.ensures Shown tt) c.carry_out.ensures.done)
