use Rattle.lw_world.proofs.Making.{makes, makes_nothing, takes_act, observes_act, cancels_act, sweeps_act, asks_act}
use Rattle.lw_world.proofs.world.World.act.Goals as goal

pub returns-in-Take : goal.returns-in-Take
returns-in-Take c =
    makes c.args.self.now _ c.self.view_is c.args.place c.index_mut.result.now c.take.new.self c.args.action.now _ c.requires c.index_mut.ensures.value
    (λ messages k from sound are. takes_act messages k c.in-Take.now c.in-Take.from c.as_slice.result.now c.in-Take.bytes c.args.action.now c.as_slice.ensures c.in-Take.is c.take.result _ c.take.new.self from c.take.ensures.marks c.take.ensures.unchanged c.take.ensures.silent)

pub returns-in-Observe : goal.returns-in-Observe
returns-in-Observe c =
    makes c.args.self.now _ c.self-in-Observe.view_is c.args.place c.index_mut-in-Observe.result.now c.observe-outcome.new.self c.args.action.now _ c.requires c.index_mut-in-Observe.ensures.value
    (λ messages k from sound are. observes_act messages k c.in-Observe.now c.in-Observe.id c.in-Observe.path c.in-Observe.accept c.in-Observe.mid c.args.action.now c.in-Observe.is c.observe-outcome.result _ c.observe-outcome.new.self from c.observe-outcome.ensures.marks)

pub returns-in-Cancel : goal.returns-in-Cancel
returns-in-Cancel c =
    makes c.args.self.now _ c.self-in-Cancel.view_is c.args.place c.index_mut-in-Cancel.result.now c.cancel.new.self c.args.action.now _ c.requires c.index_mut-in-Cancel.ensures.value
    (λ messages k from sound are. cancels_act messages k c.in-Cancel.now c.in-Cancel.token c.in-Cancel.mid c.args.action.now c.in-Cancel.is c.cancel.result _ c.cancel.new.self from c.cancel.ensures.marks)

pub returns-in-Sweep : goal.returns-in-Sweep
returns-in-Sweep c =
    makes c.args.self.now _ c.self-in-Sweep.view_is c.args.place c.index_mut-in-Sweep.result.now c.sweep.new.self c.args.action.now _ c.requires c.index_mut-in-Sweep.ensures.value
    (λ messages k from sound are. sweeps_act messages k c.in-Sweep.now c.args.action.now c.in-Sweep.is c.sweep.result _ c.sweep.new.self from c.sweep.ensures.marks)

pub returns-in-Ask : goal.returns-in-Ask
returns-in-Ask c =
    makes_nothing c.args.self.now _ c.self-in-Ask.view_is c.args.place c.index.result.now c.args.action.now _ c.requires c.index.ensures
    (λ messages k from are. asks_act messages k c.in-Ask.now c.in-Ask.question c.args.action.now c.in-Ask.is c.ask.result _ from c.ask.ensures)
