use Rattle.lw_world.proofs.Making.{made_steps, missed_steps}
use Rattle.lw_world.proofs.world.World.step.Goals as goal

pub returns-in-Some : goal.returns-in-Some
returns-in-Some c = made_steps c.args.self.now c.act.new.self c.args.event.now c.in-Some.place c.in-Some.ensures.some.0 c.act.result c.act.ensures

pub returns-in-None : goal.returns-in-None
returns-in-None c = missed_steps c.args.self.now c.args.event.now c.in-None.ensures.none
