use Rattle.lw_server.proofs.Turns.{is_tick, tick_fails, tick_stays}
use Rattle.lw_server.proofs.server.Server.tick.Goals as goal

pub returns-clause-turn : goal.returns-clause-turn
returns-clause-turn g c = is_tick _ _ _ _ c.new.ensures.items c.in_ok-take.ensures.turn

pub returns-clause-bodies : goal.returns-clause-bodies
returns-clause-bodies g c = tick_stays _ _ _ _ c.new.ensures.items c.in_ok-take.ensures.turn

pub returns-in_err-take-clause-bodies : goal.returns-in_err-take-clause-bodies
returns-in_err-take-clause-bodies g c = tick_fails c.args.self.now.kept c.args.self.now.steady _ _ _ c.new.ensures.items c.in_err-take.ensures.bodies
