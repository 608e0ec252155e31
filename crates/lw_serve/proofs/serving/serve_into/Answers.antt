use Rattle.lw_serve.specs.Runs.{HasCause}
use Rattle.lw_serve.proofs.Causes.{failed, finished, raised, rounds_cause}
use Rattle.lw_serve.proofs.serving.serve_into.Goals as goal

pub returns-in_err-server-clause-cause : goal.returns-in_err-server-clause-cause
returns-in_err-server-clause-cause g c = raised (HasCause c.args.plan.now (g.S.VolumeSink.kept c.serve_rounds.new.sink)) c.from_residual.result c.from_residual.ensures.1 (rounds_cause _ _ _ c.in_err-server.ensures.fault)

pub returns-clause-served : goal.returns-clause-served
returns-clause-served g c = finished _ _ _ _ _ _ c.in_ok-server.ensures.over c.finish.ensures.finished

pub returns-clause-cause : goal.returns-clause-cause
returns-clause-cause g c = failed _ _ _ _ _ _ c.in_ok-server.ensures.over c.finish.ensures.fault
