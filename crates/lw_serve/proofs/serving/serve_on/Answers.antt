use Rattle.lw_serve.specs.Runs.{HasCause, IsServed}
use Rattle.lw_serve.proofs.Causes.{some_cause, some_served}
use Rattle.lw_serve.proofs.serving.serve_on.Goals as goal

pub returns-clause-served : goal.returns-clause-served
returns-clause-served g c = some_served (IsServed c.args.plan.now) c.serve_into.new.sink.volumes.items c.serve_into.result c.serve_into.ensures.served

pub returns-clause-cause : goal.returns-clause-cause
returns-clause-cause g c = some_cause (HasCause c.args.plan.now) c.serve_into.new.sink.volumes.items c.serve_into.result c.serve_into.ensures.cause
