use Rattle.std.proofs.Common.{rules, subst, sym}
use Rattle.lw_fleet.specs.Program.{EndsRequest}
use Rattle.lw_fleet.proofs.running.run_request.Goals as goal

pub returns-in-One-clause-end : goal.returns-in-One-clause-end
returns-in-One-clause-end g c = search rules

pub returns-in-Run-clause-end : goal.returns-in-Run-clause-end
returns-in-Run-clause-end g c =
    subst (λ asked. EndsRequest asked (g.R.Read.remaining c.args.reader.now) (g.W.Write.contents c.args.writer.now) (g.W.Write.contents c.args.writer.now) c.run_server.result)
    (sym c.in-Run.is) (c.run_server.ensures.end (g.W.Write.contents c.args.writer.now))
