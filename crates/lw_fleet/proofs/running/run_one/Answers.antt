use Rattle.std.proofs.Common.{inl, Err, ap, sym, subst}
use Rattle.lw_fleet.specs.declared.fault.Fault.{Fault}
use Rattle.lw_fleet.specs.declared.running.Ending.{Ending}
use Rattle.lw_fleet.specs.Program.{EndsOne, IsStopped}
use Rattle.lw_fleet.proofs.running.run_one.Goals as goal

pub returns-in-Ok-clause-end : goal.returns-in-Ok-clause-end
returns-in-Ok-clause-end g c = (λ none. let clash = c.in-Ok.ensures.address_refused.1 none in cc, c.in-Ok.ensures.printed)

pub returns-in-Err-clause-end : goal.returns-in-Err-clause-end
returns-in-Err-clause-end g c =
    let it = c.in-Err.ensures in
    let stopped : IsStopped c.args.options.now (g.R.Read.remaining c.args.reader.now) (g.W.Write.contents c.args.writer.now) (g.W.Write.contents c.one.new.writer) c.in-Err.fault = record {
      address = λ is. it.address_refused.0 (ap (λ (fault : Fault). Err fault) is);
      address_first = λ none. inl (let same = it.address_refused.1 none in cc);
      too_long = λ is. it.too_long (ap (λ (fault : Fault). Err fault) is);
      hex = λ is. it.hex_refused (ap (λ (fault : Fault). Err fault) is);
      front = λ is. it.front (ap (λ (fault : Fault). Err fault) is);
      nothing = it.nothing;
      no_script = it.no_script;
    } in
    subst (λ (ending : Ending). EndsOne c.args.options.now (g.R.Read.remaining c.args.reader.now) (g.W.Write.contents c.args.writer.now) (g.W.Write.contents c.one.new.writer) ending) (sym c.fail.ensures.ending.1) stopped
