use Rattle.std.proofs.Common.{◌≡◌, Err, ap, subst, option_map}
use Rattle.lw_log.specs.Entries.{EntryContent, content_of}
use Rattle.lw_redis_log.specs.Fleets.{delta_fleet}
use Rattle.lw_redis_log.proofs.fleets.fleet_of_delta.Goals as goal

pub returns-in-Ok : goal.returns-in-Ok
returns-in-Ok c = record {
  found = (content_of c.in-Ok.entry, c.in-Ok.ensures.found, c.fleet_in.ensures);
  only = λ e is. subst (λ (x : EntryContent). option_map (λ f. f.bytes) c.fleet_in.result ≡ delta_fleet x) (c.in-Ok.ensures.only e is) c.fleet_in.ensures;
  faults = λ fault. (λ e. absurd cc, λ is. let no = (c.in-Ok.ensures.faults fault).1 is in absurd cc);
}

pub returns-in-Err-clause-faults : goal.returns-in-Err-clause-faults
returns-in-Err-clause-faults c = λ fault.
    (λ e. (c.in-Err.ensures.faults fault).0 (let same : c.in-Err.fault ≡ fault = cc in ap Err same), λ is. let e = (c.in-Err.ensures.faults fault).1 is in cc)
