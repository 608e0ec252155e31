use Rattle.std.proofs.Common.{sym, refl}
use Rattle.std.proofs.lemmas.Option.{slice_get_read}
use Rattle.lw_log.specs.Calls.{place_of}
use Rattle.lw_replica.proofs.Taking.{places_take}
use Rattle.lw_replica.proofs.looking.last_place.Goals as goal

pub loop-position-preserved : goal.loop-position-preserved
loop-position-preserved c =
    let item = slice_get_read _ _ _ _ refl c.loop-position-test.true c.loop-position-item.is in
    sym (places_take c.args.page.now c.loop-position.position-index c.loop-position-item.result (place_of c.args.before) item)
