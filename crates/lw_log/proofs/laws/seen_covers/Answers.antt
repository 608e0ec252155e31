use Rattle.lw_log.proofs.Seen.{seen_covers, own_appends_cover}
use Rattle.lw_log.proofs.laws.seen_covers.Goals as goal

pub returns : goal.returns
returns c = record { kept = seen_covers; own = own_appends_cover }
