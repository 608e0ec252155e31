use Rattle.std.proofs.Common.{[], arith}
use Rattle.lw_resp.specs.Bytes.{bulk_bytes}
use Rattle.lw_resp.specs.Words.{IsBulk}
use Rattle.lw_resp.proofs.Composed.{none_come}
use Rattle.lw_resp.proofs.bulks.first_bulk.Goals as goal

pub returns-in-None : goal.returns-in-None
returns-in-None c = none_come IsBulk bulk_bytes c.args.bytes.now [] (omega arith) (omega arith) c.in-None.ensures.cases
