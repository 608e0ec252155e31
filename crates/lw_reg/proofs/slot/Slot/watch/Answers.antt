use Rattle.lw_stamp.specs.Moment.{ms_of}
use Rattle.lw_reg.proofs.Contracts.{watch_read, watch_marks}
use Rattle.lw_reg.proofs.slot.Slot.watch.Goals as goal

pub returns-clause-read : goal.returns-clause-read
returns-clause-read c = watch_read c.args.self.now (ms_of c.args.now) c.args.token c.live_with.result c.live_with.ensures

pub returns-clause-marks : goal.returns-clause-marks
returns-clause-marks c = watch_marks c.args.self.now (ms_of c.args.now) c.args.token c.live_with.result c.live_with.ensures
