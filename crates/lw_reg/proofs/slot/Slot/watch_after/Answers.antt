use Rattle.std.specs.Option.{option_copied}
use Rattle.lw_stamp.specs.Moment.{ms_of}
use Rattle.lw_reg.proofs.Contracts.{after_read, after_marks}
use Rattle.lw_reg.proofs.slot.Slot.watch_after.Goals as goal

pub returns-clause-read : goal.returns-clause-read
returns-clause-read c = after_read c.args.self.now (ms_of c.args.now) (option_copied c.args.after) c.live_after.result c.live_after.ensures

pub returns-clause-marks : goal.returns-clause-marks
returns-clause-marks c = after_marks c.args.self.now (ms_of c.args.now) (option_copied c.args.after) c.live_after.result c.live_after.ensures
