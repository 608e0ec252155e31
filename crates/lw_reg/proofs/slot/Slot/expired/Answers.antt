use Rattle.lw_stamp.specs.Moment.{ms_of}
use Rattle.lw_reg.proofs.Contracts.{late_read, late_marks}
use Rattle.lw_reg.proofs.slot.Slot.expired.Goals as goal

pub returns-clause-read : goal.returns-clause-read
returns-clause-read c = late_read c.args.self.now (ms_of c.args.now) c.is_late.result c.is_late.ensures

pub returns-clause-marks : goal.returns-clause-marks
returns-clause-marks c = late_marks c.args.self.now (ms_of c.args.now) c.is_late.result c.is_late.ensures
