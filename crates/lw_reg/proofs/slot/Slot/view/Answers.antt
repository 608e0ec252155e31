use Rattle.lw_stamp.specs.Moment.{ms_of}
use Rattle.lw_reg.proofs.Contracts.{view_read, view_marks}
use Rattle.lw_reg.proofs.slot.Slot.view.Goals as goal

pub returns-clause-read : goal.returns-clause-read
returns-clause-read c = view_read c.args.self.now (ms_of c.args.now) c.args.endpoint.now c.shown.result c.shown.ensures

pub returns-clause-marks : goal.returns-clause-marks
returns-clause-marks c = view_marks c.args.self.now (ms_of c.args.now) c.args.endpoint.now c.shown.result c.shown.ensures
