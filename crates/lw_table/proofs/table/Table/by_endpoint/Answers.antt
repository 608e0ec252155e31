use Rattle.lw_stamp.specs.Moment.{ms_of}
use Rattle.lw_table.proofs.Answering.{read_by_endpoint, marks_by_endpoint}
use Rattle.lw_table.proofs.table.Table.by_endpoint.Goals as goal

pub returns-clause-read : goal.returns-clause-read
returns-clause-read c = read_by_endpoint c.args.self.now.state (ms_of c.args.now) c.args.endpoint.now c.view.result c.view.ensures

pub returns-clause-marks : goal.returns-clause-marks
returns-clause-marks c = marks_by_endpoint c.args.self.now.state (ms_of c.args.now) c.args.endpoint.now c.view.result c.view.ensures
