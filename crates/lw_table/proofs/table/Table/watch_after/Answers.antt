use Rattle.std.specs.Option.{option_copied}
use Rattle.lw_stamp.specs.Moment.{ms_of}
use Rattle.lw_reg.specs.Marks.{among}
use Rattle.lw_table.proofs.Answering.{no_watch, read_watch_of, marks_watch_of}
use Rattle.lw_table.proofs.table.Table.watch_after.Goals as goal

pub returns-in-None-clause-marks : goal.returns-in-None-clause-marks
returns-in-None-clause-marks c ms p s =
    no_watch c.args.self.now.state (ms_of c.args.now) c.args.id (option_copied c.args.after) (among ms) (c.in-None.ensures.marks ms p s)

pub returns-in-Some-clause-read : goal.returns-in-Some-clause-read
returns-in-Some-clause-read c =
    read_watch_of c.args.self.now.state (ms_of c.args.now) c.args.id (option_copied c.args.after) c.in-Some.view c.in-Some.ensures.read c.watch_of.result c.watch_of.ensures

pub returns-in-Some-clause-marks : goal.returns-in-Some-clause-marks
returns-in-Some-clause-marks c ms p s =
    marks_watch_of c.args.self.now.state (ms_of c.args.now) c.args.id (option_copied c.args.after) c.in-Some.view c.watch_of.result c.watch_of.ensures ms p s (c.in-Some.ensures.marks ms p s)
