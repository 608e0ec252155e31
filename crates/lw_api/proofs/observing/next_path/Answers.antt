use Rattle.std.proofs.Common.{Some, None, refl}
use Rattle.lw_stamp.specs.Moment.{ms_of}
use Rattle.lw_api.specs.Answers.{GoesOnAt}
use Rattle.lw_api.proofs.Knowing.{of_known}
use Rattle.lw_api.proofs.observing.next_path.Goals as goal

pub returns-in-Some : goal.returns-in-Some
returns-in-Some c =
    of_known c.args.node.now.table.state (λ M. GoesOnAt M (ms_of c.args.now) c.args.id (Some c.args.last) (Some c.args.last))
    (refl, (c.in-Some.field-0, c.in-Some.ensures.read)) (λ ms known. (refl, (c.in-Some.field-0, c.in-Some.ensures.marks ms known)))

pub returns-in-None : goal.returns-in-None
returns-in-None c =
    of_known c.args.node.now.table.state (λ M. GoesOnAt M (ms_of c.args.now) c.args.id (Some c.args.last) None) c.in-None.ensures.read c.in-None.ensures.marks
