use Rattle.std.proofs.Common.{sym, subst}
use Rattle.lw_stamp.specs.Moment.{ms_of}
use Rattle.lw_fleet.specs.CommandLine.{Writes}
use Rattle.lw_fleet.proofs.command.options_in.Goals as goal

pub returns-in_default-moment-clause-none : goal.returns-in_default-moment-clause-none
returns-in_default-moment-clause-none c = λ o given.
    c.in_default-moment.ensures.none o.now (subst (λ text. Writes text (ms_of o.now)) (sym c.text_of-2.ensures) given.now)
