use Rattle.std.proofs.Common.{◌≡◌, Some, rules}
use Rattle.std.specs.Result.{result_err}
use Rattle.lw_script.specs.declared.fault.LineFault.TheVariants.{Refused}
use Rattle.lw_script.proofs.ScriptLemmas.{no_event}
use Rattle.lw_script.proofs.script.is_event.Goals as goal

pub returns-in-Some-Refused : goal.returns-in-Some-Refused
returns-in-Some-Refused c =
    let refused : result_err c.event_of.result ≡ Some Refused = search rules in
    ((λ yes. absurd cc), (λ is. absurd (no_event c.args.line.now c.event_of.result refused c.event_of.ensures is.0 is.1)))
