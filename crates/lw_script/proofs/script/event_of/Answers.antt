use Rattle.lw_script.proofs.ScriptLemmas.{event_reads}
use Rattle.lw_script.proofs.script.event_of.Goals as goal

pub returns-in-Ok : goal.returns-in-Ok
returns-in-Ok c =
    event_reads c.args.line.now c.in-Ok.text.now _ c.in-Ok.ensures.cases.0 c.in-Ok.ensures.cases.1 c.read_line.ensures
