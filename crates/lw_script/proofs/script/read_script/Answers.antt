use Rattle.std.proofs.Common.{◌≡◌, ℕ, List, [], Ok, Err, rules}
use Rattle.lw_world.specs.declared.event.Event.{Event}
use Rattle.lw_script.specs.declared.script.ScriptFault.TheVariants.{NoMemory}
use Rattle.lw_script.specs.Script.{AreLines, lines_of}
use Rattle.lw_script.proofs.ScriptLemmas.{refused_when, no_blank}
use Rattle.lw_script.proofs.script.read_script.Goals as goal

pub returns-in-Ok-Read-clause-refused : goal.returns-in-Ok-Read-clause-refused
returns-in-Ok-Read-clause-refused c =
    let are : AreLines c.in-Ok-Read.script.nodes c.in-Ok-Read.script.events (lines_of c.args.bytes.now) = search rules in
    refused_when (lines_of c.args.bytes.now) (Ok c.in-Ok-Read.script) are

pub returns-in-Ok-Full-clause-refused : goal.returns-in-Ok-Full-clause-refused
returns-in-Ok-Full-clause-refused c =
    let are : (nodes : ℕ) × (events : List Event) × AreLines nodes events (lines_of c.args.bytes.now) = search rules in
    refused_when (lines_of c.args.bytes.now) (Err NoMemory) are

pub returns-in-Ok-Blank-clause-refused : goal.returns-in-Ok-Blank-clause-refused
returns-in-Ok-Blank-clause-refused c =
    let none : lines_of c.args.bytes.now ≡ [] = search rules in
    absurd (no_blank c.args.bytes.now none)
