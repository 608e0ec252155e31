-- What the lines at the head of a script come to.
use Rattle.std.specs.Prelude.{◌≡◌, ◌++◌, ℕ, List, [], ◌∷◌}
use Rattle.lw_world.specs.declared.event.Event.{Event}
use Rattle.lw_script.specs.declared.script.Progress.{Progress}
use Rattle.lw_script.specs.declared.script.Progress.TheVariants.{Blank, Read, Full}
use Rattle.lw_script.specs.Script.{ScriptContent, AreLines, IsEvent}

-- the lines are of a script, which is kept while there is memory
abbrev pub IsRead : Progress → List (List ℕ) → Type 0
IsRead Blank lines = lines ≡ []
IsRead (Read script) lines = AreLines script.nodes script.events lines
IsRead Full lines = (nodes : ℕ) × (events : List Event) × AreLines nodes events lines

-- a further line spells an event, which the script then has, or for which there is no memory
abbrev pub Continues : ScriptContent → List ℕ → Progress → Type 0
Continues script line Blank = ⊥
Continues script line (Read longer) = (event : Event) × IsEvent event line × (longer ≡ record { nodes = script.nodes; events = script.events ++ event ∷ [] })
Continues script line Full = (event : Event) × IsEvent event line
