-- What the program prints of a script: a line of what comes of each event of a run.
use Rattle.std.specs.Prelude.{◌≡◌, ◌≢◌, ◌⊎◌, ◌≤◌, ◌<◌, ◌++◌, ℕ, List, [], ◌∷◌, length, slice_get, Option, None, Ok, IfSome}
use Rattle.std.specs.Option.{unwrap_or}
use Rattle.std.specs.Io.KnownBytes.{Appends, Keeps}
use Rattle.lw_world.specs.declared.event.Event.{Event}
use Rattle.lw_world.specs.declared.outcome.Outcome.{Outcome}
use Rattle.lw_world.specs.declared.outcome.Outcome.TheVariants.{Sent}
use Rattle.lw_world.specs.Run.{History, Runs, begun}
use Rattle.lw_world.specs.World.{world_of}
use Rattle.lw_json.specs.Lines.{outcome_text}
use Rattle.lw_script.specs.Script.{lines_of, IsFirstBad, IsScript}
use Rattle.lw_fleet.specs.declared.fault.Fault.{Fault}
use Rattle.lw_fleet.specs.declared.fault.Fault.TheVariants.{AddressRefused, TooLong, HexRefused, LineRefused, WriteFailed, NoMemory}
use Rattle.lw_serve.specs.Ending.{AppendsFront}

-- how many bytes a script may have, its line feeds counted
abbrev pub longest_script : ℕ
longest_script = 1048576

-- the bytes of the message that was sent, where one was
abbrev pub message_of : List (List ℕ) → Outcome → Option (List ℕ)
message_of messages (Sent (Ok sending)) = slice_get messages sending.message
message_of messages outcome = None

-- the line of what comes of an event, in a run of these messages
abbrev pub line_text : List (List ℕ) → Outcome → List ℕ
line_text messages outcome = outcome_text outcome (unwrap_or (message_of messages outcome) [])

-- the lines of what comes of the events, one behind another
abbrev pub lines_text : List (List ℕ) → List Outcome → List ℕ
lines_text messages [] = []
lines_text messages (o ∷ os) = line_text messages o ++ lines_text messages os

-- The bytes are a script. Its events have these outcomes in a run of new nodes, and the text has their lines.
pub record IsReplayed (script text : List ℕ) : Type 0 where
  pub nodes : ℕ
  pub events : List Event
  pub outcomes : List Outcome
  pub history : History
  pub fits : length script ≤ longest_script
  pub is : IsScript nodes events script
  pub runs : Runs (begun nodes) events outcomes history
  pub text_is : text ≡ lines_text (world_of history).messages outcomes

-- the lines of a run of the input are appended
abbrev pub Replays : Option (List ℕ) → Option (List ℕ) → Option (List ℕ) → Type 0
Replays input before after = IfSome input (λ bytes. (text : List ℕ) × IsReplayed bytes text × Appends before after text)

-- a front of them is appended
abbrev pub ReplaysFront : Option (List ℕ) → Option (List ℕ) → Option (List ℕ) → Type 0
ReplaysFront input before after = IfSome input (λ bytes. (text : List ℕ) × IsReplayed bytes text × AppendsFront before after text)

-- The replay of an input stopped at a fault: of an input that is no script, at its first bad line and before anything
-- is written.
pub record IsReplayStopped (input before after : Option (List ℕ)) (fault : Fault) : Type 0 where
  pub too_long : fault ≡ TooLong → IfSome input (λ bytes. longest_script < length bytes)
  pub refused : (line : ℕ) → fault ≡ LineRefused line
      → IfSome input (λ bytes. (length bytes ≤ longest_script) × IsFirstBad (lines_of bytes) line)
  pub front : fault ≡ WriteFailed → ReplaysFront input before after
  pub memory : fault ≡ NoMemory → Keeps before after ⊎ ReplaysFront input before after
  pub nothing : fault ≢ WriteFailed → fault ≢ NoMemory → Keeps before after
  pub of_one : (fault ≢ AddressRefused) × (fault ≢ HexRefused)
