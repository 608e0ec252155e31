-- How a run of the program ends, and what it then wrote.
use Rattle.std.specs.Prelude.{◌≡◌, ◌≢◌, ◌⊎◌, ◌<◌, ℕ, List, length, Option, IfSome, IsErr, Bool, ⊤}
use Rattle.std.specs.Io.KnownBytes.{Appends, Keeps}
use Rattle.hex.specs.Hex.{decode_of}
use Rattle.clap.specs.Words.{Text}
use Rattle.lw_fleet.specs.declared.command.OneOptions.{OneOptions}
use Rattle.lw_fleet.specs.declared.command.Request.{Request}
use Rattle.lw_fleet.specs.declared.command.Request.TheVariants.{One, Replay, Serve, Run}
use Rattle.lw_fleet.specs.declared.fault.Fault.{Fault}
use Rattle.lw_fleet.specs.declared.fault.Fault.TheVariants.{AddressRefused, TooLong, HexRefused, LineRefused, WriteFailed, NoMemory}
use Rattle.lw_fleet.specs.declared.running.Ending.{Ending}
use Rattle.lw_fleet.specs.declared.running.Ending.TheVariants.{Done, Failed, Unserved, Stopped, Refused}
use Rattle.lw_fleet.specs.CommandLine.{Asks, AsksForText, IsMistaken}
use Rattle.lw_fleet.specs.Fault.{IsTold}
use Rattle.lw_fleet.specs.Line.{line_of, longest_line}
use Rattle.lw_fleet.specs.One.{IsAddressText, Prints, PrintsFront}
use Rattle.lw_fleet.specs.Replay.{Replays, IsReplayStopped}
use Rattle.lw_fleet.specs.RunningServer.{IsRunningTold}
use Rattle.lw_fleet.specs.Serving.{IsServed, IsServingTold, IsUnserved}

-- the exit status of the process
abbrev pub status_of : Ending → ℕ
status_of Done = 0
status_of (Failed fault told) = 1
status_of (Unserved fault told) = 1
status_of (Stopped fault told) = 1
status_of Refused = 2

-- What standard error takes: nothing where all is done, the line of a fault, or the text of a refused command
-- line.
abbrev pub Tells : Ending → Option (List ℕ) → Option (List ℕ) → Type 0
Tells Done before after = Keeps before after
Tells (Failed fault told) before after = IsTold fault told before after
Tells (Unserved fault told) before after = IsServingTold fault told before after
Tells (Stopped fault told) before after = IsRunningTold fault told before after
Tells Refused before after = (text : List ℕ) × Appends before after text

-- `one` with these options stopped at a fault, with this on the standard output
pub record IsStopped (options : OneOptions) (input before after : Option (List ℕ)) (fault : Fault) : Type 0 where
  pub address : fault ≡ AddressRefused → ¬ IsAddressText options.from.now
  pub address_first : ¬ IsAddressText options.from.now → (fault ≡ AddressRefused) ⊎ (fault ≡ NoMemory)
  pub too_long : fault ≡ TooLong → IfSome input (λ bytes. longest_line < length (line_of bytes))
  pub hex : fault ≡ HexRefused → IfSome input (λ bytes. IsErr (decode_of (line_of bytes)))
  pub front : fault ≡ WriteFailed → PrintsFront options input before after
  pub nothing : fault ≢ WriteFailed → Keeps before after
  pub no_script : (line : ℕ) → fault ≢ LineRefused line

-- `one` with these options prints its answer or stops at a fault
abbrev pub EndsOne : OneOptions → Option (List ℕ) → Option (List ℕ) → Option (List ℕ) → Ending → Type 0
EndsOne options input before after Done = (¬ ¬ IsAddressText options.from.now) × Prints options input before after
EndsOne options input before after (Failed fault told) = IsStopped options input before after fault
EndsOne options input before after (Unserved fault told) = ⊥
EndsOne options input before after (Stopped fault told) = ⊥
EndsOne options input before after Refused = ⊥

-- `replay` prints the lines of a run or stops at a fault
abbrev pub EndsReplay : Option (List ℕ) → Option (List ℕ) → Option (List ℕ) → Ending → Type 0
EndsReplay input before after Done = Replays input before after
EndsReplay input before after (Failed fault told) = IsReplayStopped input before after fault
EndsReplay input before after (Unserved fault told) = ⊥
EndsReplay input before after (Stopped fault told) = ⊥
EndsReplay input before after Refused = ⊥

-- `serve` has served, or stops at a fault; memory may have run out before
abbrev pub EndsServe : Option (List ℕ) → Option (List ℕ) → Ending → Type 0
EndsServe before after Done = IsServed before after
EndsServe before after (Failed fault told) = (fault ≡ NoMemory) × Keeps before after
EndsServe before after (Unserved fault told) = IsUnserved fault before after
EndsServe before after (Stopped fault told) = ⊥
EndsServe before after Refused = ⊥

-- `run` writes nothing: it ends at a fault, or where nothing more can come; memory may have run out before
abbrev pub EndsRun : Option (List ℕ) → Option (List ℕ) → Ending → Type 0
EndsRun before after Done = Keeps before after
EndsRun before after (Failed fault told) = (fault ≡ NoMemory) × Keeps before after
EndsRun before after (Unserved fault told) = ⊥
EndsRun before after (Stopped fault told) = Keeps before after
EndsRun before after Refused = ⊥

abbrev pub EndsRequest : Request → Option (List ℕ) → Option (List ℕ) → Option (List ℕ) → Ending → Type 0
EndsRequest (One options) input before after ending = EndsOne options input before after ending
EndsRequest Replay input before after ending = EndsReplay input before after ending
EndsRequest (Serve options) input before after ending = EndsServe before after ending
EndsRequest (Run options) input before after ending = EndsRun before after ending

-- a text that was asked for stands on the standard output, or a front of it where that failed
abbrev pub EndsShown : Option (List ℕ) → Option (List ℕ) → Ending → Type 0
EndsShown before after Done = (text : List ℕ) × Appends before after text
EndsShown before after (Failed fault told) = ((fault ≡ NoMemory) × Keeps before after)
    ⊎ ((fault ≡ WriteFailed) × (text : List ℕ) × Appends before after text)
EndsShown before after (Unserved fault told) = ⊥
EndsShown before after (Stopped fault told) = ⊥
EndsShown before after Refused = ⊥

-- a refused command line, or no memory for the text that tells why
abbrev pub IsRefusal : Ending → Type 0
IsRefusal Done = ⊥
IsRefusal (Failed fault told) = fault ≡ NoMemory
IsRefusal (Unserved fault told) = ⊥
IsRefusal (Stopped fault told) = ⊥
IsRefusal Refused = ⊤

-- a refused command line, with nothing on the standard output
abbrev pub EndsRefused : Option (List ℕ) → Option (List ℕ) → Ending → Type 0
EndsRefused before after ending = IsRefusal ending × Keeps before after

-- the end of a run whose words ask for nothing: a text that they ask for is shown, or the command line is refused
abbrev pub EndsOtherwise : Option (List ℕ) → Option (List ℕ) → Ending → Type 0
EndsOtherwise before after ending = EndsShown before after ending ⊎ EndsRefused before after ending

-- The end of a run with these words: of what they ask for; else of a text that they ask for, or of a refused command
-- line. Of some words, as those that begin with `help`, it is not said which of these two.
pub record IsEnd (words : List Text) (input before after : Option (List ℕ)) (ending : Ending) : Type 0 where
  pub asked : (request : Request) → Asks words request → EndsRequest request input before after ending
  pub shown : AsksForText words → EndsShown before after ending
  pub refused : IsMistaken words → EndsRefused before after ending
  pub otherwise : ((request : Request) → ¬ Asks words request) → EndsOtherwise before after ending

-- a request that is answered from the standard input
abbrev pub IsOfInput : Request → Type 0
IsOfInput (One options) = IsAddressText options.from.now
IsOfInput Replay = ⊤
IsOfInput (Serve options) = ⊥
IsOfInput (Run options) = ⊥

-- the words make the program read its standard input
abbrev pub Reads : List Text → Type 0
Reads words = (request : Request) × Asks words request × IsOfInput request

-- memory ran out before a byte was written on the standard output
abbrev pub EndsWithoutMemory : Option (List ℕ) → Option (List ℕ) → Ending → Type 0
EndsWithoutMemory before after ending = (told : Bool) × (ending ≡ Failed NoMemory told) × Keeps before after
