-- The lines of a script: a word and its fields, with one space between each two, spell an event.
use Rattle.std.specs.Prelude.{◌≡◌, ◌⊎◌, ◌^◌, ℕ, List, Some, None, Result, Ok, Err}
use Rattle.lw_stamp.specs.Moment.{ms_of}
use Rattle.std.specs.List.{before_first, after_first}
use Rattle.lw_stamp.specs.declared.moment.Moment.{Moment}
use Rattle.lw_call.specs.declared.question.Question.{Question}
use Rattle.lw_call.specs.declared.question.Question.TheVariants as question
use Rattle.lw_world.specs.declared.event.Action.TheVariants as action
use Rattle.lw_world.specs.declared.event.Event.{Event}
use Rattle.lw_script.specs.declared.fault.LineFault.{LineFault}
use Rattle.lw_script.specs.declared.fault.LineFault.TheVariants.{Refused, NoMemory}
use Rattle.lw_script.specs.declared.word.Word.{Word}
use Rattle.lw_script.specs.declared.word.Word.TheVariants.{Take, Observe, Cancel, Sweep, Send, Deliver, Id, Endpoint, Address, Token, Watch, Next, Expired, Change}
use Rattle.lw_path.specs.PathText.{IsPath}
use Rattle.lw_script.specs.Fields.{◌␣◌, IsShort, IsNumber, IsMoment, IsAddress, IsId, IsAccept, IsHex, IsName, HasSpace, is_space}
use Rattle.lw_script.specs.Words.{word_text}

-- The fields of a line spell these values, and the event is of them.
pub record Spells {V : Type 0} (say : V → List ℕ → Type 0) (event : V → Event) (e : Event) (fields : List ℕ) : Type 0 where
  pub values : V
  pub said : say values fields
  pub event_is : e ≡ event values

-- a question that is asked of a node at a moment
abbrev pub asked : ℕ → Moment → Question → Event
asked node now question = record { node = node; action = action.Ask now question }

-- NODE alone: no line says when the change number is asked for, which is at the moment 0
pub record IsAtStart (values : ℕ × Moment) (text : List ℕ) : Type 0 where
  pub node : IsShort values.0 text
  pub now : ms_of values.1 ≡ 0

-- NODE MS ADDR HEX, and so on: the fields that follow each word, and the event
abbrev pub IsFields : Word → Event → List ℕ → Type 0
IsFields Take = Spells (IsShort ␣ IsMoment ␣ IsAddress ␣ IsHex)
    (λ (node, (now, (from, bytes))). record { node = node; action = action.Take now from bytes })
IsFields Observe = Spells (IsShort ␣ IsMoment ␣ IsId ␣ IsPath ␣ IsAccept ␣ IsShort)
    (λ (node, (now, (id, (path, (accept, mid))))). record { node = node; action = action.Observe now id path accept mid })
IsFields Cancel = Spells (IsShort ␣ IsMoment ␣ IsId ␣ IsShort)
    (λ (node, (now, (token, mid))). record { node = node; action = action.Cancel now token mid })
IsFields Sweep = Spells (IsShort ␣ IsMoment) (λ (node, now). record { node = node; action = action.Sweep now })
IsFields Send = Spells (IsShort ␣ IsNumber (2 ^ 64)) (λ (node, since). record { node = node; action = action.Send since })
IsFields Deliver = Spells (IsShort ␣ IsNumber (2 ^ 32)) (λ (node, message). record { node = node; action = action.Deliver message })
IsFields Id = Spells (IsShort ␣ IsMoment ␣ IsId) (λ (node, (now, id)). asked node now (question.ById id))
IsFields Endpoint = Spells (IsShort ␣ IsMoment ␣ IsName) (λ (node, (now, name)). asked node now (question.ByEndpoint name))
IsFields Address = Spells (IsShort ␣ IsMoment ␣ IsAddress) (λ (node, (now, address)). asked node now (question.ByAddress address))
IsFields Token = Spells (IsShort ␣ IsMoment ␣ IsId) (λ (node, (now, token)). asked node now (question.ByToken token))
IsFields Watch = λ e fields. Spells (IsShort ␣ IsMoment ␣ IsId) (λ (node, (now, id)). asked node now (question.WatchAfter id None)) e fields
    ⊎ Spells (IsShort ␣ IsMoment ␣ IsId ␣ IsPath) (λ (node, (now, (id, path))). asked node now (question.WatchAfter id (Some path))) e fields
IsFields Next = λ e fields. Spells (IsShort ␣ IsMoment) (λ (node, now). asked node now (question.FirstAfter None)) e fields
    ⊎ Spells (IsShort ␣ IsMoment ␣ IsName) (λ (node, (now, name)). asked node now (question.FirstAfter (Some name))) e fields
IsFields Expired = λ e fields. Spells (IsShort ␣ IsMoment) (λ (node, now). asked node now (question.ExpiredAfter None)) e fields
    ⊎ Spells (IsShort ␣ IsMoment ␣ IsName) (λ (node, (now, name)). asked node now (question.ExpiredAfter (Some name))) e fields
IsFields Change = Spells IsAtStart (λ (node, now). asked node now question.Change)

-- the word stands before the first space of the line, and the fields behind it
pub record IsLine (event : Event) (line : List ℕ) : Type 0 where
  pub word : Word
  pub parted : HasSpace line
  pub word_is : before_first is_space line ≡ word_text word
  pub fields : IsFields word event (after_first is_space line)

-- What reading comes to: a value that is said, a refusal where none is, or no memory where one is.
abbrev pub ReadsAs : {V : Type 0} → (V → Type 0) → Result V LineFault → Type 0
ReadsAs {V} Says (Ok value) = Says value
ReadsAs {V} Says (Err Refused) = (value : V) → ¬ Says value
ReadsAs {V} Says (Err NoMemory) = (value : V) × Says value
