-- What a node knows from one call to the next; that a question has one answer; and what follows from what an operation
-- leaves: it comes after all that the node knows, so that what it wrote is read back, and a Register ends what was
-- before.
use Rattle.std.specs.Prelude.{◌≡◌, ℕ, ◌+◌, List, [], ◌++◌, Option, Some, None, Contains}
use Rattle.lw_stamp.specs.declared.moment.Moment.{Moment}
use Rattle.lw_stamp.specs.declared.stamp.Stamp.{Stamp}
use Rattle.lw_stamp.specs.Moment.{ms_of}
use Rattle.lw_stamp.specs.TextOrder.{text_cmp}
use Rattle.lw_join.specs.Entries.{Rises, get}
use Rattle.lw_reg.specs.declared.addr.Addr.{Addr}
use Rattle.lw_reg.specs.declared.base.Base.{Base}
use Rattle.lw_reg.specs.declared.op.Op.{Op}
use Rattle.lw_reg.specs.declared.op.What.{What}
use Rattle.lw_reg.specs.declared.op.What.TheVariants.{Register, Update}
use Rattle.lw_reg.specs.declared.path.Path.{Path}
use Rattle.lw_reg.specs.declared.settings.GivenSettings.{GivenSettings}
use Rattle.lw_reg.specs.declared.slot.Slot.{Slot}
use Rattle.lw_reg.specs.Marks.{Mark, Marks, Has, left_by, marks_of, all_marks}
use Rattle.lw_reg.specs.Marks.Trace.{Watched}
use Rattle.lw_reg.specs.Reading.{shown_in}
use Rattle.lw_reg.specs.Registration.{Registration}
use Rattle.lw_reg.specs.Showing.{IsBase, IsComplete, IsShown, ShownOf, queue_of}
use Rattle.lw_reg.specs.State.{IsStateOf}
use Rattle.lw_table.specs.LookUps.{ById, ByToken}
use Rattle.lw_call.specs.declared.answer.Answer.{Answer}
use Rattle.lw_call.specs.declared.question.Question.{Question}
use Rattle.lw_node.specs.Exchange.{Merged, AreShown}
use Rattle.lw_node.specs.Node.{NodeContent, fresh, Issued, Leaves, Knows, Known, marks_in}
use Rattle.lw_node.specs.Steps.{Answers}
use Rattle.lw_node.specs.Within.{FitsClock}

-- ---- what is known
-- a new node knows no mark
abbrev pub NewKnowsNothing : Type 0
NewKnowsNothing = (number : ℕ) → Knows (fresh number) []

-- the marks of an operation, if there is one, and those that were known
abbrev pub known_after : Option Op → List Mark → List Mark
known_after None ms = ms
known_after (Some operation) ms = marks_of operation ++ ms

-- after a call that issues an operation, or none, these are known
abbrev pub OperationsAreKnown : Type 0
OperationsAreKnown = (old new : NodeContent) (operation : Option Op) (ms : List Mark) → Knows old ms → Leaves old operation new → Knows new (known_after operation ms)

-- after a merge, those that the slots show, and those that were known
abbrev pub MergesAreKnown : Type 0
MergesAreKnown =
    (old new : NodeContent) (clock : ℕ) (slots : List (List ℕ × Slot)) (shown ms : List Mark) → Knows old ms → Merged old clock slots new → AreShown slots shown
    → Knows new (shown ++ ms)

-- slots show the marks of a list
abbrev pub SlotsShowMarks : Type 0
SlotsShowMarks = (slots : List (List ℕ × Slot)) → (shown : List Mark) × AreShown slots shown

-- ---- one answer
-- over the marks that can be read from the node's state, or those of a list
abbrev pub AnswersAreOne : Type 0
AnswersAreOne =
    (node : NodeContent) (known : Known) (now : ℕ) (question : Question) (one other : Answer)
    → Answers node (marks_in node.table.state known) now question one → Answers node (marks_in node.table.state known) now question other → one ≡ other

-- an operation that a node issues, whose clock is above all that it knows
pub record Follows (old : NodeContent) (op : Op) (new : NodeContent) : Type 0 where
  pub fits : FitsClock old.clock old.table.state
  pub next : op.stamp.counter ≡ old.clock + 1
  pub issued : Issued old op new

-- ---- read back
-- the attributes that an operation carries rise by their names, as the type of a program's operation keeps it
abbrev pub AttributesRise : What → Type 0
AttributesRise (Register version queue address seen settings) = Rises text_cmp settings.attributes
AttributesRise (Update address seen given) = Rises text_cmp given.attributes
AttributesRise _ = Unit {0}

-- what is shown of a Register
abbrev pub registered : List ℕ → Stamp → What → Option Registration
registered endpoint id (Register version queue address seen settings) = Some (record {
  endpoint = endpoint;
  id = id;
  address = address;
  seen = seen;
  lifetime = settings.lifetime;
  version = version;
  binding = settings.binding;
  queue = queue_of (record { version = version; queue = queue }) settings.binding;
  sms = settings.sms;
  objects = settings.objects;
  attributes = settings.attributes;
})
registered endpoint id _ = None

-- a Register is shown at its moment as it was written
abbrev pub RegistersReadBack : Type 0
RegistersReadBack =
    (old new : NodeContent) (op : Op) → Follows old op new → AttributesRise op.what → op.reg ≡ op.stamp → (r : Registration) → registered op.endpoint op.stamp op.what ≡ Some r
    → ShownOf (shown_in new.table.state) (ms_of r.seen) op.endpoint (Some r)

-- the value that is written, or else the one before
abbrev pub or_before : {V : Type 0} → Option V → V → V
or_before None before = before
or_before (Some value) before = value

-- a text that is written, or else the one before, if there was one
abbrev pub or_kept : {V : Type 0} → Option V → Option V → Option V
or_kept None before = before
or_kept (Some value) before = Some value

-- The registration, with what an Update writes. Its queue mode is that of the base, as it stands in these marks, and of the
-- binding that it has now. An attribute that the Update gives has its value, and any other keeps its own.
pub record IsUpdated (M : Marks) (before : Registration) (address : Addr) (seen : Moment) (given : GivenSettings) (r : Registration) : Type 0 where
  pub endpoint : r.endpoint ≡ before.endpoint
  pub id : r.id ≡ before.id
  pub address_is : r.address ≡ address
  pub seen_is : r.seen ≡ seen
  pub lifetime_is : r.lifetime ≡ or_before given.lifetime before.lifetime
  pub version : r.version ≡ before.version
  pub binding_is : r.binding ≡ or_before given.binding before.binding
  pub queue : (base : Base) → IsBase M before.endpoint before.id base → r.queue ≡ queue_of base r.binding
  pub sms_is : r.sms ≡ or_kept given.sms before.sms
  pub objects_is : r.objects ≡ or_before given.objects before.objects
  pub attributes_rise : Rises text_cmp r.attributes
  pub attributes_are : (name : List ℕ) → get text_cmp r.attributes name ≡ or_kept (get text_cmp given.attributes name) (get text_cmp before.attributes name)

-- an Update of what is shown is shown at its moment as it was written
abbrev pub UpdatesReadBack : Type 0
UpdatesReadBack =
    (old new : NodeContent) (op : Op) → Follows old op new → AttributesRise op.what → (now : ℕ) (before : Registration) → IsShown (shown_in old.table.state) now before
    → op.endpoint ≡ before.endpoint → op.reg ≡ before.id
    → (address : Addr) (seen : Moment) (given : GivenSettings) → op.what ≡ Update address seen given
    → (r : Registration) × IsUpdated (shown_in old.table.state) before address seen given r × ShownOf (shown_in new.table.state) (ms_of seen) op.endpoint (Some r)

-- ---- a Register ends what was before
abbrev pub IsRegister : What → Type 0
IsRegister (Register version queue address seen settings) = Unit {0}
IsRegister _ = ⊥

-- no two operations have one stamp, and a Register is about the registration with its own
pub record WellStamped (os : List Op) : Type 0 where
  pub one : (a b : Op) → Contains os a → Contains os b → a.stamp ≡ b.stamp → a ≡ b
  pub own : (o : Op) → Contains os o → IsRegister o.what → o.reg ≡ o.stamp

-- The former identifier of the endpoint answers none after a Register, nor do the tokens that were watched under
-- it, where the endpoint was complete before, in the state of a well stamped set.
abbrev pub RegistersEndTheFormer : Type 0
RegistersEndTheFormer =
    (os : List Op) → WellStamped os → (old new : NodeContent) (op : Op) → Follows old op new → IsStateOf (all_marks os) old.table.state
    → IsRegister op.what → op.reg ≡ op.stamp → (former : Registration) → IsComplete (left_by os) former → former.endpoint ≡ op.endpoint
    → (now : ℕ)
    → ById (shown_in new.table.state) now former.id None
    × ((path : Path) (token : Stamp) (accept : Option ℕ) → Has (left_by os) former.endpoint former.id (Watched path token accept) → ByToken (shown_in new.table.state) now token None)
