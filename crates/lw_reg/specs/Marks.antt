-- Operations, and the marks that they leave of a registration (LwM2M 1.1 Core, section 6.2; RFC 7641, section 3).
use Rattle.std.specs.Prelude.{◌≡◌, ℕ, List, [], ◌∷◌, ◌++◌, Option, Some, None, Contains}
use Rattle.lw_stamp.specs.declared.stamp.Stamp.{Stamp}
use Rattle.lw_stamp.specs.declared.moment.Moment.{Moment}
use Rattle.lw_reg.specs.declared.addr.Addr.{Addr}
use Rattle.lw_reg.specs.declared.base.Base.{Base}
use Rattle.lw_reg.specs.declared.binding.Binding.{Binding}
use Rattle.lw_reg.specs.declared.path.Path.{Path}
use Rattle.lw_reg.specs.declared.op.Op.{Op}
use Rattle.lw_reg.specs.declared.op.What.{What}
use Rattle.lw_reg.specs.declared.op.What.TheVariants.{Register, Update, Remove, Observe, Cancel, Expire}

-- What a mark tells of a registration: that it is named; its base; a write of a field, or of the attribute of a
-- name, by the operation with that stamp; that what was seen of it up to a stamp is over; that it was removed; that
-- a path was watched with a token, or the watch with a token cancelled.
pub data Trace : Type 0 where
  Named : Trace
  Based : Base → Trace
  AddressAt : Stamp → Addr → Trace
  SeenAt : Stamp → Moment → Trace
  LifetimeAt : Stamp → ℕ → Trace
  BindingAt : Stamp → Binding → Trace
  SmsAt : Stamp → Option (List ℕ) → Trace
  ObjectsAt : Stamp → List ℕ → Trace
  AttributeAt : List ℕ → Stamp → List ℕ → Trace
  EndedAt : Stamp → Trace
  Removed : Trace
  Watched : Path → Stamp → Option ℕ → Trace
  Cancelled : Path → Stamp → Trace

-- a mark is about an endpoint and a registration of it
pub record Mark : Type 0 where
  pub endpoint : List ℕ
  pub registration : Stamp
  pub trace : Trace

-- a field that an operation carries is written
abbrev pub written : {V : Type 0} → (V → Trace) → Option V → List Trace
written field None = []
written field (Some v) = field v ∷ []

-- a write of each attribute
abbrev pub attribute_traces : Stamp → List (List ℕ × List ℕ) → List Trace
attribute_traces s [] = []
attribute_traces s (a ∷ attributes) = AttributeAt a.0 s a.1 ∷ attribute_traces s attributes

-- What an operation with the stamp s tells of its registration, beside naming it. A Register gives the base
-- and writes each field, and each attribute that it carries; an Update writes address and moment, and each other
-- field and each attribute that it carries; the token of an observation is the operation's stamp.
abbrev pub traces_of : Stamp → What → List Trace
traces_of s (Register version queue address seen settings) =
    Based (record { version = version; queue = queue }) ∷ AddressAt s address ∷ SeenAt s seen ∷ LifetimeAt s settings.lifetime ∷ BindingAt s settings.binding ∷ SmsAt s settings.sms ∷ ObjectsAt s settings.objects ∷ attribute_traces s settings.attributes
traces_of s (Update address seen settings) =
    (AddressAt s address ∷ SeenAt s seen ∷ (written (LifetimeAt s) settings.lifetime ++ written (BindingAt s) settings.binding ++ written (λ text. SmsAt s (Some text)) settings.sms ++ written (ObjectsAt s) settings.objects)) ++ attribute_traces s settings.attributes
traces_of s Remove = Removed ∷ []
traces_of s (Observe path accept) = Watched path s accept ∷ []
traces_of s (Cancel path token) = Cancelled path token ∷ []
traces_of s (Expire upto) = EndedAt upto ∷ []

abbrev pub marks_about : List ℕ → Stamp → List Trace → List Mark
marks_about e r [] = []
marks_about e r (k ∷ ks) = record { endpoint = e; registration = r; trace = k } ∷ marks_about e r ks

-- the marks of an operation: it names its registration, and tells of it
abbrev pub marks_of : Op → List Mark
marks_of o = marks_about o.endpoint o.reg (Named ∷ traces_of o.stamp o.what)

-- the marks of all the operations
abbrev pub all_marks : List Op → List Mark
all_marks [] = []
all_marks (o ∷ os) = marks_of o ++ all_marks os

-- A set of marks. What is said of a set speaks of its members alone, so that neither their order nor a repeat
-- of one matters.
abbrev pub Marks : Type 1
Marks = Mark → Type 0

-- those of a list
abbrev pub among : List Mark → Marks
among ms m = Contains ms m

-- those that the operations leave
abbrev pub left_by : List Op → Marks
left_by os = among (all_marks os)

-- the set has this mark about the endpoint's registration
abbrev pub Has : Marks → List ℕ → Stamp → Trace → Type 0
Has M e r k = M (record { endpoint = e; registration = r; trace = k })

-- beside each mark the set names the registration that it is about
abbrev pub NamesAll : Marks → Type 0
NamesAll M = (e : List ℕ) (r : Stamp) (k : Trace) → Has M e r k → Has M e r Named

-- each operation of the list is about the endpoint
abbrev pub AllAbout : List ℕ → List Op → Type 0
AllAbout e os = (o : Op) → Contains os o → o.endpoint ≡ e
