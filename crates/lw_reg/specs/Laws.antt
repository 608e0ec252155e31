-- What the laws of operations, states and slots say.
use Rattle.std.specs.Prelude.{◌≡◌, ◌↔◌, ℕ, List, ◌∷◌, ◌++◌, ◌⊎◌, Option, Some, None, Contains, map}
use Rattle.lw_join.specs.Least.{joined_all}
use Rattle.lw_join.specs.Maps.{one_key}
use Rattle.lw_reg.specs.declared.body.Body.{Body}
use Rattle.lw_reg.specs.declared.fields.Fields.{Fields}
use Rattle.lw_reg.specs.declared.op.Op.{Op}
use Rattle.lw_reg.specs.declared.slot.Slot.{Slot}
use Rattle.lw_reg.specs.declared.watch.Watch.{Watch}
use Rattle.lw_reg.specs.Fields.{slot_of_fields}
use Rattle.lw_reg.specs.Marks.{Mark, Marks, NamesAll, AllAbout, among, left_by, marks_of, all_marks}
use Rattle.lw_reg.specs.Reading.{IsSlotOf, body_of, stamp_of, shown_in}
use Rattle.lw_reg.specs.Registration.{Registration}
use Rattle.lw_reg.specs.Showing.{IsShown, HasExpired, LivesOf}
use Rattle.lw_reg.specs.Slot.{slot_join, slot_of}
use Rattle.lw_reg.specs.State.{State, state_join, IsStateOf}

-- the slot of an operation, under its endpoint, is the state of its marks
abbrev pub AtomsAreStates : Type 0
AtomsAreStates = (o : Op) → IsStateOf (marks_of o) (one_key o.endpoint (slot_of o))

-- The slots of operations about one endpoint, joined, are what the state of all their marks has for it. What
-- the operations' order is, and whether one is there twice, is seen by no set.
abbrev pub JoinedAtomsAreStates : Type 0
JoinedAtomsAreStates = (o : Op) (os : List Op) → AllAbout o.endpoint os → IsSlotOf (all_marks (o ∷ os)) o.endpoint (joined_all slot_join (slot_of o) (map slot_of os))

-- the marks of operations name each registration that they are about
abbrev pub OperationsName : Type 0
OperationsName = (os : List Op) → NamesAll (left_by os)

-- each list of marks has a state
abbrev pub HaveStates : Type 0
HaveStates = (ms : List Mark) → (s : State) × IsStateOf ms s

-- lists with the same members have one state
abbrev pub MembersDecide : Type 0
MembersDecide = (ms ns : List Mark) → ((m : Mark) → Contains ms m ↔ Contains ns m) → (s t : State) → IsStateOf ms s → IsStateOf ns t → s ≡ t

-- the state of a union is the join of the states
abbrev pub UnionsJoin : Type 0
UnionsJoin = (ms ns : List Mark) (s t : State) → IsStateOf ms s → IsStateOf ns t → IsStateOf (ms ++ ns) (state_join s t)

-- the sets show the same registrations, have the same endpoints expired, and the same watches live
pub record ShowTheSame (M N : Marks) : Type 0 where
  pub shown : (now : ℕ) (r : Registration) → IsShown M now r ↔ IsShown N now r
  pub expired : (now : ℕ) (e : List ℕ) → HasExpired M now e ↔ HasExpired N now e
  pub live : (now : ℕ) (e : List ℕ) (w : Watch) → LivesOf M now e w ↔ LivesOf N now e w

-- sets of marks with one state show the same
abbrev pub StatesDecide : Type 0
StatesDecide = (ms ns : List Mark) → NamesAll (among ms) → NamesAll (among ns) → (s : State) → IsStateOf ms s → IsStateOf ns s → ShowTheSame (among ms) (among ns)

-- in one set or the other
abbrev pub Both : Marks → Marks → Marks
Both M N m = M m ⊎ N m

-- a state, also one from outside, shows what the marks say that can be read from it: those of a set's state
-- show what the set does,
abbrev pub StatesShowSets : Type 0
StatesShowSets = (ms : List Mark) → NamesAll (among ms) → (s : State) → IsStateOf ms s → ShowTheSame (among ms) (shown_in s)

-- and those of a join of states show what those of the two do together
abbrev pub JoinsShowBoth : Type 0
JoinsShowBoth = (s t : State) → ShowTheSame (Both (shown_in s) (shown_in t)) (shown_in (state_join s t))

-- the fields of a body, and of none
abbrev pub fields_in : Option Body → Option Fields
fields_in None = None
fields_in (Some b) = Some (record {
  writes = record {
    base = b.base.value;
    address = b.address.write;
    seen = b.seen.write;
    lifetime = b.lifetime.write;
    binding = b.binding.write;
    sms = b.sms.write;
    objects = b.objects.write;
  };
  attributes = b.maps.left;
  ended = b.ended.value;
  watches = b.maps.right;
})

-- a slot is put together from its stamp and its fields
abbrev pub SlotsAreParts : Type 0
SlotsAreParts = (slot : Slot) → slot_of_fields (stamp_of slot) (fields_in (body_of slot)) ≡ slot
