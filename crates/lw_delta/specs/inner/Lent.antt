-- A slot where it stands in the bytes of a delta.
use Rattle.std.specs.Prelude.{◌≡◌, ℕ, List, [], length, Option, Some, None}
use Rattle.lw_reg.specs.declared.slot.Slot.{Slot}
use Rattle.lw_reg.specs.Endpoint.{IsEndpoint}
use Rattle.lw_delta.specs.declared.behind.LentBehind.{LentBehind}
use Rattle.lw_delta.specs.declared.checking.Walked.{Walked}
use Rattle.lw_delta.specs.declared.form.Form.{Form}
use Rattle.lw_delta.specs.declared.slots.LentSlot.{LentSlot}
use Rattle.lw_delta.specs.Part.{Found, optional}
use Rattle.lw_delta.specs.Format.{header, watches, behind, slot, slots}
use Rattle.lw_delta.specs.Values.{Behind, slot_from}

-- the slot and its endpoint, with this behind its fields
abbrev pub lent_slot : LentSlot → Behind → List ℕ × Slot
lent_slot lent more = (lent.endpoint.now, slot_from lent.registration lent.removed lent.fields more)

-- the bytes begin with what stands behind the fields of a slot
pub record BehindAt (form : Form) (clock : ℕ) (bytes : List ℕ) (lent : LentBehind) (rest : List ℕ) : Type 0 where
  pub more : Behind
  pub found : Found (behind form clock) bytes more rest
  pub here : lent.bytes.now ≡ bytes
  pub ended : lent.ended ≡ more.ended
  pub watches : Found (watches clock) lent.watches.now more.watches rest

-- this stands where it is told
pub record Told (form : Form) (clock : ℕ) (lent : LentBehind) (more : Behind) : Type 0 where
  pub rest : List ℕ
  pub found : Found (behind form clock) lent.bytes.now more rest
  pub ended : lent.ended ≡ more.ended
  pub watches : Found (watches clock) lent.watches.now more.watches rest

-- the endpoint is one, and this stands behind the fields of the slot
pub record Holds (form : Form) (clock : ℕ) (lent : LentSlot) (more : Behind) : Type 0 where
  pub named : IsEndpoint lent.endpoint.now
  pub told : Told form clock lent.behind more

-- the bytes begin with the slot
pub record LentAt (form : Form) (clock : ℕ) (after : Option (List ℕ)) (bytes : List ℕ) (lent : LentSlot) (rest : List ℕ) : Type 0 where
  pub more : Behind
  pub holds : Holds form clock lent more
  pub found : Found (slot form clock after) bytes (lent_slot lent more) rest

-- the bytes begin with 01 and the slot, or with a 00
pub record SomeAt (form : Form) (clock : ℕ) (after : Option (List ℕ)) (bytes : List ℕ) (lent : LentSlot) (rest : List ℕ) : Type 0 where
  pub more : Behind
  pub holds : Holds form clock lent more
  pub found : Found (optional (slot form clock after)) bytes (Some (lent_slot lent more)) rest

abbrev pub NextAt : Form → ℕ → Option (List ℕ) → List ℕ → Option LentSlot → List ℕ → Type 0
NextAt form clock after bytes None rest = Found (optional (slot form clock after)) bytes None rest
NextAt form clock after bytes (Some lent) rest = SomeAt form clock after bytes lent rest

-- the bytes are a delta, whose slots stand where it is told
pub record WalkedAs (bytes : List ℕ) (walked : Walked) : Type 0 where
  pub ss : List (List ℕ × Slot)
  pub begun : Found header bytes (walked.form, walked.clock) walked.slots.now
  pub found : Found (slots walked.form walked.clock) walked.slots.now ss []
  pub counted : walked.slot_count ≡ length ss
