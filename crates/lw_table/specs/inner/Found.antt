-- What is found at an endpoint in a state, as functions of its slot, and the least of what is found at several.
use Rattle.std.specs.Prelude.{◌≡◌, ℕ, Bool, if◌then◌else◌, List, [], ◌∷◌, Option, Some, None}
use Rattle.std.specs.FinMap.{get}
use Rattle.std.specs.Ordering.{is_lt, ordering_then}
use Rattle.std.specs.declared.cmp.Ordering.{Ordering}
use Rattle.lw_due.specs.Due.{is_after}
use Rattle.lw_stamp.specs.declared.stamp.Stamp.{Stamp}
use Rattle.lw_stamp.specs.Order.{AtMost}
use Rattle.lw_stamp.specs.StampOrder.{stamp_cmp}
use Rattle.lw_stamp.specs.TextOrder.{text_cmp}
use Rattle.lw_reg.specs.declared.addr.Addr.{Addr}
use Rattle.lw_reg.specs.declared.slot.Slot.{Slot}
use Rattle.lw_reg.specs.declared.watch.Watch.{Watch}
use Rattle.lw_reg.specs.Reading.{view_in, registered_in, is_late, stamp_of, address_of, live_watch}
use Rattle.lw_reg.specs.Registration.{Registration}
use Rattle.lw_reg.specs.State.{State}
use Rattle.lw_table.specs.Rows.{name_of}
use Rattle.lw_table.specs.declared.rows.NamedRow.{NamedRow}

-- ---- one endpoint, with this slot or with none
abbrev pub view_with : ℕ → List ℕ → Option Slot → Option Registration
view_with now e None = None
view_with now e (Some slot) = view_in now e slot

abbrev pub both_of : {A B : Type 0} → Option A → Option B → Option (A × B)
both_of None b = None
both_of (Some a) None = None
both_of (Some a) (Some b) = Some (a, b)

-- its registration, and the first watch that passes the test
abbrev pub watch_with : (Watch → Bool) → ℕ → List ℕ → Option Slot → Option (Registration × Watch)
watch_with test now e None = None
watch_with test now e (Some slot) = both_of (view_in now e slot) (live_watch test now slot)

abbrev pub stamp_of_write : Option (Stamp × Addr) → Option Stamp
stamp_of_write None = None
stamp_of_write (Some write) = Some write.0

-- its registration, and the stamp that wrote its address
abbrev pub holder_with : ℕ → List ℕ → Option Slot → Option (Stamp × Registration)
holder_with now e None = None
holder_with now e (Some slot) = both_of (stamp_of_write (address_of slot)) (view_in now e slot)

-- its identifier, where it has expired
abbrev pub expired_with : ℕ → Option Slot → Option Stamp
expired_with now None = None
expired_with now (Some slot) = if is_late now (registered_in [] slot) then Some (stamp_of slot) else None

-- ---- in a state
abbrev pub view_at : ℕ → State → List ℕ → Option Registration
view_at now state e = view_with now e (get state e)

abbrev pub watch_at : (Watch → Bool) → ℕ → State → List ℕ → Option (Registration × Watch)
watch_at test now state e = watch_with test now e (get state e)

abbrev pub holder_at : ℕ → State → List ℕ → Option (Stamp × Registration)
holder_at now state e = holder_with now e (get state e)

abbrev pub named : {A : Type 0} → List ℕ → Option A → Option (List ℕ × A)
named e None = None
named e (Some a) = Some (e, a)

abbrev pub expired_at : ℕ → State → List ℕ → Option (List ℕ × Stamp)
expired_at now state e = named e (expired_with now (get state e))

-- what f finds above the endpoint
abbrev pub if_after : {A : Type 0} → Option (List ℕ) → (List ℕ → Option A) → List ℕ → Option A
if_after after f e = if is_after after e then f e else None

-- ---- of several
abbrev pub found_or : {A : Type 0} → Option A → Option A → Option A
found_or None rest = rest
found_or (Some a) rest = Some a

-- the first that f finds
abbrev pub first_of : {A : Type 0} → (List ℕ → Option A) → List (List ℕ) → Option A
first_of f [] = None
first_of f (e ∷ es) = found_or (f e) (first_of f es)

-- the lesser of two, and of two that compare equal the first
abbrev pub lesser_of : {A : Type 0} → (A → A → Ordering) → Option A → Option A → Option A
lesser_of cmp a None = a
lesser_of cmp None (Some b) = Some b
lesser_of cmp (Some a) (Some b) = if is_lt (cmp b a) then Some b else Some a

-- f gives it at one of these endpoints, and at none of them what is less
pub record IsLeastOf {A : Type 0} (cmp : A → A → Ordering) (f : List ℕ → Option A) (D : List ℕ → Type 0) (a : A) : Type 0 where
  pub at : List ℕ
  pub there : D at
  pub found : f at ≡ Some a
  pub least : (e : List ℕ) (b : A) → D e → f e ≡ Some b → AtMost cmp a b

-- the least that f gives at these endpoints, or none where it gives nothing
abbrev pub LeastFound : {A : Type 0} → (A → A → Ordering) → (List ℕ → Option A) → (List ℕ → Type 0) → Option A → Type 0
LeastFound {A} cmp f D None = (e : List ℕ) (b : A) → D e → f e ≡ Some b → ⊥
LeastFound cmp f D (Some a) = IsLeastOf cmp f D a

-- by the endpoint
abbrev pub view_cmp : Registration → Registration → Ordering
view_cmp a b = text_cmp a.endpoint b.endpoint

abbrev pub watch_cmp : Registration × Watch → Registration × Watch → Ordering
watch_cmp a b = view_cmp a.0 b.0

-- the later write first, and of those with one stamp by the endpoint
abbrev pub holder_cmp : Stamp × Registration → Stamp × Registration → Ordering
holder_cmp a b = ordering_then (stamp_cmp b.0 a.0) (view_cmp a.1 b.1)

-- ---- among rows
-- what f gives of the row's slot, where there is a row
abbrev pub there_with : {A : Type 0} → (List ℕ → Option Slot → Option A) → Option NamedRow → Option A
there_with f None = None
there_with f (Some row) = f (name_of row) (Some row.row.slot)

-- ---- parts of what is found
abbrev pub holder_of : Option (Stamp × Registration) → Option Registration
holder_of None = None
holder_of (Some x) = Some x.1

abbrev pub with_watch : Registration → Option Watch → Option (Registration × Watch)
with_watch r None = None
with_watch r (Some w) = Some (r, w)
