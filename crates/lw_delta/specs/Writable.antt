-- Which slots a writer takes, and what it has written.
use Rattle.std.specs.Prelude.{◌≡◌, ℕ, ◌<◌, ◌≤◌, ◌^◌, List, [], ◌∷◌, length, slice_index, Option, Some, None, IfSome, IsUtf8}
use Rattle.std.specs.List.{AllByRecursion}
use Rattle.lw_stamp.specs.TextOrder.{text_cmp}
use Rattle.lw_join.specs.declared.last.Last.{Last}
use Rattle.lw_join.specs.declared.once.Once.{Once}
use Rattle.lw_join.specs.declared.or_gone.OrGone.{OrGone}
use Rattle.lw_join.specs.declared.or_gone.OrGone.TheVariants.{Here, Gone}
use Rattle.lw_link.specs.WellFormed.{IsPrinting}
use Rattle.lw_reg.specs.Attribute.{IsAttribute}
use Rattle.lw_reg.specs.Addr.{IsAddr}
use Rattle.lw_reg.specs.declared.path.Path.{Path}
use Rattle.lw_reg.specs.declared.slot.Slot.{Slot}
use Rattle.lw_reg.specs.Body.{Watching}
use Rattle.lw_reg.specs.Reading.{stamp_of, address_of, seen_of, lifetime_of, binding_of, sms_of, objects_of, attributes_of, ended_of, watches_of}
use Rattle.lw_delta.specs.Order.{IsAbove}
use Rattle.lw_delta.specs.Part.{last_key}
use Rattle.lw_delta.specs.Values.{Behind, behind_of}
use Rattle.lw_delta.specs.Writing.{begun_bytes}

abbrev pub AttributesWithin : ℕ → List (List ℕ × Last (List ℕ)) → Type 0
AttributesWithin clock = AllByRecursion (λ w. w.1.write.0.counter ≤ clock)

abbrev pub TokensWithin : ℕ → List (Path × Watching) → Type 0
TokensWithin clock = AllByRecursion (λ w. w.1.stamp.counter ≤ clock)

-- no stamp of the slot is above the clock
pub record StampsWithin (clock : ℕ) (slot : Slot) : Type 0 where
  pub registration : (stamp_of slot).counter ≤ clock
  pub address : IfSome (address_of slot) (λ w. w.0.counter ≤ clock)
  pub seen : IfSome (seen_of slot) (λ w. w.0.counter ≤ clock)
  pub lifetime : IfSome (lifetime_of slot) (λ w. w.0.counter ≤ clock)
  pub binding : IfSome (binding_of slot) (λ w. w.0.counter ≤ clock)
  pub sms : IfSome (sms_of slot) (λ w. w.0.counter ≤ clock)
  pub objects : IfSome (objects_of slot) (λ w. w.0.counter ≤ clock)
  pub attributes : AttributesWithin clock (attributes_of slot)
  pub ended : IfSome (ended_of slot) (λ s. s.counter ≤ clock)
  pub watches : TokensWithin clock (watches_of slot)

-- a slot that may stand behind an endpoint: its own has 1 to 252 bytes and is above
pub record Follows (clock : ℕ) (after : Option (List ℕ)) (s : List ℕ × Slot) : Type 0 where
  pub some : 1 ≤ length s.0
  pub most : length s.0 ≤ 252
  pub above : IsAbove text_cmp after s.0
  pub stamps : StampsWithin clock s.1

-- slots that may be written one after another
abbrev pub AllFollow : ℕ → Option (List ℕ) → List (List ℕ × Slot) → Type 0
AllFollow clock after [] = Unit {0}
AllFollow clock after (s ∷ ss) = Follows clock after s × AllFollow clock (Some s.0) ss

-- the last endpoint
abbrev pub last_endpoint : List (List ℕ × Slot) → Option (List ℕ)
last_endpoint slots = last_key (λ s. s.0) None slots

-- bytes that are UTF-8
abbrev pub IsOwnText : List ℕ → Type 0
IsOwnText text = IsUtf8 text × ((i : ℕ) → slice_index text i < 256)

-- ---- what the types of a slot's fields keep
-- the name and the value of an attribute
pub record AttributeTyped (w : List ℕ × Last (List ℕ)) : Type 0 where
  pub name : IsOwnText w.0
  pub value : IsOwnText w.1.write.1
  pub is : IsAttribute w.0 w.1.write.1

abbrev pub AttributesTyped : List (List ℕ × Last (List ℕ)) → Type 0
AttributesTyped = AllByRecursion AttributeTyped

abbrev pub AcceptTyped : OrGone (Once ℕ) → Type 0
AcceptTyped Gone = Unit {0}
AcceptTyped (Here accept) = IfSome accept.value (λ n. n < 2 ^ 16)

abbrev pub AcceptsTyped : List (Path × Watching) → Type 0
AcceptsTyped = AllByRecursion (λ w. AcceptTyped w.1.value)

-- a printing of at most 8192 bytes, which has a link
abbrev pub IsOwnObjects : List ℕ → Type 0
IsOwnObjects text = IsPrinting text × ((i : ℕ) → slice_index text i < 256) × (1 ≤ length text) × (length text ≤ 8192)

pub record FieldsTyped (slot : Slot) : Type 0 where
  pub address : IfSome (address_of slot) (λ w. IsAddr w.1)
  pub lifetime : IfSome (lifetime_of slot) (λ w. w.1 < 2 ^ 32)
  pub sms : IfSome (sms_of slot) (λ w. IfSome w.1 (λ text. IsOwnText text × (length text ≤ 251)))
  pub objects : IfSome (objects_of slot) (λ w. IsOwnObjects w.1)

pub record BehindTyped (more : Behind) : Type 0 where
  pub attributes : AttributesTyped more.attributes
  pub accepts : AcceptsTyped more.watches

pub record IsTyped (slot : Slot) : Type 0 where
  pub fields : FieldsTyped slot
  pub behind : BehindTyped (behind_of slot)

-- slots that were written one after another
abbrev pub IsGood : ℕ → Option (List ℕ) → List ℕ × Slot → Type 0
IsGood clock after s = Follows clock after s × IsTyped s.1 × IsOwnText s.0

abbrev pub AreGood : ℕ → Option (List ℕ) → List (List ℕ × Slot) → Type 0
AreGood clock after [] = Unit {0}
AreGood clock after (s ∷ ss) = IsGood clock after s × AreGood clock (Some s.0) ss

-- what contracts see of a writer
pub record Begun : Type 0 where
  pub clock : ℕ
  pub bytes : List ℕ

-- these slots were written, one after another
pub record IsBegun (writer : Begun) (slots : List (List ℕ × Slot)) : Type 0 where
  pub bytes : writer.bytes ≡ begun_bytes writer.clock slots
  pub in_range : writer.clock < 2 ^ 48
  pub good : AreGood writer.clock None slots
