-- How a replica begins: a new node, with a number that no start in its log has had, that has merged the log.
use Rattle.std.specs.Prelude.{◌≡◌, ℕ, ◌^◌, ◌<◌, ◌≤◌, ◌⊎◌, List, [], ◌∷◌, ◌++◌, Option, None, true, false}
use Rattle.lw_stamp.specs.declared.moment.Moment.{Moment}
use Rattle.lw_node.specs.Exchange.{known_by}
use Rattle.lw_node.specs.Node.{fresh}
use Rattle.lw_log.specs.Calls.{LogCall, Calls}
use Rattle.lw_log.specs.Entries.{EntryContent, IsEntry}
use Rattle.lw_log.specs.Entries.BodyContent.{Start, Snapshot}
use Rattle.lw_replica.specs.Clocks.{IsRefusedClock, floor_at}
use Rattle.lw_replica.specs.Counting.{CountsEntries, counted_by}
use Rattle.lw_replica.specs.Fleets.{TellFleets, told_in}
use Rattle.lw_replica.specs.Replica.{ReplicaContent, IsCoveredBy}
use Rattle.lw_replica.specs.Reading.{AreReadToTheEnd, entries_in, last_read, AreGood, IsFree, IsMet, AreNoted, MergesEntries}

-- The first entry that a log ever has: a start with the sequence 1. A start over a log that has entries goes on behind 1.
abbrev pub BeginsLog : List ℕ → Type 0
BeginsLog bytes = (e : EntryContent) × IsEntry bytes e × (e.body ≡ Start) × (e.sequence ≡ 1)

abbrev pub IsSnapshot : List ℕ → Type 0
IsSnapshot bytes = (e : EntryContent) × (used_numbers delta : List ℕ) × IsEntry bytes e
    × (e.body ≡ Snapshot used_numbers delta)

abbrev pub HasSnapshot : List (List ℕ) → Type 0
HasSnapshot [] = ⊥
HasSnapshot (e ∷ es) = IsSnapshot e ⊎ HasSnapshot es

-- nothing of the log is missing: it begins with its first entry, or has a snapshot
abbrev pub IsUncut : List (List ℕ) → Type 0
IsUncut [] = Unit {0}
IsUncut (e ∷ es) = BeginsLog e ⊎ HasSnapshot (e ∷ es)

-- the sequence before that of the first own entry
abbrev pub sequence_over : List (List ℕ) → ℕ
sequence_over [] = 0
sequence_over (e ∷ es) = 1

-- from the first on, and round from the last to 1, the one comes before the other
abbrev pub ComesBefore : ℕ → ℕ → ℕ → Type 0
ComesBefore first n number = ((first ≤ n) × (n < number)) ⊎ ((number < first) × ((first ≤ n) ⊎ (n < number)))

-- of the numbers from the first on, and round from the last to 1, this one is the first that was not had
pub record IsFirstFree (had : ℕ → Type 0) (first number : ℕ) : Type 0 where
  pub within : (1 ≤ number) × (number < 2 ^ 16)
  pub free : ¬ had number
  pub before : (n : ℕ) → 1 ≤ n → n < 2 ^ 16 → ComesBefore first n number → had n

-- The log is read to its end twice: to find a number, from the first on, and to merge. The moment is not refused.
pub record IsBegun (before : Option (List LogCall)) (moment : Moment) (tag first : ℕ) (new : ReplicaContent) : Type 0 where
  pub looked : List LogCall
  pub pages : List LogCall
  pub asked : Calls before new.calls (looked ++ pages)
  pub found : AreReadToTheEnd None looked
  pub uncut : IsUncut (entries_in looked)
  pub read : AreReadToTheEnd None pages
  pub read_to : new.read_to ≡ last_read None pages
  pub good : AreGood new.fleet (entries_in pages)
  pub told : TellFleets (false, None) (entries_in pages) (told_in new)
  pub free : IsFree new.node.number (entries_in pages)
  pub number : 1 ≤ new.node.number
  pub first_free : IsFirstFree (λ n. IsMet n (entries_in looked)) first new.node.number
  pub used_numbers : AreNoted [] (entries_in pages) new.used_numbers
  pub counted : CountsEntries (0, 0) (entries_in pages) (counted_by new)
  pub merged : MergesEntries (fresh new.node.number) (entries_in pages) new.node
  pub clock : ¬ IsRefusedClock moment new.node.clock
  pub tag_is : new.tag ≡ tag
  pub floor_is : new.floor ≡ floor_at moment
  pub sequence : new.sequence ≡ sequence_over (entries_in looked)
  pub unclaimed : new.claimed ≡ false
  pub all : new.durable ≡ true
  pub durable : IsCoveredBy new.calls (known_by new.node)
