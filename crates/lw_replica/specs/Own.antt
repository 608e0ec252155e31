-- What a replica writes into its log.
use Rattle.std.specs.Prelude.{◌≡◌, ℕ, ◌+◌, ◌-◌, ◌^◌, ◌≤◌, min, ◌⊎◌, List, [], ◌∷◌, Some, None}
use Rattle.lw_node.specs.Exchange.{IsDeltaSince, known_by}
use Rattle.lw_log.specs.Calls.{LogCall, Calls}
use Rattle.lw_log.specs.Calls.LogCall.{Read, Wrote, Tried, Trimmed}
use Rattle.lw_log.specs.Entries.{BodyContent, EntryContent, IsEntry}
use Rattle.lw_log.specs.Entries.BodyContent.{Start, Delta}
use Rattle.lw_replica.specs.Replica.{ReplicaContent, Stays}
use Rattle.lw_replica.specs.Reading.{ReadsOn}

-- of the entry behind one with this sequence, which goes up to the last number of 64 bits
abbrev pub next_sequence : ℕ → ℕ
next_sequence sequence = min (sequence + 1) (2 ^ 64 - 1)

abbrev pub HasSequence : ℕ → List ℕ → Type 0
HasSequence sequence bytes = (e : EntryContent) × IsEntry bytes e × (e.sequence ≡ sequence)

-- Each entry that is appended, or tried, has the next sequence. It rises with each append that returned, and with
-- nothing else.
abbrev pub NumbersOn : ℕ → List LogCall → ℕ → Type 0
NumbersOn from [] upto = upto ≡ from
NumbersOn from (Wrote p ∷ calls) upto = HasSequence (next_sequence from) p.1 × NumbersOn (next_sequence from) calls upto
NumbersOn from (Tried e ∷ calls) upto = HasSequence (next_sequence from) e × NumbersOn from calls upto
NumbersOn from (Read after es ∷ calls) upto = NumbersOn from calls upto
NumbersOn from (Trimmed p ∷ calls) upto = NumbersOn from calls upto

-- an entry of this start, with this body
pub record IsOwn (replica : ReplicaContent) (body : BodyContent) (bytes : List ℕ) : Type 0 where
  pub entry : EntryContent
  pub is : IsEntry bytes entry
  pub number : entry.number ≡ replica.node.number
  pub tag : entry.tag ≡ replica.tag
  pub body_is : entry.body ≡ body

-- one in the replica's fleet
abbrev pub IsOwnIn : ReplicaContent → BodyContent → List ℕ → Type 0
IsOwnIn replica body bytes = (own : IsOwn replica body bytes) × (replica.fleet ≡ Some own.entry.fleet)

-- the delta of the node's clock, and of exactly the slots that moved after the change number
abbrev pub IsOwnSince : ReplicaContent → ℕ → List ℕ → Type 0
IsOwnSince replica since bytes = (delta : List ℕ) × IsDeltaSince replica.node since delta × IsOwnIn replica (Delta delta) bytes

-- a start entry, or the delta of what moved since some change number
abbrev pub IsOwnEntry : ReplicaContent → List ℕ → Type 0
IsOwnEntry replica bytes = IsOwn replica Start bytes ⊎ ((since : ℕ) × IsOwnSince replica since bytes)

abbrev pub IsOwnCall : ReplicaContent → LogCall → Type 0
IsOwnCall replica (Wrote p) = IsOwnEntry replica p.1
IsOwnCall replica (Tried bytes) = IsOwnEntry replica bytes
IsOwnCall replica (Read after es) = Unit {0}
IsOwnCall replica (Trimmed upto) = ⊥

abbrev pub AreOwnCalls : ReplicaContent → List LogCall → Type 0
AreOwnCalls replica [] = Unit {0}
AreOwnCalls replica (call ∷ calls) = IsOwnCall replica call × AreOwnCalls replica calls

-- It has read on over entries that it knows; or the log has lost something, and is read from its first entry again.
abbrev pub IsReadOn : ReplicaContent → List LogCall → ReplicaContent → Type 0
IsReadOn old more new = (new.read_to ≡ None) ⊎ ReadsOn old.alone (known_by new.node) old.read_to more new.read_to

-- Nothing that the node does not know is put into the log, also by an append that failed and is there all the same; and
-- nothing is let go. The replica knows what it knew, and is behind no entry that it does not know.
pub record WritesOwn (old new : ReplicaContent) : Type 0 where
  pub more : List LogCall
  pub asked : Calls old.calls new.calls more
  pub own : AreOwnCalls new more
  pub stays : Stays old new
  pub read_on : IsReadOn old more new

-- its entries are numbered on, and the sequence does not fall
pub record NumbersOwn (old new : ReplicaContent) : Type 0 where
  pub more : List LogCall
  pub asked : Calls old.calls new.calls more
  pub numbered : NumbersOn old.sequence more new.sequence
  pub risen : old.sequence ≤ new.sequence
