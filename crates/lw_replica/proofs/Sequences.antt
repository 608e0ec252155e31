-- The entries of a start are numbered, one after another.
use Rattle.std.proofs.Common.{◌≡◌, ℕ, ◌≤◌, List, [], ◌∷◌, ◌++◌, refl, sym, subst, arith}
use Rattle.std.specs.Prelude.{Result, Ok, Err}
use Rattle.lw_log.specs.Calls.{LogCall, Placed, Calls, append_calls, trim_calls}
use Rattle.lw_log.specs.Calls.LogCall.{Read, Wrote, Tried, Trimmed}
use Rattle.lw_log.specs.Entries.{BodyContent}
use Rattle.lw_log.specs.declared.log_fault.LogFault.{LogFault}
use Rattle.lw_log.specs.declared.log_fault.LogFault.TheVariants.{Unavailable, Refused, Lost, NoMemory}
use Rattle.lw_log.specs.declared.position.Position.{Position}
use Rattle.lw_replica.specs.declared.state.ReplicaState.{ReplicaState}
use Rattle.lw_replica.specs.Replica.{ReplicaContent}
use Rattle.lw_replica.specs.Own.{HasSequence, NumbersOn, NumbersOwn, next_sequence}
use Rattle.lw_replica.specs.Reading.{AreReads}
use Rattle.lw_replica.specs.inner.Taking.{IsEntryOf}
use Rattle.lw_replica.proofs.Asking.{calls_none, calls_then}

-- ---- calls
-- readings are not numbered
pub on_reads : (n : ℕ) (calls : List LogCall) → AreReads calls → NumbersOn n calls n
on_reads n [] reads = refl
on_reads n (Read from es ∷ calls) reads = on_reads n calls reads
on_reads n (Wrote p ∷ calls) reads = absurd reads
on_reads n (Tried e ∷ calls) reads = absurd reads
on_reads n (Trimmed p ∷ calls) reads = absurd reads

pub on_both : (from : ℕ) (xs : List LogCall) (mid : ℕ) (ys : List LogCall) (upto : ℕ) → NumbersOn from xs mid → NumbersOn mid ys upto → NumbersOn from (xs ++ ys) upto
on_both from [] mid ys upto one two = subst (λ n. NumbersOn n ys upto) one two
on_both from (Read after es ∷ xs) mid ys upto one two = on_both from xs mid ys upto one two
on_both from (Wrote p ∷ xs) mid ys upto one two = (one.0, on_both (next_sequence from) xs mid ys upto one.1 two)
on_both from (Tried e ∷ xs) mid ys upto one two = (one.0, on_both from xs mid ys upto one.1 two)
on_both from (Trimmed p ∷ xs) mid ys upto one two = on_both from xs mid ys upto one two

on_failed : (n : ℕ) (entry : List ℕ) (fault : LogFault) → HasSequence (next_sequence n) entry → NumbersOn n (append_calls entry (Err fault)) n
on_failed n entry Unavailable has = (has, refl)
on_failed n entry Refused has = (has, refl)
on_failed n entry Lost has = (has, refl)
on_failed n entry NoMemory has = refl

on_trim : (n : ℕ) (upto : Position) (r : Result Unit LogFault) → NumbersOn n (trim_calls upto r) n
on_trim n upto (Ok x) = refl
on_trim n upto (Err Unavailable) = refl
on_trim n upto (Err Refused) = refl
on_trim n upto (Err Lost) = refl
on_trim n upto (Err NoMemory) = refl

-- ---- a replica
used_numbers_by : (a b : ReplicaContent) (calls : List LogCall) → Calls a.calls b.calls calls → NumbersOn a.sequence calls a.sequence → b.sequence ≡ a.sequence → NumbersOwn a b
used_numbers_by a b calls asked numbered same = record {
  more = calls;
  asked = asked;
  numbered = subst (λ n. NumbersOn a.sequence calls n) (sym same) numbered;
  risen = omega (arith, same);
}

-- it has appended nothing
pub used_numbers_read : (a b : ReplicaContent) (calls : List LogCall) → Calls a.calls b.calls calls → AreReads calls → b.sequence ≡ a.sequence → NumbersOwn a b
used_numbers_read a b calls asked reads same = used_numbers_by a b calls asked (on_reads a.sequence calls reads) same

pub used_numbers_none : (m : ReplicaContent) → NumbersOwn m m
used_numbers_none m = used_numbers_read m m [] (calls_none m.calls) tt refl

pub used_numbers_trim : (a b : ReplicaContent) (upto : Position) (r : Result Unit LogFault) → Calls a.calls b.calls (trim_calls upto r) → b.sequence ≡ a.sequence → NumbersOwn a b
used_numbers_trim a b upto r asked same = used_numbers_by a b (trim_calls upto r) asked (on_trim a.sequence upto r) same

pub used_numbers_failed : (a b : ReplicaContent) (entry : List ℕ) (fault : LogFault) → Calls a.calls b.calls (append_calls entry (Err fault)) → HasSequence (next_sequence a.sequence) entry → b.sequence ≡ a.sequence → NumbersOwn a b
used_numbers_failed a b entry fault asked has same = used_numbers_by a b (append_calls entry (Err fault)) asked (on_failed a.sequence entry fault has) same

pub used_numbers_wrote : (a b : ReplicaContent) (p : Placed) → Calls a.calls b.calls (Wrote p ∷ []) → HasSequence (next_sequence a.sequence) p.1 → b.sequence ≡ next_sequence a.sequence → a.sequence ≤ b.sequence → NumbersOwn a b
used_numbers_wrote a b p asked has is risen = record { more = Wrote p ∷ []; asked = asked; numbered = (has, is); risen = risen }

pub used_numbers_then : (a b c : ReplicaContent) → NumbersOwn a b → NumbersOwn b c → NumbersOwn a c
used_numbers_then a b c one two = record {
  more = one.more ++ two.more;
  asked = calls_then a.calls b.calls c.calls one.more two.more one.asked two.asked;
  numbered = on_both a.sequence one.more b.sequence two.more c.sequence one.numbered two.numbered;
  risen = let x = one.risen in let y = two.risen in omega (arith, x, y);
}

-- an entry of a start has the next sequence
pub has_next : (s : ReplicaState) (fleet : List ℕ) (body : BodyContent) (bytes : List ℕ) → IsEntryOf s fleet body bytes → HasSequence (next_sequence s.sequence) bytes
has_next s fleet body bytes e = (e.entry, e.is, e.sequence_is)
