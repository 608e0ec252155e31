-- What is not taken of a log, and why.
use Rattle.std.proofs.Common.{◌≡◌, inl, inr, ℕ, zero, suc, List, [], ◌∷◌, ◌++◌, Option, Some, None, sym, ap, subst}
use Rattle.std.specs.Prelude.{Result, Ok, Err, IfErr, IsErrAnd, option_map, slice_get}
use Rattle.lw_log.specs.Calls.{LogCall, Calls, placed}
use Rattle.lw_log.specs.EntryFaults.{IsNewer}
use Rattle.lw_log.specs.declared.entry.FleetId.{FleetId}
use Rattle.lw_log.specs.declared.log_fault.LogFault.{LogFault}
use Rattle.lw_log.specs.declared.log_fault.LogFault.TheVariants as log_faults
use Rattle.lw_log.specs.declared.position.Position.{Position}
use Rattle.lw_replica.specs.declared.fault.ReplicaFault.{ReplicaFault}
use Rattle.lw_replica.specs.declared.fault.ReplicaFault.TheVariants.{Log, AnotherFleet, LogCut, LogNewer, NumberTaken, NumbersEnded, ClockAhead, NoMemory}
use Rattle.lw_replica.specs.declared.state.ReplicaState.{ReplicaState}
use Rattle.lw_replica.specs.Faults.{fault_of}
use Rattle.lw_replica.specs.Replica.{ReplicaContent}
use Rattle.lw_replica.specs.Parts.{content_of, fleet_of}
use Rattle.lw_replica.specs.Reading.{bytes_of, entries_in}
use Rattle.lw_replica.specs.Refusals.{HasNewer, HasAnother, IsOfAnother, IsRefused, Refuses}
use Rattle.lw_replica.specs.inner.Taking.{AreNotTaken, IsNotTaken}
use Rattle.lw_replica.proofs.Asking.{calls_then, entries_append}

-- ---- entries
newer_behind : (xs ys : List (List ℕ)) → HasNewer ys → HasNewer (xs ++ ys)
newer_behind [] ys h = h
newer_behind (x ∷ xs) ys h = inr (newer_behind xs ys h)

another_behind : (fleet : Option (List ℕ)) (xs ys : List (List ℕ)) → HasAnother fleet ys → HasAnother fleet (xs ++ ys)
another_behind fleet [] ys h = h
another_behind fleet (x ∷ xs) ys h = inr (another_behind fleet xs ys h)

newer_at : (page : List (Position × List ℕ)) (i : ℕ) (x : Position × List ℕ) → slice_get page i ≡ Some x → IsNewer x.1 → HasNewer (bytes_of (placed page))
newer_at [] i x at h = absurd (let bad = at in cc)
newer_at (y ∷ ys) zero x at h = let same : y ≡ x = cc in inl (subst (λ (z : Position × List ℕ). IsNewer z.1) (sym same) h)
newer_at (y ∷ ys) (suc i) x at h = inr (newer_at ys i x at h)

another_at : (fleet : Option (List ℕ)) (page : List (Position × List ℕ)) (i : ℕ) (x : Position × List ℕ) → slice_get page i ≡ Some x → IsOfAnother fleet x.1 → HasAnother fleet (bytes_of (placed page))
another_at fleet [] i x at h = absurd (let bad = at in cc)
another_at fleet (y ∷ ys) zero x at h = let same : y ≡ x = cc in inl (subst (λ (z : Position × List ℕ). IsOfAnother fleet z.1) (sym same) h)
another_at fleet (y ∷ ys) (suc i) x at h = inr (another_at fleet ys i x at h)

-- one of a page is not taken
pub not_taken_at : (s : ReplicaState) (page : List (Position × List ℕ)) (i : ℕ) (x : Position × List ℕ) (fault : ReplicaFault) → slice_get page i ≡ Some x → IsNotTaken s x.1 fault → AreNotTaken s (bytes_of (placed page)) fault
not_taken_at s page i x fault at (inl h) = inl (h.0, newer_at page i x at h.1)
not_taken_at s page i x fault at (inr (inl h)) = inr (inl (h.0, h.1, another_at (fleet_of s) page i x at h.2))
not_taken_at s page i x fault at (inr (inr h)) = inr (inr h)

-- fleets of other bytes are others
pub fleet_differs : (known : Option FleetId) (fleet : FleetId) → (known ≡ Some fleet → ⊥) → option_map (λ (f : FleetId). f.bytes) known ≡ Some fleet.bytes → ⊥
fleet_differs None fleet other same = absurd (let bad = same in cc)
fleet_differs (Some known) fleet other same =
    let bytes : known.bytes ≡ fleet.bytes = cc in
    other (ap (λ (b : List ℕ). Some (record { bytes = b })) bytes)

-- ---- faults
refused_behind : (m : ReplicaContent) (xs ys : List (List ℕ)) (fault : ReplicaFault) → IsRefused m ys fault → IsRefused m (xs ++ ys) fault
refused_behind m xs ys (Log f) h = tt
refused_behind m xs ys AnotherFleet h = (h.0, another_behind m.fleet xs ys h.1)
refused_behind m xs ys LogCut h = absurd h
refused_behind m xs ys LogNewer h = newer_behind xs ys h
refused_behind m xs ys NumberTaken h = tt
refused_behind m xs ys NumbersEnded h = absurd h
refused_behind m xs ys ClockAhead h = absurd h
refused_behind m xs ys NoMemory h = tt

log_refuses : (m : ReplicaContent) (es : List (List ℕ)) (f : LogFault) → IsRefused m es (fault_of f)
log_refuses m es log_faults.Unavailable = tt
log_refuses m es log_faults.Refused = tt
log_refuses m es log_faults.Lost = tt
log_refuses m es log_faults.NoMemory = tt

not_taken_refuses : (asked : Option (List LogCall)) (s : ReplicaState) (es : List (List ℕ)) (fault : ReplicaFault) → AreNotTaken s es fault → IsRefused (content_of asked s) es fault
not_taken_refuses asked s es fault (inl h) = subst (λ f. IsRefused (content_of asked s) es f) (sym h.0) h.1
not_taken_refuses asked s es fault (inr (inl h)) = subst (λ f. IsRefused (content_of asked s) es f) (sym h.0) (h.1, h.2)
not_taken_refuses asked s es fault (inr (inr h)) = subst (λ f. IsRefused (content_of asked s) es f) (sym h) tt

-- ---- a replica
pub refuses_then : (a b c : ReplicaContent) (calls : List LogCall) (fault : ReplicaFault) → Calls a.calls b.calls calls → Refuses b c fault → Refuses a c fault
refuses_then a b c calls fault asked r = record {
  more = calls ++ r.more;
  asked = calls_then a.calls b.calls c.calls calls r.more asked r.asked;
  why = subst (λ es. IsRefused c es fault) (sym (entries_append calls r.more)) (refused_behind c (entries_in calls) (entries_in r.more) fault r.why);
}

pub refuses_log : (a b : ReplicaContent) (calls : List LogCall) (f : LogFault) (fault : ReplicaFault) → fault ≡ fault_of f → Calls a.calls b.calls calls → Refuses a b fault
refuses_log a b calls f fault is asked = record { more = calls; asked = asked; why = subst (λ x. IsRefused b (entries_in calls) x) (sym is) (log_refuses b (entries_in calls) f) }

pub refuses_memory : (a b : ReplicaContent) (calls : List LogCall) (fault : ReplicaFault) → fault ≡ NoMemory → Calls a.calls b.calls calls → Refuses a b fault
refuses_memory a b calls fault is asked = record { more = calls; asked = asked; why = subst (λ x. IsRefused b (entries_in calls) x) (sym is) tt }

pub refuses_taken : (a b : ReplicaContent) (calls : List LogCall) (fault : ReplicaFault) → fault ≡ NumberTaken → Calls a.calls b.calls calls → Refuses a b fault
refuses_taken a b calls fault is asked = record { more = calls; asked = asked; why = subst (λ x. IsRefused b (entries_in calls) x) (sym is) tt }

-- an entry of a page was not taken
pub refuses_page : (a0 a a1 : Option (List LogCall)) (s0 s1 : ReplicaState) (pages calls : List LogCall) (es : List (List ℕ)) (fault : ReplicaFault) → Calls a0 a pages → Calls a a1 calls → entries_in calls ≡ es → AreNotTaken s1 es fault
    → Refuses (content_of a0 s0) (content_of a1 s1) fault
refuses_page a0 a a1 s0 s1 pages calls es fault asked more is not_taken = record {
  more = pages ++ calls;
  asked = calls_then a0 a a1 pages calls asked more;
  why = subst (λ xs. IsRefused (content_of a1 s1) xs fault) (sym (entries_append pages calls))
      (refused_behind (content_of a1 s1) (entries_in pages) (entries_in calls) fault (subst (λ xs. IsRefused (content_of a1 s1) xs fault) (sym is) (not_taken_refuses a1 s1 es fault not_taken)));
}

-- a fault that goes on
pub raised : {A : Type 0} (P : ReplicaFault → Type 0) (r : Result A ReplicaFault) {fault : ReplicaFault} → IsErrAnd r (λ y. y ≡ fault) → P fault → IfErr r P
raised P (Ok x) h p = absurd h
raised P (Err y) h p = subst P (sym h) p

pub if_err : {A E : Type 0} (P Q : E → Type 0) (r : Result A E) → IfErr r P → ((x : E) → P x → Q x) → IfErr r Q
if_err P Q (Ok x) p f = tt
if_err P Q (Err e) p f = f e p
