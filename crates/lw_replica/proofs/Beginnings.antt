-- What a first look has seen of entries, one after another, and which clocks are refused.
use Rattle.std.proofs.Common.{◌≡◌, ◌⊎◌, inl, inr, ℕ, List, [], ◌∷◌, ◌++◌, Bool, true, false, cond, refl, sym, subst}
use Rattle.std.specs.Prelude.{IsTrue}
use Rattle.lw_log.specs.Entries.{BodyContent, EntryContent, IsEntry}
use Rattle.lw_log.specs.Entries.BodyContent.{Start, Delta, Snapshot}
use Rattle.lw_replica.specs.declared.looking.FirstLook.{FirstLook}
use Rattle.lw_stamp.specs.declared.moment.Moment.{Moment}
use Rattle.lw_replica.specs.Clocks.{IsPast2100, IsYearsAhead, IsRefusedClock}
use Rattle.lw_replica.specs.Beginning.{BeginsLog, IsSnapshot, HasSnapshot, IsUncut, sequence_over}
use Rattle.lw_log.specs.declared.log_fault.LogFault.{LogFault}
use Rattle.lw_log.specs.declared.log_fault.LogFault.TheVariants as log_faults
use Rattle.lw_replica.specs.Faults.{fault_of}
use Rattle.lw_replica.specs.inner.Looking.{IsFirst, IsFirstBody, IsAll, IsAllBody, IsLookFault, HasBeginning, HasSeen}

-- ---- lists of entries
snapshot_before : (xs ys : List (List ℕ)) → HasSnapshot xs → HasSnapshot (xs ++ ys)
snapshot_before [] ys h = absurd h
snapshot_before (x ∷ xs) ys (inl w) = inl w
snapshot_before (x ∷ xs) ys (inr later) = inr (snapshot_before xs ys later)

snapshot_behind : (xs ys : List (List ℕ)) → HasSnapshot ys → HasSnapshot (xs ++ ys)
snapshot_behind [] ys h = h
snapshot_behind (x ∷ xs) ys h = inr (snapshot_behind xs ys h)

pub beginning_before : (xs ys : List (List ℕ)) → HasBeginning xs → HasBeginning (xs ++ ys)
beginning_before [] ys h = absurd h
beginning_before (x ∷ xs) ys (inl first) = inl first
beginning_before (x ∷ xs) ys (inr w) = inr (snapshot_before (x ∷ xs) ys w)

snapshot_begins : (xs : List (List ℕ)) (bytes : List ℕ) → IsSnapshot bytes → HasBeginning (xs ++ bytes ∷ [])
snapshot_begins [] bytes w = inr (inl w)
snapshot_begins (x ∷ xs) bytes w = inr (snapshot_behind (x ∷ xs) (bytes ∷ []) (inl w))

pub begins : (xs : List (List ℕ)) (look : FirstLook) (bytes : List ℕ) → HasSeen xs look → IsSnapshot bytes ⊎ ((look.any ≡ false) × BeginsLog bytes) → HasBeginning (xs ++ bytes ∷ [])
begins xs look bytes seen (inl w) = snapshot_begins xs bytes w
begins xs look bytes seen (inr x) = subst (λ es. HasBeginning (es ++ bytes ∷ [])) (sym (seen.none x.0)) (inl x.1)

-- ---- one entry
snapshot_body : (bytes : List ℕ) (e : EntryContent) → IsEntry bytes e → (b : BodyContent) → e.body ≡ b → IsAllBody b → IsSnapshot bytes
snapshot_body bytes e is Start same h = absurd h
snapshot_body bytes e is (Delta delta) same h = absurd h
snapshot_body bytes e is (Snapshot used_numbers delta) same h = (e, used_numbers, delta, is, same)

pub snapshot_of : (bytes : List ℕ) (e : EntryContent) → IsEntry bytes e → IsAll e → IsSnapshot bytes
snapshot_of bytes e is h = snapshot_body bytes e is e.body refl h

first_body : (bytes : List ℕ) (e : EntryContent) → IsEntry bytes e → (b : BodyContent) → e.body ≡ b → IsFirstBody b e.sequence → BeginsLog bytes
first_body bytes e is Start same h = (e, is, same, h)
first_body bytes e is (Delta delta) same h = absurd h
first_body bytes e is (Snapshot used_numbers delta) same h = absurd h

pub first_of_log : (bytes : List ℕ) (e : EntryContent) → IsEntry bytes e → IsFirst e → BeginsLog bytes
first_of_log bytes e is h = first_body bytes e is e.body refl h

-- ---- all of them
pub uncut_by : (es : List (List ℕ)) → HasBeginning es → IsUncut es
uncut_by [] h = tt
uncut_by (e ∷ es) h = h

pub uncut_none : (look : FirstLook) (es : List (List ℕ)) → HasSeen es look → (IsTrue look.any → ⊥) → IsUncut es
uncut_none look es seen not_any = subst (λ xs. IsUncut xs) (sym (seen.none (false_of look.any not_any))) tt
  where
    false_of : (b : Bool) → (IsTrue b → ⊥) → b ≡ false
    false_of true not_any = absurd (not_any refl)
    false_of false not_any = refl

-- ---- clocks
pub not_refused : (moment : Moment) (clock : ℕ) → (IsPast2100 moment → ⊥) → (IsYearsAhead moment clock → ⊥) → IsRefusedClock moment clock → ⊥
not_refused moment clock past ahead (inl h) = past h
not_refused moment clock past ahead (inr h) = ahead h

-- what has an entry more is not empty
pub not_empty : (es : List (List ℕ)) (e : List ℕ) → es ++ e ∷ [] ≡ [] → ⊥
not_empty [] e h = cc
not_empty (x ∷ es) e h = cc

-- a fault of the log may come
pub log_looks : (fault : LogFault) → IsLookFault (fault_of fault)
log_looks log_faults.Unavailable = tt
log_looks log_faults.Refused = tt
log_looks log_faults.Lost = tt
log_looks log_faults.NoMemory = tt

-- the sequence over what a first look has seen
pub sequence_seen : (es : List (List ℕ)) (any : Bool) → (any ≡ false → es ≡ []) → (any ≡ true → es ≡ [] → ⊥) → cond any 1 0 ≡ sequence_over es
sequence_seen [] true none some = absurd (some refl refl)
sequence_seen [] false none some = refl
sequence_seen (e ∷ es) true none some = refl
sequence_seen (e ∷ es) false none some = absurd (let bad = none refl in cc)
