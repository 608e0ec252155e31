-- What was asked of a log, call after call, and pages that are read.
use Rattle.std.proofs.Common.{◌≡◌, inl, inr, ℕ, ◌<◌, ◌≤◌, List, [], ◌∷◌, ◌++◌, length, Option, Some, None, refl, sym, ap, ◌∙◌, subst, append_assoc, append-nil}
use Rattle.lw_log.specs.Calls.{LogCall, Placed, Calls}
use Rattle.lw_log.specs.Calls.LogCall.{Read, Wrote, Tried, Trimmed}
use Rattle.lw_log.specs.Known.{IsSeen}
use Rattle.lw_log.specs.Log.{IsAmong}
use Rattle.lw_log.proofs.Seen.{seen_behind}
use Rattle.lw_replica.specs.Reading.{AreReads, AreReadToTheEnd, bytes_of, entries_in, last_read, place_read}
use Rattle.lw_replica.specs.inner.Seeing.{IsSeenBy, AreSeenBy}
use Rattle.lw_replica.specs.inner.Taking.{ArePages}
use Rattle.lw_replica.proofs.Covering.{known_before}

-- ---- calls
pub calls_none : (asked : Option (List LogCall)) → Calls asked asked []
calls_none None = refl
calls_none (Some calls) = ap Some (sym (append-nil calls))

pub calls_then : (a b c : Option (List LogCall)) (xs ys : List LogCall) → Calls a b xs → Calls b c ys → Calls a c (xs ++ ys)
calls_then None b c xs ys one two = subst (λ o. Calls o c ys) one two
calls_then (Some calls) b c xs ys one two = subst (λ o. Calls o c ys) one two ∙ ap Some (append_assoc calls xs ys)

-- ---- what was seen
pub seen_all : (asked : Option (List LogCall)) (es : List (List ℕ)) → ((e : List ℕ) → IsAmong e es → IsSeenBy asked e) → AreSeenBy asked es
seen_all asked [] each = tt
seen_all asked (e ∷ es) each = (each e (inl refl), seen_all asked es (λ x among. each x (inr among)))

pub page_seen : (old new : Option (List LogCall)) (from : Option (ℕ × ℕ)) (es : List Placed) → Calls old new (Read from es ∷ []) → AreSeenBy new (bytes_of es)
page_seen old new from es asked = seen_all new (bytes_of es) (λ e among calls is.
    known_before old new (Read from es ∷ []) calls asked is
    (λ first was same. subst (λ cs. IsSeen e cs) (sym same) (seen_behind first (Read from es ∷ []) e (inl among))))

-- ---- pages
pub pages_more : (after mid : Option (ℕ × ℕ)) (pages : List LogCall) (from : Option (ℕ × ℕ)) (es : List Placed) → ArePages after pages mid → from ≡ mid → 256 ≤ length es
    → ArePages after (pages ++ Read from es ∷ []) (place_read mid es)
pages_more after mid [] from es h same full = (same ∙ h, full, ap (λ p. place_read p es) h)
pages_more after mid (Read at xs ∷ pages) from es h same full = (h.0, h.1, pages_more (place_read after xs) mid pages from es h.2 same full)
pages_more after mid (Wrote p ∷ pages) from es h same full = h
pages_more after mid (Tried e ∷ pages) from es h same full = h
pages_more after mid (Trimmed p ∷ pages) from es h same full = h

pub pages_end : (after mid : Option (ℕ × ℕ)) (pages : List LogCall) (from : Option (ℕ × ℕ)) (es : List Placed) → ArePages after pages mid → from ≡ mid → length es < 256
    → AreReadToTheEnd after (pages ++ Read from es ∷ [])
pages_end after mid [] from es h same few = (same ∙ h, few)
pages_end after mid (Read at xs ∷ []) from es h same few = (h.0, h.1, pages_end (place_read after xs) mid [] from es h.2 same few)
pages_end after mid (Read at xs ∷ Read to ys ∷ pages) from es h same few = (h.0, h.1, pages_end (place_read after xs) mid (Read to ys ∷ pages) from es h.2 same few)
pages_end after mid (Read at xs ∷ Wrote p ∷ pages) from es h same few = absurd h.2
pages_end after mid (Read at xs ∷ Tried e ∷ pages) from es h same few = absurd h.2
pages_end after mid (Read at xs ∷ Trimmed p ∷ pages) from es h same few = absurd h.2
pages_end after mid (Wrote p ∷ pages) from es h same few = absurd h
pages_end after mid (Tried e ∷ pages) from es h same few = absurd h
pages_end after mid (Trimmed p ∷ pages) from es h same few = absurd h

pub pages_last : (after mid : Option (ℕ × ℕ)) (pages : List LogCall) (from : Option (ℕ × ℕ)) (es : List Placed) → ArePages after pages mid → last_read after (pages ++ Read from es ∷ []) ≡ place_read mid es
pages_last after mid [] from es h = ap (λ p. place_read p es) (sym h)
pages_last after mid (Read at xs ∷ pages) from es h = pages_last (place_read after xs) mid pages from es h.2
pages_last after mid (Wrote p ∷ pages) from es h = absurd h
pages_last after mid (Tried e ∷ pages) from es h = absurd h
pages_last after mid (Trimmed p ∷ pages) from es h = absurd h

pub pages_are_reads : (after upto : Option (ℕ × ℕ)) (pages : List LogCall) → ArePages after pages upto → AreReads pages
pages_are_reads after upto [] h = tt
pages_are_reads after upto (Read at xs ∷ pages) h = pages_are_reads (place_read after xs) upto pages h.2
pages_are_reads after upto (Wrote p ∷ pages) h = h
pages_are_reads after upto (Tried e ∷ pages) h = h
pages_are_reads after upto (Trimmed p ∷ pages) h = h

pub reads_more : (pages : List LogCall) (from : Option (ℕ × ℕ)) (es : List Placed) → AreReads pages → AreReads (pages ++ Read from es ∷ [])
reads_more [] from es h = tt
reads_more (Read at xs ∷ pages) from es h = reads_more pages from es h
reads_more (Wrote p ∷ pages) from es h = h
reads_more (Tried e ∷ pages) from es h = h
reads_more (Trimmed p ∷ pages) from es h = h

pub entries_append : (xs ys : List LogCall) → entries_in (xs ++ ys) ≡ entries_in xs ++ entries_in ys
entries_append [] ys = refl
entries_append (Read at es ∷ xs) ys = ap (λ rest. bytes_of es ++ rest) (entries_append xs ys) ∙ sym (append_assoc (bytes_of es) (entries_in xs) (entries_in ys))
entries_append (Wrote p ∷ xs) ys = entries_append xs ys
entries_append (Tried e ∷ xs) ys = entries_append xs ys
entries_append (Trimmed p ∷ xs) ys = entries_append xs ys

pub entries_more : (pages : List LogCall) (from : Option (ℕ × ℕ)) (es : List Placed) → entries_in (pages ++ Read from es ∷ []) ≡ entries_in pages ++ bytes_of es
entries_more pages from es = entries_append pages (Read from es ∷ []) ∙ ap (λ rest. entries_in pages ++ rest) (append-nil (bytes_of es))

-- what is read to the end is read
pub ended_reads : (after : Option (ℕ × ℕ)) (pages : List LogCall) → AreReadToTheEnd after pages → AreReads pages
ended_reads after [] h = absurd h
ended_reads after (Read from es ∷ []) h = tt
ended_reads after (Read from es ∷ Read to ys ∷ pages) h = ended_reads (place_read after es) (Read to ys ∷ pages) h.2
ended_reads after (Read from es ∷ Wrote p ∷ pages) h = absurd h.2
ended_reads after (Read from es ∷ Tried e ∷ pages) h = absurd h.2
ended_reads after (Read from es ∷ Trimmed p ∷ pages) h = absurd h.2
ended_reads after (Wrote p ∷ pages) h = absurd h
ended_reads after (Tried e ∷ pages) h = absurd h
ended_reads after (Trimmed p ∷ pages) h = absurd h
