-- The due moments of endpoints after each change, and what they tell of what has expired.
use Rattle.std.proofs.Common.{◌≡◌, ◌≢◌, ◌↔◌, inl, inr, ℕ, ◌+◌, ◌-◌, ◌^◌, ◌*◌, ◌<◌, ◌≤◌, Bool, true, false, cond, not, min, List, [], ◌∷◌, Option, Some, None, refl, sym, ap, ◌∙◌, subst, arith}
use Rattle.std.specs.Prelude.{◌||◌, ◌==◌, nat_lt, IsSomeAnd}
use Rattle.std.specs.Option.{IsSome, option_map, unwrap_or}
use Rattle.std.specs.declared.cmp.Ordering.TheVariants.{Equal}
use Rattle.std.proofs.lemmas.Bool.{le-leb, lt-leb, cases_lt}
use Rattle.lw_stamp.specs.Moment.{ms_of}
use Rattle.lw_stamp.specs.TextOrder.{text_cmp}
use Rattle.lw_due.specs.Due.{Entry, Note, IsRising, note_of, kept_of, due_of, with_entry, with_kept, changed, lowered, is_due, first_due, raised}
use Rattle.lw_due.proofs.NoteLemmas.{note_of-with_entry, note_of-with_entry_other, note_of-changed, note_of-changed_other, due_of-raised, note_of-raised_other}
use Rattle.lw_reg.specs.OrderLaws.{text_order}
use Rattle.lw_reg.specs.Reading.{deadline_in, deadline_of, is_late, registered_in, stamp_of}
use Rattle.lw_reg.specs.Registration.{Registration}
use Rattle.lw_reg.specs.declared.slot.Slot.{Slot}
use Rattle.lw_table.specs.Due.{HasDue, OptionHasDue}
use Rattle.lw_table.specs.inner.Due.{IsDueBy, OtherDue, deadline_at}
use Rattle.lw_table.specs.inner.Found.{expired_with}
use Rattle.lw_table.proofs.RowLemmas.{same_or_not}

-- ---- what a change leaves
apart : (n e : List ℕ) → n ≢ e → text_cmp n e ≢ Equal
apart n e other tie = other (text_order.exact n e tie)

pub others_changed : (e : List ℕ) (f : Note → Note) (xs : List Entry) → OtherDue e xs (changed e f xs)
others_changed e f xs = record { same = λ n other. note_of-changed_other n e f xs (apart n e other) }

pub others_raised : (e : List ℕ) (now due : ℕ) (xs : List Entry) → first_due now xs ≡ Some e → OtherDue e xs (raised now due xs)
others_raised e now due xs first = record { same = λ n other. note_of-raised_other n e now due xs first (apart n e other) }

pub others_put : (e : List ℕ) (kept : Bool) (due : ℕ) (xs : List Entry) → OtherDue e xs (with_entry e (kept, due) (with_kept e kept (lowered e due xs)))
others_put e kept due xs = record {
  same = λ n other.
      let far = apart n e other in
      note_of-with_entry_other n e (kept, due) (with_kept e kept (lowered e due xs)) far
      ∙ note_of-changed_other n e (λ note. (kept, note.1)) (lowered e due xs) far
      ∙ note_of-changed_other n e (λ note. (note.0, min note.1 due)) xs far;
}

-- ---- what an endpoint has
one_moment : (a b : ℕ) → ◌≡◌ {A = Option ℕ} (Some a) (Some b) → a ≡ b
one_moment a b h = cc

-- a due moment that stayed
pub due_same : (old new : List Entry) (e : List ℕ) → note_of e new ≡ note_of e old → due_of e new ≡ due_of e old
due_same old new e same = ap (option_map (λ note. note.1)) same

pub still_due : (old new : List Entry) (e : List ℕ) (slot : Option Slot) → note_of e new ≡ note_of e old → OptionHasDue old e slot → OptionHasDue new e slot
still_due old new e None same h = h
still_due old new e (Some slot) same h = record { at = h.at; is = due_same old new e same ∙ h.is; by = h.by }

by_lesser : (k d x : ℕ) → d ≡ x → min k d ≤ x
by_lesser k d x same = omega arith

lowered_has : (o : Option Note) (e : List ℕ) (d : ℕ) (xs : List Entry) (slot : Slot) → note_of e xs ≡ o → IsSome o → deadline_in slot ≡ Some d → HasDue (lowered e d xs) e slot
lowered_has None e d xs slot is there deadline = absurd cc
lowered_has (Some note) e d xs slot is there deadline = record {
  at = min note.1 d;
  is = ap (option_map (λ k. k.1)) (note_of-changed e (λ k. (k.0, min k.1 d)) xs ∙ ap (option_map (λ k. (k.0, min k.1 d))) is);
  by = λ x h. by_lesser note.1 d x (one_moment d x (sym deadline ∙ h));
}

pub has_lowered : (e : List ℕ) (d : ℕ) (xs : List Entry) (slot : Slot) → IsSome (note_of e xs) → deadline_in slot ≡ Some d → HasDue (lowered e d xs) e slot
has_lowered e d xs slot there deadline = lowered_has (note_of e xs) e d xs slot refl there deadline

-- a due moment tells that the endpoint is there
pub note_there : (o : Option Note) (at : ℕ) → option_map (λ (note : Note). note.1) o ≡ Some at → IsSome o
note_there None at h = absurd cc
note_there (Some note) at h = refl

pub has_note : (xs : List Entry) (e : List ℕ) (slot : Slot) → HasDue xs e slot → IsSome (note_of e xs)
has_note xs e slot h = note_there (note_of e xs) h.at h.is

kept_lowered_by : (o : Option Note) (d : ℕ) → option_map (λ (note : Note). note.0) (option_map (λ (note : Note). (note.0, min note.1 d)) o) ≡ option_map (λ (note : Note). note.0) o
kept_lowered_by None d = refl
kept_lowered_by (Some note) d = refl

pub kept_of-lowered : (e : List ℕ) (d : ℕ) (xs : List Entry) → kept_of e (lowered e d xs) ≡ kept_of e xs
kept_of-lowered e d xs = ap (option_map (λ note. note.0)) (note_of-changed e (λ note. (note.0, min note.1 d)) xs) ∙ kept_lowered_by (note_of e xs) d

-- ---- an endpoint that is kept, or kept no more
due_kept_by : (o : Option Note) (kept : Bool) → option_map (λ (note : Note). note.1) (option_map (λ (note : Note). (kept, note.1)) o) ≡ option_map (λ (note : Note). note.1) o
due_kept_by None kept = refl
due_kept_by (Some note) kept = refl

pub due_of-with_kept : (e : List ℕ) (kept : Bool) (xs : List Entry) → due_of e (with_kept e kept xs) ≡ due_of e xs
due_of-with_kept e kept xs = ap (option_map (λ note. note.1)) (note_of-changed e (λ note. (kept, note.1)) xs) ∙ due_kept_by (note_of e xs) kept

kept_by : (o : Option Note) (kept : Bool) → IsSome o → option_map (λ (note : Note). note.0) (option_map (λ (note : Note). (kept, note.1)) o) ≡ Some kept
kept_by None kept there = absurd cc
kept_by (Some note) kept there = refl

pub kept_of-with_kept : (e : List ℕ) (kept : Bool) (xs : List Entry) → IsSome (note_of e xs) → kept_of e (with_kept e kept xs) ≡ Some kept
kept_of-with_kept e kept xs there = ap (option_map (λ note. note.0)) (note_of-changed e (λ note. (kept, note.1)) xs) ∙ kept_by (note_of e xs) kept there

none_kept_by : (o : Option Note) → option_map (λ (note : Note). note.0) (option_map (λ (note : Note). (false, note.1)) o) ≡ Some true → ⊥
none_kept_by None h = absurd cc
none_kept_by (Some note) h = absurd cc

pub kept_no_more : (e : List ℕ) (xs : List Entry) → kept_of e (with_kept e false xs) ≡ Some true → ⊥
kept_no_more e xs h = none_kept_by (note_of e xs) (sym (ap (option_map (λ note. note.0)) (note_of-changed e (λ note. (false, note.1)) xs)) ∙ h)

at_deadline : (o : Option ℕ) (d : ℕ) → o ≡ Some d → unwrap_or o (2 ^ 64 - 1) ≤ d
at_deadline None d h = absurd cc
at_deadline (Some x) d h = let same : x ≡ d = one_moment x d h in omega arith

-- the note of an endpoint that is put in
abbrev lowers : ℕ → Note → Note
lowers d note = (note.0, min note.1 d)

abbrev keeps : Bool → Note → Note
keeps kept note = (kept, note.1)

abbrev noted : Bool → ℕ → Note
noted kept d = (kept, d)

put_note : (o : Option Note) (kept : Bool) (d : ℕ) → (k : ℕ) × ((unwrap_or (option_map (keeps kept) (option_map (lowers d) o)) (noted kept d) ≡ noted kept k) × (k ≤ d))
put_note None kept d = (d, (refl, omega arith))
put_note (Some note) kept d = (min note.1 d, (refl, omega arith))

note_put : (e : List ℕ) (kept : Bool) (d : ℕ) (xs : List Entry) → (k : ℕ) × ((note_of e (with_entry e (noted kept d) (with_kept e kept (lowered e d xs))) ≡ Some (noted kept k)) × (k ≤ d))
note_put e kept d xs =
    let low : note_of e (lowered e d xs) ≡ option_map (lowers d) (note_of e xs) = note_of-changed e (lowers d) xs in
    let stays : note_of e (with_kept e kept (lowered e d xs)) ≡ option_map (keeps kept) (option_map (lowers d) (note_of e xs)) = note_of-changed e (keeps kept) (lowered e d xs) ∙ ap (option_map (keeps kept)) low in
    let p = put_note (note_of e xs) kept d in
    (p.0, (note_of-with_entry e (noted kept d) (with_kept e kept (lowered e d xs)) ∙ ap (λ (o : Option Note). Some (unwrap_or o (noted kept d))) stays ∙ ap (λ (n : Note). Some n) p.1.0, p.1.1))

pub has_put : (e : List ℕ) (kept : Bool) (d : ℕ) (xs : List Entry) (slot : Slot) → d ≡ unwrap_or (deadline_in slot) (2 ^ 64 - 1) → HasDue (with_entry e (kept, d) (with_kept e kept (lowered e d xs))) e slot
has_put e kept d xs slot last =
    let p = note_put e kept d xs in
    record {
      at = p.0;
      is = ap (option_map (λ note. note.1)) p.1.0;
      by = λ x h. omega (arith, last, p.1.1, at_deadline (deadline_in slot) x h);
    }

pub kept_put : (e : List ℕ) (kept : Bool) (d : ℕ) (xs : List Entry) → kept_of e (with_entry e (kept, d) (with_kept e kept (lowered e d xs))) ≡ Some kept
kept_put e kept d xs = ap (option_map (λ note. note.0)) (note_put e kept d xs).1.0

-- where the deadline does not fall
pub is_due_still : (xs : List Entry) (e : List ℕ) (slot : Slot) (before : Option ℕ) (d : ℕ) → IsDueBy xs e before → Some d ≡ deadline_in slot → ((at : ℕ) → ((x : ℕ) → before ≡ Some x → at ≤ x) → at ≤ d) → HasDue xs e slot
is_due_still xs e slot before d h is stays = record { at = h.at; is = h.is; by = λ x same. subst (λ n. h.at ≤ n) (one_moment d x (is ∙ same)) (stays h.at h.by) }

-- the first that is due, raised to the deadline of its slot
has_raised : (e : List ℕ) (now : ℕ) (xs : List Entry) (slot : Option Slot) → IsRising xs → first_due now xs ≡ Some e → OptionHasDue (raised now (deadline_at slot) xs) e slot
has_raised e now xs None rising first = tt
has_raised e now xs (Some slot) rising first = record {
  at = deadline_at (Some slot);
  is = due_of-raised e now (deadline_at (Some slot)) xs rising first;
  by = at_deadline (deadline_in slot);
}

pub raised_below : (slots : List ℕ → Option Slot) (first : List ℕ) (now : ℕ) (xs : List Entry) → IsRising xs → first_due now xs ≡ Some first
    → (e : List ℕ) → OptionHasDue xs e (slots e) → OptionHasDue (raised now (deadline_at (slots first)) xs) e (slots e)
raised_below slots first now xs rising is e h = same_or_not first e
    (λ t same. subst (λ k. OptionHasDue (raised now (deadline_at (slots first)) xs) k (slots k)) same (has_raised first now xs (slots first) rising is))
    (λ f other. still_due xs (raised now (deadline_at (slots first)) xs) e (slots e) ((others_raised first now (deadline_at (slots first)) xs is).same e (λ alike. other (sym alike))) h)

-- ---- how many are due
abbrev pub due_count : ℕ → List Entry → ℕ
due_count now [] = 0
due_count now (x ∷ xs) = cond (is_due now x.1) 1 0 + due_count now xs

pub fewer_due : (now due : ℕ) (e : List ℕ) (xs : List Entry) → now < due → first_due now xs ≡ Some e → due_count now (raised now due xs) < due_count now xs
fewer_due now due e [] later first = absurd cc
fewer_due now due e (x ∷ xs) later first =
    elim (cases_lt now x.1.1) [
      | inl after ↦
          let rest = fewer_due now due e xs later (rw (lt-leb x.1.1 now after) at first) in
          rw (lt-leb x.1.1 now after) (rw (lt-leb x.1.1 now after) (none_more (due_count now (raised now due xs)) (due_count now xs) rest))
      | inr come ↦ rw (le-leb x.1.1 now come) (rw (lt-leb due now later) (lt-suc_count (due_count now xs)))
    ]
  where
    none_more : (a b : ℕ) → a < b → 0 + a < 0 + b
    none_more a b h = omega arith

    lt-suc_count : (n : ℕ) → 0 + n < 1 + n
    lt-suc_count n = omega arith

-- ---- deadlines
late_at : (now end : ℕ) → (end ≤ now) ↔ (not (nat_lt now end) ≡ true)
late_at now end = grind arith

-- a registration has expired from its deadline on
pub late_by : (now : ℕ) (o : Option Registration) → IsSomeAnd (deadline_of o) (λ d. d ≤ now) ↔ (is_late now o ≡ true)
late_by now None = (λ h. absurd h, λ h. absurd cc)
late_by now (Some r) = go (r.lifetime == 0) (ms_of r.seen + 1000 * r.lifetime)
  where
    go : (b : Bool) (end : ℕ) → IsSomeAnd (cond b None (Some end)) (λ d. d ≤ now) ↔ (not (b || nat_lt now end) ≡ true)
    go true end = (λ h. absurd h, λ h. absurd cc)
    go false end = late_at now end

-- one that is due later has not expired
pub not_expired : (now : ℕ) (due : List Entry) (e : List ℕ) (slot : Option Slot) → ((k : ℕ) → due_of e due ≡ Some k → now < k) → OptionHasDue due e slot → expired_with now slot ≡ None
not_expired now due e None later h = refl
not_expired now due e (Some slot) later h = go (is_late now (registered_in [] slot)) refl
  where
    past : (o : Option ℕ) → deadline_in slot ≡ o → IsSomeAnd o (λ d. d ≤ now) → ⊥
    past None is p = p
    past (Some d) is p =
        let after : now < h.at = later h.at h.is in
        let before : h.at ≤ d = h.by d is in
        let come : d ≤ now = p in
        omega arith

    go : (b : Bool) → is_late now (registered_in [] slot) ≡ b → cond b (Some (stamp_of slot)) None ≡ None
    go true is = absurd (past (deadline_in slot) refl ((late_by now (registered_in [] slot)).1 is))
    go false is = refl

-- a slot whose deadline has come, before the last moment, has expired
come_is : (now : ℕ) (o : Option ℕ) → now < 2 ^ 64 - 1 → unwrap_or o (2 ^ 64 - 1) ≤ now → IsSomeAnd o (λ d. d ≤ now)
come_is now None last come = absurd (omega arith)
come_is now (Some d) last come = come

pub record HasPassed (now : ℕ) (o : Option Slot) : Type 0 where
  pub slot : Slot
  pub is : o ≡ Some slot
  pub late : is_late now (registered_in [] slot) ≡ true

pub has_passed : (now : ℕ) (o : Option Slot) → now < 2 ^ 64 - 1 → deadline_at o ≤ now → HasPassed now o
has_passed now None last come = absurd (omega arith)
has_passed now (Some slot) last come = record { slot = slot; is = refl; late = (late_by now (registered_in [] slot)).0 (come_is now (deadline_in slot) last come) }
