-- The endpoints whose notes pass a test, as a list that is walked along: those that are kept, and those that are due.
use Rattle.std.proofs.Common.{◌≡◌, ◌↔◌, inl, inr, ℕ, ◌<◌, ◌≤◌, Bool, true, false, cond, List, [], ◌∷◌, length, Option, Some, None, refl, sym, ap, subst, ◌∙◌, arith}
use Rattle.std.specs.Prelude.{Contains, filter, nat_le, IsSomeAnd}
use Rattle.std.specs.List.Sorted.{IsStrictlySortedBy}
use Rattle.std.specs.Map.{keys_of}
use Rattle.std.specs.Option.{option_map}
use Rattle.std.specs.Ordering.{match_ordering}
use Rattle.std.specs.declared.cmp.Ordering.{Ordering}
use Rattle.std.specs.declared.cmp.Ordering.TheVariants.{Less, Equal, Greater}
use Rattle.std.proofs.lemmas.Bool.{le-leb}
use Rattle.std.proofs.lemmas.Cmp.{tied_itself}
use Rattle.lw_stamp.specs.declared.stamp.Stamp.{Stamp}
use Rattle.lw_stamp.specs.TextOrder.{text_cmp}
use Rattle.lw_due.specs.Due.{Entry, Note, IsRising, note_of, kept_of, due_of, is_kept, is_due, is_after, names_where, kept_in, first_where}
use Rattle.lw_due.proofs.DueLemmas.{turned}
use Rattle.lw_due.proofs.WhereLemmas.{first_is_next, names_all, names_rise, none_is_left}
use Rattle.lw_reg.specs.OrderLaws.{text_order}
use Rattle.lw_reg.specs.Reading.{deadline_in, is_late, registered_in, stamp_of}
use Rattle.lw_reg.specs.declared.slot.Slot.{Slot}
use Rattle.lw_reg.proofs.Members.{none_there, first_there, more_there, there_or_first}
use Rattle.lw_table.specs.Due.{OptionHasDue}
use Rattle.lw_table.specs.inner.Due.{due_in}
use Rattle.lw_table.specs.inner.Found.{expired_with, named}
use Rattle.lw_table.proofs.DueLemmas.{late_by}
use Rattle.lw_table.proofs.FirstLemmas.{below_all}

-- ---- which they are
module _ (test : Note → Bool) where
  abbrev Passing : List Entry → List Entry
  Passing xs = filter (λ x. test x.1) xs

  one_note : (a b : Note) → ◌≡◌ {A = Option Note} (Some a) (Some b) → a ≡ b
  one_note a b h = cc

  later : (b : Bool) (x : Entry) (xs : List Entry) (e : List ℕ) → Contains (keys_of (Passing xs)) e → Contains (keys_of (cond b (x ∷ Passing xs) (Passing xs))) e
  later true x xs e c = more_there x.0 (keys_of (Passing xs)) e c
  later false x xs e c = c

  -- one that passes is there
  there_by : (o : Ordering) (x : Entry) (xs : List Entry) (e : List ℕ) (note : Note) → text_cmp e x.0 ≡ o → (note_of e xs ≡ Some note → Contains (keys_of (Passing xs)) e) → test note ≡ true
      → match_ordering o None (Some x.1) (note_of e xs) ≡ Some note → Contains (keys_of (cond (test x.1) (x ∷ Passing xs) (Passing xs))) e
  there_by Less x xs e note is rest passes h = absurd cc
  there_by Equal x xs e note is rest passes h =
      let here : test x.1 ≡ true = ap test (one_note x.1 note h) ∙ passes in
      subst (λ b. Contains (keys_of (cond b (x ∷ Passing xs) (Passing xs))) e) (sym here) (first_there x.0 (keys_of (Passing xs)) e (text_order.exact e x.0 is))
  there_by Greater x xs e note is rest passes h = later (test x.1) x xs e (rest h)

  pub name_there : (e : List ℕ) (note : Note) (xs : List Entry) → note_of e xs ≡ Some note → test note ≡ true → Contains (names_where test xs) e
  name_there e note [] h passes = absurd cc
  name_there e note (x ∷ xs) h passes = there_by (text_cmp e x.0) x xs e note refl (λ rest. name_there e note xs rest passes) passes h

  -- and one that is there passes
  pub record Noted (e : List ℕ) (xs : List Entry) : Type 0 where
    pub note : Note
    pub is : note_of e xs ≡ Some note
    pub passes : test note ≡ true

  noted_here : (e : List ℕ) (x : Entry) (xs : List Entry) → e ≡ x.0 → test x.1 ≡ true → Noted e (x ∷ xs)
  noted_here e x xs same passes = record {
    note = x.1;
    is = subst (λ k. note_of k (x ∷ xs) ≡ Some x.1) (sym same) (ap (λ o. match_ordering o None (Some x.1) (note_of x.0 xs)) (tied_itself text_order.total x.0));
    passes = passes;
  }

  noted_later : (e : List ℕ) (x : Entry) (xs : List Entry) → text_cmp x.0 e ≡ Less → Noted e xs → Noted e (x ∷ xs)
  noted_later e x xs less n = record {
    note = n.note;
    is = ap (λ o. match_ordering o None (Some x.1) (note_of e xs)) (turned x.0 e Less less) ∙ n.is;
    passes = n.passes;
  }

  from_by : (b : Bool) (e : List ℕ) (x : Entry) (xs : List Entry) → test x.1 ≡ b → (Contains (keys_of (Passing xs)) e → Noted e (x ∷ xs)) → Contains (keys_of (cond b (x ∷ Passing xs) (Passing xs))) e → Noted e (x ∷ xs)
  from_by false e x xs is rest c = rest c
  from_by true e x xs is rest c = elim (there_or_first x.0 (keys_of (Passing xs)) e c) [
    | inl same ↦ noted_here e x xs same is
    | inr behind ↦ rest behind
  ]

  pub name_noted : (e : List ℕ) (xs : List Entry) → IsRising xs → Contains (names_where test xs) e → Noted e xs
  unfolding IsStrictlySortedBy
  name_noted e [] rising c = none_there e c
  name_noted e (x ∷ xs) rising c =
      from_by (test x.1) e x xs refl
      (λ behind. noted_later e x xs (below_all x.0 (keys_of (Passing xs)) (names_all test (λ k. text_cmp x.0 k ≡ Less) xs rising.0) e behind) (name_noted e xs rising.1 behind)) c

kept_some : (o : Option Note) → option_map (λ (note : Note). note.0) o ≡ Some true → (note : Note) × ((o ≡ Some note) × (note.0 ≡ true))
kept_some None h = absurd cc
kept_some (Some note) h = (note, (refl, cc))

pub kept_there : (e : List ℕ) (xs : List Entry) → IsRising xs → Contains (kept_in xs) e ↔ (kept_of e xs ≡ Some true)
kept_there e xs rising = (
  λ c. let n = name_noted is_kept e xs rising c in ap (option_map (λ note. note.0)) n.is ∙ ap (λ b. Some b) n.passes,
  λ h. let n = kept_some (note_of e xs) h in name_there is_kept e n.0 xs n.1.0 n.1.1,
)

pub kept_rise : (xs : List Entry) → IsRising xs → IsStrictlySortedBy text_cmp (kept_in xs)
kept_rise = names_rise is_kept

pub due_rise : (now : ℕ) (xs : List Entry) → IsRising xs → IsStrictlySortedBy text_cmp (due_in now xs)
due_rise now = names_rise (is_due now)

-- ---- what has expired is due
due_some : (o : Option Note) (at : ℕ) → option_map (λ (note : Note). note.1) o ≡ Some at → (note : Note) × ((o ≡ Some note) × (note.1 ≡ at))
due_some None at h = absurd cc
due_some (Some note) at h = (note, (refl, cc))

due_there : (now at : ℕ) (e : List ℕ) (xs : List Entry) → due_of e xs ≡ Some at → at ≤ now → Contains (due_in now xs) e
due_there now at e xs is come =
    let n = due_some (note_of e xs) at is in
    name_there (is_due now) e n.0 xs n.1.0 (ap (λ k. nat_le k now) n.1.1 ∙ le-leb at now come)

pub expired_due : (now : ℕ) (due : List Entry) (e : List ℕ) (slot : Option Slot) (x : List ℕ × Stamp) → OptionHasDue due e slot → named e (expired_with now slot) ≡ Some x → Contains (due_in now due) e
expired_due now due e None x h found = absurd cc
expired_due now due e (Some slot) x h found = go (is_late now (registered_in [] slot)) refl found
  where
    past : (o : Option ℕ) → deadline_in slot ≡ o → IsSomeAnd o (λ d. d ≤ now) → Contains (due_in now due) e
    past None is p = absurd p
    past (Some d) is p =
        let before : h.at ≤ d = h.by d is in
        let come : d ≤ now = p in
        due_there now h.at e due h.is (omega arith)

    go : (b : Bool) → is_late now (registered_in [] slot) ≡ b → named e (cond b (Some (stamp_of slot)) None) ≡ Some x → Contains (due_in now due) e
    go true is found = past (deadline_in slot) refl ((late_by now (registered_in [] slot)).1 is)
    go false is found = absurd cc

-- ---- a step of a walk
module _ (test : Note → Bool) (xs : List Entry) (rising : IsRising xs) (after : Option (List ℕ)) where
  pub step_on : (e : List ℕ) → Some e ≡ first_where test after xs → filter (is_after after) (names_where test xs) ≡ e ∷ filter (is_after (Some e)) (names_where test xs)
  step_on e is = first_is_next test after e xs rising (sym is)

  fewer : (a b : List (List ℕ)) (e : List ℕ) → a ≡ e ∷ b → length b < length a
  fewer a b e is = subst (λ l. length b < length l) (sym is) (omega arith)

  pub fewer_left : (e : List ℕ) → Some e ≡ first_where test after xs → length (filter (is_after (Some e)) (names_where test xs)) < length (filter (is_after after) (names_where test xs))
  fewer_left e is = fewer (filter (is_after after) (names_where test xs)) (filter (is_after (Some e)) (names_where test xs)) e (step_on e is)

  pub walk_ends : None ≡ first_where test after xs → filter (is_after after) (names_where test xs) ≡ []
  walk_ends is = none_is_left test after xs (sym is)
