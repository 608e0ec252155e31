use Rattle.std.proofs.Common.{◌≡◌, ◌∙◌, ℕ, List, ◌∷◌, ◌++◌, Bool, false, Option, None, Some, refl, sym, ap, subst, rules}
use Rattle.std.proofs.lemmas.List.Folds.{list_any-append}
use Rattle.std.specs.Option.{is_some, option_map}
use Rattle.lw_due.specs.Due.{Entry, Note, IsRising, changed, kept_of, note_of, is_kept}
use Rattle.lw_due.specs.Knots.{entries_in}
use Rattle.lw_due.specs.inner.Knots.{least_of, has_kept}
use Rattle.lw_due.specs.inner.Notes.{noted}
use Rattle.lw_due.proofs.DueLemmas.{rising_front, rising_back, changed_left, changed_here, changed_right, changed_absent, note_of_left, note_of_here, note_of_right}
use Rattle.lw_due.specs.declared.knot.Knot.TheInside.{Inside}
use Rattle.lw_due.proofs.KnotLemmas.{at_knot, compared, entry_of}
use Rattle.lw_due.proofs.LeastLemmas.{least_of-append}
use Rattle.lw_due.proofs.knot.+change_note.Goals as goal
use Rattle.lw_due.proofs.knot.+change_note.Goals.{Joined-cmp, in-Less, in-Equal, in-Greater}

pub change_note-was-requires : goal.change_note-was-requires
change_note-was-requires t c =
    let at = at_knot c.knot.inside c.in-Some.is c.deref_mut-knot.ensures.value c.knot.view_is in
    (search rules, rising_front _ (entry_of c.knot.inside) _ (subst IsRising at.is c.requires.1.1))

pub change_note-was-requires-in-Greater : goal.change_note-was-requires-in-Greater
change_note-was-requires-in-Greater t c =
    let at = at_knot c.knot.inside c.in-Some.is c.deref_mut-knot.ensures.value c.knot.view_is in
    (search rules, rising_back _ (entry_of c.knot.inside) _ (subst IsRising at.is c.requires.1.1))

abbrev kept_in_note : Option Note → Option Bool
kept_in_note = option_map (λ note. note.0)

-- what is where the three arms meet
record After (e : List ℕ) (f : Note → Note) (all : List Entry) (least : ℕ) (any : Bool) (was : Option Bool) (i : Inside) : Type 0 where
  entries : entries_in i.left ++ entry_of i ∷ entries_in i.right ≡ changed e f all
  there : was ≡ kept_of e all
  same : (i.least ≡ least) × (i.has_kept ≡ any)
  old : (least ≡ least_of all) × (any ≡ has_kept all)

after : (t : ℕ) (c : Joined-cmp t) → After c.args.endpoint.now (noted c.args.change) (entries_in c.args.tree.now) c.knot.inside.least c.knot.inside.has_kept c.match-cmp.was c.match-cmp.knot-inside
after t c =
    let at = at_knot c.knot.inside c.in-Some.is c.deref_mut-knot.ensures.value c.knot.view_is in
    let rising = subst IsRising at.is c.requires.1.1 in
    let f : Note → Note = noted c.args.change in
    let old : (c.knot.inside.least ≡ least_of (entries_in c.args.tree.now)) × (c.knot.inside.has_kept ≡ has_kept (entries_in c.args.tree.now)) = rw at.is c.knot.invariant in
    elim c.match-cmp.branch [
      | in-Less w ↦
          let less = compared c.args.endpoint.now c.knot.inside c.cmp.ensures c.as_str.ensures.value w.in-Less.is in
          record {
            entries = rw (w.knot-inside-is, at.is, w.change_note-was.ensures.changed, changed_left c.args.endpoint.now f _ (entry_of c.knot.inside) _ less);
            there = rw (w.was-is, at.is, w.change_note-was.ensures.was, note_of_left c.args.endpoint.now _ (entry_of c.knot.inside) _ less);
            same = rw w.knot-inside-is (refl, refl);
            old = old;
          }
      | in-Equal w ↦
          let same = compared c.args.endpoint.now c.knot.inside c.cmp.ensures c.as_str.ensures.value w.in-Equal.is in
          record {
            entries = rw (w.knot-inside-is, at.is, w.noted-note.ensures, changed_here c.args.endpoint.now _ (entry_of c.knot.inside) _ rising same f);
            there = rw (w.was-is, at.is, note_of_here c.args.endpoint.now _ (entry_of c.knot.inside) _ rising same);
            same = rw w.knot-inside-is (refl, refl);
            old = old;
          }
      | in-Greater w ↦
          let greater = compared c.args.endpoint.now c.knot.inside c.cmp.ensures c.as_str.ensures.value w.in-Greater.is in
          record {
            entries = rw (w.knot-inside-is, at.is, w.change_note-was-in-Greater.ensures.changed, changed_right c.args.endpoint.now _ (entry_of c.knot.inside) _ rising greater f);
            there = rw (w.was-is, at.is, w.change_note-was-in-Greater.ensures.was, note_of_right c.args.endpoint.now _ (entry_of c.knot.inside) _ rising greater);
            same = rw w.knot-inside-is (refl, refl);
            old = old;
          }
    ]

pub invariant_of-knot : goal.invariant_of-knot
invariant_of-knot t c =
    let i = c.match-cmp.knot-inside in (
      rw (least_of-append (entries_in i.left) (entry_of i ∷ entries_in i.right)) c.least_with-knot-inside.ensures,
      rw (list_any-append (λ x. is_kept x.1) (entries_in i.left) (entry_of i ∷ entries_in i.right)) c.kept_with-knot-inside.ensures,
    )

none_noted : (o : Option Note) (w : Option Bool) → w ≡ kept_in_note o → is_some w ≡ false → o ≡ None
none_noted None w same none = refl
none_noted (Some note) w same none = absurd (let bad : is_some (kept_in_note (Some note)) ≡ false = ap is_some (sym same) ∙ none in cc)

pub invariant_of-knot-else-is_some : goal.invariant_of-knot-else-is_some
invariant_of-knot-else-is_some t c =
    let a = after t (goal.at.invariant_of-knot-else-is_some t c).Joined-cmp in
    let e = c.args.endpoint.now in
    let all = entries_in c.args.tree.now in
    let none : note_of e all ≡ None = none_noted (note_of e all) c.match-cmp.was a.there (sym c.is_some.ensures ∙ c.if-is_some.false) in
    let still = a.entries ∙ changed_absent e (noted c.args.change) all none in (
      a.same.0 ∙ a.old.0 ∙ sym (ap least_of still),
      a.same.1 ∙ a.old.1 ∙ sym (ap has_kept still),
    )

pub returns-then-is_some-clause-changed : goal.returns-then-is_some-clause-changed
returns-then-is_some-clause-changed t c = (after t (goal.at.returns-then-is_some-clause-changed t c).Joined-cmp).entries

pub returns-then-is_some-clause-was : goal.returns-then-is_some-clause-was
returns-then-is_some-clause-was t c = (after t (goal.at.returns-then-is_some-clause-was t c).Joined-cmp).there

pub returns-else-is_some-clause-changed : goal.returns-else-is_some-clause-changed
returns-else-is_some-clause-changed t c = (after t (goal.at.returns-else-is_some-clause-changed t c).Joined-cmp).entries

pub returns-else-is_some-clause-was : goal.returns-else-is_some-clause-was
returns-else-is_some-clause-was t c = (after t (goal.at.returns-else-is_some-clause-was t c).Joined-cmp).there
