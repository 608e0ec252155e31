use Rattle.std.proofs.Common.{◌≡◌, ◌∙◌, Bool, true, false, Option, Some, List, ℕ, sym, ap, subst, rules}
use Rattle.std.specs.Option.{option_copied}
use Rattle.lw_due.specs.Due.{IsRising, is_after, first_where}
use Rattle.lw_due.specs.Knots.{entries_in}
use Rattle.lw_due.specs.inner.Notes.{fits}
use Rattle.lw_due.proofs.DueLemmas.{rising_front, rising_back}
use Rattle.lw_due.proofs.KnotLemmas.{at_knot, entry_of}
use Rattle.lw_due.proofs.WhereLemmas.{none_where, first_left, first_right, first_here, first_beyond}
use Rattle.lw_due.proofs.knot.+first_above.Goals as goal

-- what the test of the knot's endpoint gave
above : (after : Option (List ℕ)) (text endpoint : List ℕ) (b is : Bool) → text ≡ endpoint → is ≡ is_after after text → is ≡ b → is_after after endpoint ≡ b
above after text endpoint b is same tells result = ap (is_after after) (sym same) ∙ sym tells ∙ result

pub returns-then-not-has : goal.returns-then-not-has
returns-then-not-has t c = sym (none_where (fits c.args.sought) (option_copied c.args.after) (entries_in c.args.tree.now) (sym c.has.ensures ∙ c.if-not-has.true))

pub first_above-requires : goal.first_above-requires
first_above-requires t c =
    let at = at_knot c.knot.inside c.in-Some.is c.deref-knot.ensures c.knot.view_is in
    (search rules, rising_back _ (entry_of c.knot.inside) _ (subst IsRising at.is c.requires.rising))

pub returns-then-not-is_after : goal.returns-then-not-is_after
returns-then-not-is_after t c =
    let at = at_knot c.knot.inside c.in-Some.is c.deref-knot.ensures c.knot.view_is in
    let after = option_copied c.args.after in
    let below = above after c.as_str.result.now (entry_of c.knot.inside).0 false c.is_after.result c.as_str.ensures.value c.is_after.ensures c.if-not-is_after.true in
    c.first_above.ensures
    ∙ sym (first_right (fits c.args.sought) after _ (entry_of c.knot.inside) (entries_in c.knot.inside.right) (subst IsRising at.is c.requires.rising) below)
    ∙ sym (ap (first_where (fits c.args.sought) after) at.is)

pub first_above-requires-2 : goal.first_above-requires-2
first_above-requires-2 t c =
    let at = at_knot c.knot.inside c.in-Some.is c.deref-knot.ensures c.knot.view_is in
    (search rules, rising_front _ (entry_of c.knot.inside) _ (subst IsRising at.is c.requires.rising))

pub returns-in-Some-first_above : goal.returns-in-Some-first_above
returns-in-Some-first_above t c =
    let at = at_knot c.knot.inside c.in-Some.is c.deref-knot.ensures c.knot.view_is in
    let test = fits c.args.sought in
    let after = option_copied c.args.after in
    sym (ap (first_where test after) at.is ∙ first_left test after c.in-Some-first_above.found.now (entries_in c.knot.inside.left) _ (sym c.in-Some-first_above.ensures))

pub returns-then-fits : goal.returns-then-fits
returns-then-fits t c =
    let at = at_knot c.knot.inside c.in-Some.is c.deref-knot.ensures c.knot.view_is in
    let test = fits c.args.sought in
    let after = option_copied c.args.after in
    let is = above after c.as_str.result.now (entry_of c.knot.inside).0 true c.is_after.result c.as_str.ensures.value c.is_after.ensures c.if-not-is_after.false in
    ap (λ k. Some k) c.as_str-then-fits.ensures.value
    ∙ sym (ap (first_where test after) at.is ∙ first_here test after (entries_in c.knot.inside.left) (entry_of c.knot.inside) _ is (sym c.in_default-first_above.ensures) (sym c.fits.ensures ∙ c.if-fits.true))

pub first_above-requires-3 : goal.first_above-requires-3
first_above-requires-3 t c =
    let at = at_knot c.knot.inside c.in-Some.is c.deref-knot.ensures c.knot.view_is in
    (search rules, rising_back _ (entry_of c.knot.inside) _ (subst IsRising at.is c.requires.rising))

pub returns : goal.returns
returns t c =
    let at = at_knot c.knot.inside c.in-Some.is c.deref-knot.ensures c.knot.view_is in
    let test = fits c.args.sought in
    let after = option_copied c.args.after in
    let is = above after c.as_str.result.now (entry_of c.knot.inside).0 true c.is_after.result c.as_str.ensures.value c.is_after.ensures c.if-not-is_after.false in
    c.first_above-3.ensures
    ∙ sym (ap (first_where test after) at.is ∙ first_beyond test after (entries_in c.knot.inside.left) (entry_of c.knot.inside) _ (subst IsRising at.is c.requires.rising) is (sym c.in_default-first_above.ensures) (sym c.fits.ensures ∙ c.if-fits.false))
