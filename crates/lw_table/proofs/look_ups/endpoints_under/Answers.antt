use Rattle.std.proofs.Common.{inl, inr, ◌≡◌, ◌⊎◌, ℕ, List, refl, length, get_or, rules, ltb-true, Some, map, slice_get, ltb-false, ap, sym, subst}
use Rattle.std.proofs.lemmas.Option.{slice_get_past, slice_get_read}
use Rattle.std.specs.Prelude.{◌↔◌, Contains}
use Rattle.lw_reg.proofs.Members.{none_there}
use Rattle.lw_table.specs.Rows.{name_of}
use Rattle.lw_table.specs.inner.Rows.{IsFiledUnder}
use Rattle.lw_table.proofs.OrderLemmas.{one_more}
use Rattle.lw_table.proofs.SinceLemmas.{Gathers, all_gathered, endpoint_gathered, nothing_gathered}
use Rattle.lw_table.proofs.look_ups.endpoints_under.Goals as goal

pub loop-place-init : goal.loop-place-init
loop-place-init c =
    let gives = c.into_iter-place-iterator.ensures.into_iter_gives in
    let all = c.of-place-items.ensures in (
      tt,
      tt,
      λ e. (
        λ h. elim h [
          | inl none ↦ none_there e (subst (λ l. Contains l e) (ap (map (λ t. t.now)) c.new-endpoints.ensures.items) none)
          | inr left ↦ (left.0, (all left.0).0 (subst (λ l. Contains l left.0) gives left.1), left.2)
        ],
        λ h. inr (h.0, subst (λ l. Contains l h.0) (sym gives) ((all h.0).1 h.1), h.2),
      ),
    )

pub loop-place-preserved : goal.loop-place-preserved
loop-place-preserved c =
    let rows = c.args.rows.now in
    let All = IsFiledUnder rows c.args.keys.now c.args.key in
    let names = map (λ t. t.now) c.loop-place.endpoints.items in (
      tt,
      tt,
      nothing_gathered rows All names c.in-Some.place c.next.new.self (subst (λ left. Gathers rows names left All) c.in-Some.ensures.steps c.loop-place.invariant.2)
          (slice_get_past rows c.in-Some.place (ltb-false _ _ (sym c.in_default.ensures.lookup.0))),
    )

pub loop-place-preserved-in-Continue-1 : goal.loop-place-preserved-in-Continue-1
loop-place-preserved-in-Continue-1 c =
    let rows = c.args.rows.now in
    let place = c.in-Some.place in
    let named = c.in-Some-get.named.now in
    let All = IsFiledUnder rows c.args.keys.now c.args.key in
    let names = map (λ t. t.now) c.loop-place.endpoints.items in
    let more = map (λ t. t.now) c.push.new.self.items in
    let at : named ≡ get_or rows place named = search rules in
    let is : slice_get rows place ≡ Some named = slice_get_read rows (length rows) place named refl (ltb-true _ _ (sym c.in-Some-get.ensures.lookup.0)) at in
    let added : (e : List ℕ) → Contains more e ↔ (Contains names e ⊎ (e ≡ name_of named)) = λ e.
    subst (λ x. Contains more e ↔ (Contains names e ⊎ (e ≡ x))) c.as_str.ensures.value (one_more (λ t. t.now) c.loop-place.endpoints.items c.push.new.self.items c.as_str.result c.in_ok-push.ensures.items e) in (
      tt,
      tt,
      endpoint_gathered rows All names place c.next.new.self (subst (λ left. Gathers rows names left All) c.in-Some.ensures.steps c.loop-place.invariant.2) more named is added,
    )

pub returns : goal.returns
returns c =
    all_gathered c.args.rows.now (IsFiledUnder c.args.rows.now c.args.keys.now c.args.key) (map (λ t. t.now) c.loop-place.endpoints.items) c.loop-place.place-iterator c.in-None.ensures.steps.0 c.loop-place.invariant.2
