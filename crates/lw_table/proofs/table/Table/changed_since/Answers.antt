use Rattle.std.proofs.Common.{◌≡◌, ◌∙◌, ℕ, List, Some, subst, sym, ap, map}
use Rattle.std.specs.Prelude.{◌↔◌, Contains}
use Rattle.std.specs.FinMap.{get}
use Rattle.lw_table.specs.inner.Since.{AreNamedSince}
use Rattle.lw_reg.specs.declared.slot.Slot.{Slot}
use Rattle.lw_table.specs.Changes.{IsSince, IsSinceIn}
use Rattle.lw_table.specs.Table.{TableContent, IsTable}
use Rattle.lw_table.specs.Rows.{held_in, numbers_in}
use Rattle.lw_table.specs.declared.rows.NamedRow.{NamedRow}
use Rattle.lw_table.specs.inner.Rows.{IsFiledUnder}
use Rattle.lw_table.proofs.PlaceLemmas.{numbers_under}
use Rattle.lw_table.proofs.SinceLemmas.{all_since, if_slots, since_is, some_since}
use Rattle.lw_table.proofs.table.Table.changed_since.Goals.{then-all, else-all}
use Rattle.lw_table.proofs.table.Table.changed_since.Goals as goal

pub returns : goal.returns
returns c =
    let now = c.args.self.now in
    let filed = c.self.inside.filed in
    let names = map (λ e. e.now) c.in_order.result.items in
    let table = subst (IsTable filed.keys filed.numbers filed.due (held_in c.self.inside.rows)) c.self.view_is c.self.invariant.1 in
    let rows = c.deref.result.now in
    let under : (n : ℕ) (e : List ℕ) → IsFiledUnder rows filed.numbers n e ↔ (get now.count.numbers e ≡ Some n) = λ n e.
    subst (λ (t : TableContent). IsFiledUnder rows filed.numbers n e ↔ (get t.count.numbers e ≡ Some n)) c.self.view_is
    (subst (λ (xs : List NamedRow). IsFiledUnder xs filed.numbers n e ↔ (get (numbers_in c.self.inside.rows) e ≡ Some n)) (sym c.deref.ensures.value)
    (numbers_under c.self.inside.rows c.self.invariant.0 filed.numbers c.self.invariant.1.numbers_are n e)) in
    let same = ap (λ (t : TableContent). t.count.change) c.self.view_is in
    let are : AreNamedSince c.if-all.since filed.numbers rows names = λ e. (
      λ h. (c.in_ok-endpoints.ensures e).0 ((c.in_order.ensures.members e).0 h),
      λ h. (c.in_order.ensures.members e).1 ((c.in_ok-endpoints.ensures e).1 h),
    ) in
    let since : (e : List ℕ) (slot : Slot) → get now.state e ≡ Some slot → Contains names e ↔ IsSince now.count c.args.since e = elim c.if-all.branch [
      | then-all w ↦ all_since filed.numbers rows now c.args.since names table.numbered (sym same ∙ w.if-all.true) under (subst (λ s. AreNamedSince s filed.numbers rows names) w.since-is are)
      | else-all w ↦ λ e slot h. some_since filed.numbers rows now.count c.args.since names (λ last. w.if-all.false (same ∙ last)) under (subst (λ s. AreNamedSince s filed.numbers rows names) w.since-is are) e
    ] in
    if_slots _ _ (λ slots is. subst (IsSinceIn now.state now.count c.args.since) (sym is) (since_is now.state now.count c.args.since names c.in_order.ensures.rise since)) c.slots.result c.slots.ensures
