use Rattle.std.proofs.Common.{◌<◌, ◌≤◌, ◌∙◌, inl, inr, sym, ap, subst, map, arith}
use Rattle.std.proofs.lemmas.Bool.{cases_lt}
use Rattle.std.proofs.lemmas.List.{length-map}
use Rattle.lw_table.specs.Changes.{Moved, LAST}
use Rattle.lw_table.specs.declared.since.Moved.{Moved as Given}
use Rattle.lw_table.specs.Table.{TableContent, IsTable}
use Rattle.lw_table.specs.Rows.{held_in}
use Rattle.lw_table.proofs.ChangeLemmas.{change_page}
use Rattle.lw_table.proofs.table.Table.changes_after.Goals as goal

abbrev told : Given → Moved
told x = (x.number, (x.endpoint.now, x.slot.now))

pub returns-clause-some : goal.returns-clause-some
returns-clause-some c =
    let now = c.args.self.now in
    let filed = c.self.inside.filed in
    let table = subst (IsTable filed.keys filed.numbers filed.due (held_in c.self.inside.rows)) c.self.view_is c.self.invariant.1 in
    let same = ap (λ (t : TableContent). t.count.change) c.self.view_is in
    let below : now.count.change < LAST = elim (cases_lt now.count.change LAST) [
      | inl less ↦ less
      | inr last ↦ absurd (c.if-self.false (same ∙ (let most = table.last in omega (arith, last, most))))
    ] in
    let items = c.in_ok-changes.field-0.items in
    change_page now.state now.count (λ n d e h k. table.alone n d e (let within = table.within n d h in omega (arith, within, below)) h k) c.args.since c.args.limit (map told items)
    c.in_ok-changes.ensures.next
    (subst (λ k. k ≤ c.args.limit) (sym (length-map items told)) c.in_ok-changes.ensures.within)
    (λ less. c.in_ok-changes.ensures.whole (subst (λ k. k < c.args.limit) (length-map items told) less))
