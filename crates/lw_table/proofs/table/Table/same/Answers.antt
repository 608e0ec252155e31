use Rattle.std.proofs.Common.{rules, ◌≡◌, ◌∙◌, false, true, ap, sym}
use Rattle.lw_table.specs.Rows.{name_of}
use Rattle.lw_table.specs.Table.{TableContent}
use Rattle.lw_table.proofs.CopyLemmas.{rows_alike, same_content}
use Rattle.lw_table.proofs.table.Table.same.Goals as goal
use Rattle.lw_table.proofs.table.Table.same.Goals.{then-self-other, else-self-other}

pub returns-then-are_same : goal.returns-then-are_same
returns-then-are_same c =
    let this = c.self.inside in
    let other = c.other.inside in
    elim c.if-self-other.branch [
      | then-self-other w ↦ (
        λ h. sym c.self.view_is
            ∙ same_content this.rows other.rows c.self.invariant.0 c.other.invariant.0 this.change other.change
            w.if-self-other.true (w.are_same.ensures.0 (sym w.value-is ∙ c.if-are_same.true)) (c.are_same-then-are_same.ensures.0 h)
            ∙ c.other.view_is,
        λ same. c.are_same-then-are_same.ensures.1
            (λ place named there. sym (rows_alike this.rows other.rows c.self.invariant.0 c.other.invariant.0 this.change other.change (c.self.view_is ∙ same ∙ sym c.other.view_is) (name_of named))),
      )
      | else-self-other w ↦ absurd (let equal = sym w.value-is ∙ c.if-are_same.true in w.if-self-other.false (search rules))
    ]

pub returns-else-are_same : goal.returns-else-are_same
returns-else-are_same c =
    let this = c.self.inside in
    let other = c.other.inside in (
      λ h. absurd (let bad : false ≡ true = sym c.if-are_same.false ∙ h in cc),
      λ same.
          let content = c.self.view_is ∙ same ∙ sym c.other.view_is in
          elim c.if-self-other.branch [
            | then-self-other w ↦ w.value-is ∙ w.are_same.ensures.1 (λ place named there. rows_alike this.rows other.rows c.self.invariant.0 c.other.invariant.0 this.change other.change content (name_of named))
            | else-self-other w ↦ absurd (w.if-self-other.false (ap (λ (t : TableContent). t.count.change) content))
          ],
    )
