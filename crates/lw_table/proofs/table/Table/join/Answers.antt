use Rattle.std.proofs.Common.{◌≡◌, Bool, true, false, refl, sym, ◌∙◌, subst}
use Rattle.std.specs.Prelude.{string_bytes}
use Rattle.lw_reg.specs.Endpoint.{IsEndpoint}
use Rattle.lw_table.specs.inner.Moves.{JoinsRowAt}
use Rattle.lw_table.proofs.CountLemmas.{next_after, saturated}
use Rattle.lw_table.proofs.JoinLemmas.{joins_count, joins_state, known_row, stays_count, stays_state, stays_table}
use Rattle.lw_table.proofs.MoveLemmas.{err_then}
use Rattle.lw_table.proofs.TableLemmas.{filed_at, kept_table, numbers_at, put_table, rows_of, same_table}
use Rattle.lw_table.proofs.table.Table.join.Goals as goal

pub join_first-requires : goal.join_first-requires
join_first-requires c = record {
  filed = filed_at c.self.inside.filed c.self.inside.rows c.self.invariant.0 c.self.inside.change c.self.invariant.1 _;
  numbers = numbers_at c.self.inside.filed c.self.inside.rows c.self.inside.change c.self.invariant.1 (string_bytes c.into_string.result);
  rows = c.self.invariant.0;
}

-- ---- refused
pub returns-in_err-moved-clause-known : goal.returns-in_err-moved-clause-known
returns-in_err-moved-clause-known c = λ below.
    absurd (let ok : false ≡ true = c.in_err-moved.ensures.known ((known_row c.self.inside.rows c.self.invariant.0 c.self.inside.change c.args.self.now c.self.view_is (string_bytes c.into_string.result) c.args.endpoint (c.into_string.ensures ∙ c.into_text.ensures.value) c.args.slot).0 below) in cc)

pub returns-in_err-moved-clause-unchanged : goal.returns-in_err-moved-clause-unchanged
returns-in_err-moved-clause-unchanged c =
    let kept = c.in_err-moved.ensures.unchanged.0 in
    err_then _ c.from_residual.result (same_table c.self.inside.rows c.join_first.new.rows c.self.invariant.0 kept.rows c.self.inside.change kept.same ∙ c.self.view_is)

pub invariant_of-self : goal.invariant_of-self
invariant_of-self c =
    let kept = c.in_err-moved.ensures.unchanged in (
      kept.0.rows,
      kept_table c.self.inside.filed c.join_first.new.filed c.self.inside.rows c.join_first.new.rows c.self.invariant.0 c.self.inside.change (string_bytes c.into_string.result) c.join_first.ensures.others c.self.invariant.1 kept.0 kept.1,
    )

-- ---- moved
pub returns-then-moved : goal.returns-then-moved
returns-then-moved c =
    let m = c.self.inside.rows in
    let n = c.join_first.new.rows in
    let change = c.self.inside.change in
    let number = c.saturating_add-change.result in
    let joins = subst (λ (b : Bool). JoinsRowAt b (string_bytes c.into_string.result) c.args.slot number m n c.self.inside.filed c.join_first.new.filed) c.if-moved.true c.in_ok-moved.ensures.joined in
    let rows_n = joins.1.rows in
    let rows = rows_of c.self.inside.filed m c.self.invariant.0 change c.self.invariant.1 in
    record {
      state = joins_state m n c.self.invariant.0 rows_n change c.args.self.now c.self.view_is (string_bytes c.into_string.result) c.args.endpoint (c.into_string.ensures ∙ c.into_text.ensures.value) c.args.slot number c.self.inside.filed c.join_first.new.filed joins;
      count = joins_count m n c.self.invariant.0 rows_n change c.args.self.now c.self.view_is (string_bytes c.into_string.result) c.args.endpoint (c.into_string.ensures ∙ c.into_text.ensures.value) c.args.slot number c.self.inside.filed c.join_first.new.filed joins
          (saturated change number c.saturating_add-change.ensures rows.last);
      known = λ below. absurd (joins.0 ((known_row m c.self.invariant.0 change c.args.self.now c.self.view_is (string_bytes c.into_string.result) c.args.endpoint (c.into_string.ensures ∙ c.into_text.ensures.value) c.args.slot).0 below));
      unchanged = tt;
    }

pub invariant_of-self-then-moved : goal.invariant_of-self-then-moved
invariant_of-self-then-moved c =
    let m = c.self.inside.rows in
    let n = c.join_first.new.rows in
    let change = c.self.inside.change in
    let number = c.saturating_add-change.result in
    let joins = subst (λ (b : Bool). JoinsRowAt b (string_bytes c.into_string.result) c.args.slot number m n c.self.inside.filed c.join_first.new.filed) c.if-moved.true c.in_ok-moved.ensures.joined in
    let rows = rows_of c.self.inside.filed m c.self.invariant.0 change c.self.invariant.1 in
    let next = next_after change number (saturated change number c.saturating_add-change.ensures rows.last) rows.last in (
      joins.1.rows,
      put_table c.self.inside.filed c.join_first.new.filed m n c.self.invariant.0 change (string_bytes c.into_string.result) c.join_first.ensures.others c.self.invariant.1 _ number joins.1 joins.2 next.0 next.1 next.2 next.3 (subst IsEndpoint (sym c.into_string.ensures) c.into_text.ensures.within),
    )

-- ---- known
pub returns-else-moved : goal.returns-else-moved
returns-else-moved c =
    let m = c.self.inside.rows in
    let n = c.join_first.new.rows in
    let change = c.self.inside.change in
    let number = c.saturating_add-change.result in
    let joins = subst (λ (b : Bool). JoinsRowAt b (string_bytes c.into_string.result) c.args.slot number m n c.self.inside.filed c.join_first.new.filed) c.if-moved.false c.in_ok-moved.ensures.joined in
    let rows_n = joins.1.rows in
    record {
      state = stays_state m n c.self.invariant.0 rows_n change c.args.self.now c.self.view_is (string_bytes c.into_string.result) c.args.endpoint (c.into_string.ensures ∙ c.into_text.ensures.value) c.args.slot number c.self.inside.filed c.join_first.new.filed joins;
      count = stays_count m n c.self.invariant.0 rows_n change c.args.self.now c.self.view_is (string_bytes c.into_string.result) c.args.endpoint (c.into_string.ensures ∙ c.into_text.ensures.value) c.args.slot number c.self.inside.filed c.join_first.new.filed joins;
      known = λ below. (refl, stays_table m n c.self.invariant.0 rows_n change c.args.self.now c.self.view_is (string_bytes c.into_string.result) c.args.endpoint (c.into_string.ensures ∙ c.into_text.ensures.value) c.args.slot number c.self.inside.filed c.join_first.new.filed joins);
      unchanged = tt;
    }

pub invariant_of-self-else-moved : goal.invariant_of-self-else-moved
invariant_of-self-else-moved c =
    let m = c.self.inside.rows in
    let n = c.join_first.new.rows in
    let joins = subst (λ (b : Bool). JoinsRowAt b (string_bytes c.into_string.result) c.args.slot c.saturating_add-change.result m n c.self.inside.filed c.join_first.new.filed) c.if-moved.false c.in_ok-moved.ensures.joined in (
      joins.1.rows,
      kept_table c.self.inside.filed c.join_first.new.filed m n c.self.invariant.0 c.self.inside.change (string_bytes c.into_string.result) c.join_first.ensures.others c.self.invariant.1 joins.1 joins.2,
    )
