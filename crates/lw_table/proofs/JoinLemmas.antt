-- A slot that is joined to that of an endpoint's row, or tells nothing new.
use Rattle.std.proofs.Common.{◌≡◌, ◌↔◌, ℕ, Bool, true, false, List, Some, Result, Ok, Err, refl, sym, ap, ◌∙◌, subst}
use Rattle.std.specs.Prelude.{IfOk}
use Rattle.std.specs.Option.{IsSomeAnd}
use Rattle.std.specs.FinMap.{get}
use Rattle.lw_join.specs.Maps.{one_key}
use Rattle.lw_reg.specs.Slot.{slot_below}
use Rattle.lw_reg.specs.State.{state_join}
use Rattle.lw_reg.specs.declared.slot.Slot.{Slot}
use Rattle.lw_table.specs.Changes.{Recounts, counted}
use Rattle.lw_table.specs.Table.{slot_of, TableContent}
use Rattle.lw_table.specs.inner.Moves.{next_row, FilesRow, IsKnown, JoinsRow, JoinsRowAt, PutsRow}
use Rattle.lw_table.specs.Rows.{IsRows, numbers_in, state_in, table_in}
use Rattle.lw_table.specs.inner.Rows.{row_at, spot_of}
use Rattle.lw_table.specs.declared.filed.Filed.{Filed}
use Rattle.lw_table.specs.declared.row.Row.{Row}
use Rattle.lw_table.specs.declared.rows.Rows.{Rows}
use Rattle.lw_table.proofs.CountLemmas.{known_state, recount_none, recount_one}
use Rattle.lw_table.proofs.RowLemmas.{put_again}
use Rattle.lw_table.proofs.TableLemmas.{get-state, joined_state, same_table}

pub if_ok : {T E : Type 0} (P Q : T → Type 0) (r : Result T E) → ((x : T) → P x → Q x) → IfOk r P → IfOk r Q
if_ok P Q (Ok x) then h = then x h
if_ok P Q (Err e) then h = tt

module _ (e : List ℕ) (slot : Slot) (number : ℕ) (was filed : Filed) where
  -- a row that is there
  pub joined_at : (m n : Rows) (old new : Row) → Some old ≡ row_at m e → PutsRow e new m n → FilesRow e (spot_of m e) (Some new) was filed
      → (moved : Bool) → JoinsRow moved slot number old new → JoinsRowAt moved e slot number m n was filed
  joined_at m n old new is put is_filed true joins =
      let next : new ≡ next_row (row_at m e) slot number = joins.1 ∙ ap (λ o. next_row o slot number) is in (
        λ known. joins.0 (subst (λ o. IsKnown o slot) (sym is) known),
        subst (λ (r : Row). PutsRow e r m n) next put,
        subst (λ (r : Row). FilesRow e (spot_of m e) (Some r) was filed) next is_filed,
      )
  joined_at m n old new is put is_filed false joins =
      let stays : Some new ≡ row_at m e = ap Some joins.1 ∙ is in (
        subst (λ o. IsKnown o slot) is joins.0,
        put_again m n e new put stays,
        subst (λ o. FilesRow e (spot_of m e) o was filed) stays is_filed,
      )

-- what the table knows of the endpoint its row knows
pub known_row : (m : Rows) → IsRows m → (change : ℕ) (t : TableContent) → table_in m change ≡ t → (e e0 : List ℕ) → e ≡ e0 → (slot : Slot) → IsSomeAnd (get t.state e0) (slot_below slot) ↔ IsKnown (row_at m e) slot
known_row m rows change t view e e0 same slot =
    let at : get t.state e0 ≡ slot_of (row_at m e) = ap (λ (x : TableContent). get x.state e0) (sym view) ∙ ap (get (state_in m)) (sym same) ∙ get-state m rows e in
    (λ h. subst (λ o. IsSomeAnd o (slot_below slot)) at h, λ h. subst (λ o. IsSomeAnd o (slot_below slot)) (sym at) h)

module _ (m n : Rows) (rows_m : IsRows m) (rows_n : IsRows n) (change : ℕ) (t : TableContent) (view : table_in m change ≡ t) (e e0 : List ℕ) (same : e ≡ e0) (slot : Slot) where
  module _ (number : ℕ) (was filed : Filed) (joins : JoinsRowAt true e slot number m n was filed) where
    pub joins_state : state_in n ≡ state_join t.state (one_key e0 slot)
    joins_state = joined_state m n rows_m rows_n e slot number joins.1.at ∙ (λ i. state_join (view i).state (one_key (same i) slot))

    pub joins_count : number ≡ counted change 1 → Recounts t.state (state_in n) t.count (record { change = number; numbers = numbers_in n })
    joins_count is = subst (λ (x : TableContent). Recounts x.state (state_in n) x.count (record { change = number; numbers = numbers_in n })) view
        (recount_one m n rows_m rows_n e slot number change joins.1.at (λ below. joins.0 ((known_row m rows_m change (table_in m change) refl e e refl slot).0 below)) is)

  module _ (number : ℕ) (was filed : Filed) (joins : JoinsRowAt false e slot number m n was filed) where
    pub stays_table : table_in n change ≡ t
    stays_table = same_table m n rows_m rows_n change joins.1.same ∙ view

    pub stays_state : state_in n ≡ state_join t.state (one_key e0 slot)
    stays_state = ap (λ (x : TableContent). x.state) stays_table ∙ known_state t.state e0 slot ((known_row m rows_m change t view e e0 same slot).1 joins.0)

    pub stays_count : Recounts t.state (state_in n) t.count (record { change = change; numbers = numbers_in n })
    stays_count = subst (λ (x : TableContent). Recounts t.state x.state t.count x.count) (sym stays_table) (recount_none t.state t.count)
