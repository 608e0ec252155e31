-- A registration that has expired ends.
use Rattle.std.specs.Prelude.{◌≡◌, ℕ, List, Option, Some, None}
use Rattle.std.specs.FinMap.{get}
use Rattle.lw_stamp.specs.declared.moment.Moment.{Moment}
use Rattle.lw_stamp.specs.declared.stamp.Stamp.{Stamp}
use Rattle.lw_join.specs.Maps.{one_key}
use Rattle.lw_reg.specs.Endpoint.{IsEndpoint}
use Rattle.lw_reg.specs.Marks.{Marks}
use Rattle.lw_reg.specs.Reading.{seen_of, stamp_of}
use Rattle.lw_reg.specs.Slot.{ending}
use Rattle.lw_reg.specs.State.{state_join}
use Rattle.lw_reg.specs.declared.slot.Slot.{Slot}
use Rattle.lw_table.specs.Changes.{Recounts}
use Rattle.lw_table.specs.LookUps.{ExpiredAfter}
use Rattle.lw_table.specs.Table.{TableContent}

-- The registration of the endpoint ends as it was last seen: its slot tells so, and takes the next change number.
pub record Lifts (old : TableContent) (endpoint : List ℕ) (id : Stamp) (new : TableContent) : Type 0 where
  pub named : IsEndpoint endpoint
  pub slot : Slot
  pub is : get old.state endpoint ≡ Some slot
  pub id_is : stamp_of slot ≡ id
  pub seen : Stamp × Moment
  pub seen_is : seen_of slot ≡ Some seen
  pub state : new.state ≡ state_join old.state (one_key endpoint (ending id seen.0))
  pub count : Recounts old.state new.state old.count new.count

-- it is that of the least endpoint that has expired; or none has, and nothing is changed
abbrev pub LiftsFirst : Marks → ℕ → TableContent → Option Stamp → TableContent → Type 0
LiftsFirst M now old None new = ExpiredAfter M now None None × (new ≡ old)
LiftsFirst M now old (Some id) new = (e : List ℕ) × ExpiredAfter M now None (Some (e, id)) × Lifts old e id new
