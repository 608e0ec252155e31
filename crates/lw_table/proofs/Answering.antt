-- What each look-up of a table finds is the answer over the marks that can be read from its state, and over every
-- set of marks whose state it is.
use Rattle.std.proofs.Common.{◌≡◌, ◌↔◌, ℕ, List, Option, Some, None}
use Rattle.std.specs.Prelude.{Contains, filter}
use Rattle.std.specs.FinMap.{get}
use Rattle.lw_stamp.specs.declared.stamp.Stamp.{Stamp}
use Rattle.lw_due.specs.Due.{Entry, IsRising, is_after, kept_in}
use Rattle.lw_reg.specs.declared.addr.Addr.{Addr}
use Rattle.lw_reg.specs.declared.path.Path.{Path}
use Rattle.lw_reg.specs.declared.slot.Slot.{Slot}
use Rattle.lw_reg.specs.declared.watch.Watch.{Watch}
use Rattle.lw_reg.specs.Marks.{Mark, Marks, NamesAll, among}
use Rattle.lw_reg.specs.Reading.{has_token, is_above, live_watch, shown_in}
use Rattle.lw_reg.specs.Registration.{Registration}
use Rattle.lw_reg.specs.Showing.{ShownOf}
use Rattle.lw_reg.specs.State.{State, IsStateOf}
use Rattle.lw_table.specs.declared.key.Key.{Key}
use Rattle.lw_table.specs.declared.key.Key.TheVariants.{Id, Address, Token}
use Rattle.lw_table.specs.declared.row.Row.{Row}
use Rattle.lw_table.specs.Answers.{FirstAfter}
use Rattle.lw_table.specs.inner.Found.{view_at, watch_at, holder_at, expired_at, if_after, first_of, LeastFound, view_cmp, watch_cmp, holder_cmp, holder_of, with_watch}
use Rattle.lw_table.specs.Keys.{OptionHasKey}
use Rattle.lw_table.specs.LookUps.{ById, ByAddress, ByToken, WatchOfIdAfter, ExpiredAfter}
use Rattle.lw_table.specs.Pages.{IsPage}
use Rattle.lw_table.specs.Table.{TableContent, IsKept, IsTable}
use Rattle.lw_table.specs.inner.Due.{due_in}
use Rattle.lw_table.specs.inner.Pages.{IsFoundUpTo}
use Rattle.lw_table.proofs.KeptLemmas.{due_rise, expired_due, kept_rise, kept_there}
use Rattle.lw_table.proofs.PageLemmas.{read_page, marks_page}
use Rattle.lw_table.proofs.LookUpLemmas as answers

module _ (state : State) (now : ℕ) where
  pub read_by_endpoint : (e : List ℕ) (o : Option Registration) → o ≡ view_at now state e → ShownOf (shown_in state) now e o
  read_by_endpoint = answers.by_endpoint (shown_in state) (answers.read_names state) state (answers.read_tells state) now

  pub marks_by_endpoint : (e : List ℕ) (o : Option Registration) → o ≡ view_at now state e → (ms : List Mark) → NamesAll (among ms) → IsStateOf ms state → ShownOf (among ms) now e o
  marks_by_endpoint e o h ms p s = answers.by_endpoint (among ms) p state (answers.marks_tell ms p state s) now e o h

module _ (keys : List (Key × ℕ)) (numbers : List (ℕ × ℕ)) (due : List Entry) {held : List Row} (t : TableContent) (table : IsTable keys numbers due held t) (now : ℕ) where
  -- a set that the state tells of has the answer
  module _ (after : Option (List ℕ)) (rising : IsRising due) where
    kept_are : (e : List ℕ) → Contains (kept_in due) e ↔ IsKept (get t.state e)
    kept_are e =
        let there = kept_there e due rising in
        (λ c. (table.kept_are e).0 (there.0 c), λ h. there.1 ((table.kept_are e).1 h))

    due_are : (e : List ℕ) (x : List ℕ × Stamp) → expired_at now t.state e ≡ Some x → Contains (due_in now due) e
    due_are e x found = expired_due now due e (get t.state e) x (table.due_below e) found

    pub read_first_after : (o : Option Registration) → o ≡ first_of (if_after after (view_at now t.state)) (kept_in due) → FirstAfter (shown_in t.state) now after o
    read_first_after = answers.first_after (shown_in t.state) (answers.read_names t.state) t.state (answers.read_tells t.state) now (kept_in due) (kept_rise due rising) kept_are after

    pub marks_first_after : (o : Option Registration) → o ≡ first_of (if_after after (view_at now t.state)) (kept_in due) → (ms : List Mark) → NamesAll (among ms) → IsStateOf ms t.state → FirstAfter (among ms) now after o
    marks_first_after o h ms p s = answers.first_after (among ms) p t.state (answers.marks_tell ms p t.state s) now (kept_in due) (kept_rise due rising) kept_are after o h

    pub read_expired_after : (o : Option (List ℕ × Stamp)) → o ≡ first_of (if_after after (expired_at now t.state)) (due_in now due) → ExpiredAfter (shown_in t.state) now after o
    read_expired_after = answers.expired_after (shown_in t.state) (answers.read_names t.state) t.state (answers.read_tells t.state) now (due_in now due) (due_rise now due rising) due_are after

    pub marks_expired_after : (o : Option (List ℕ × Stamp)) → o ≡ first_of (if_after after (expired_at now t.state)) (due_in now due) → (ms : List Mark) → NamesAll (among ms) → IsStateOf ms t.state → ExpiredAfter (among ms) now after o
    marks_expired_after o h ms p s = answers.expired_after (among ms) p t.state (answers.marks_tell ms p t.state s) now (due_in now due) (due_rise now due rising) due_are after o h

    -- the page of those that are kept
    module _ (next : Option (List ℕ)) (page : List Registration) (is : IsFoundUpTo (view_at now t.state) (filter (is_after after) (kept_in due)) next page) where
      pub read_kept_page : IsPage (shown_in t.state) now after next page
      read_kept_page = read_page t.state now (kept_in due) (kept_rise due rising) kept_are after next page is

      pub marks_kept_page : (ms : List Mark) → NamesAll (among ms) → IsStateOf ms t.state → IsPage (among ms) now after next page
      marks_kept_page = marks_page t.state now (kept_in due) (kept_rise due rising) kept_are after next page is

-- ---- by key, where D says which endpoints have it
module _ (state : State) (now : ℕ) (D : Key → List ℕ → Type 0) (keys_are : (k : Key) (e : List ℕ) → D k e ↔ OptionHasKey (get state e) k) where
  pub read_by_id : (id : Stamp) (o : Option Registration) → LeastFound view_cmp (view_at now state) (D (Id id)) o → ById (shown_in state) now id o
  read_by_id = answers.by_id (shown_in state) (answers.read_names state) state (answers.read_tells state) now D keys_are

  pub marks_by_id : (id : Stamp) (o : Option Registration) → LeastFound view_cmp (view_at now state) (D (Id id)) o → (ms : List Mark) → NamesAll (among ms) → IsStateOf ms state → ById (among ms) now id o
  marks_by_id id o h ms p s = answers.by_id (among ms) p state (answers.marks_tell ms p state s) now D keys_are id o h

  pub read_by_token : (token : Stamp) (o : Option (Registration × Watch)) → LeastFound watch_cmp (watch_at (has_token token) now state) (D (Token token)) o → ByToken (shown_in state) now token o
  read_by_token = answers.by_token (shown_in state) (answers.read_names state) state (answers.read_tells state) now D keys_are

  pub marks_by_token : (token : Stamp) (o : Option (Registration × Watch)) → LeastFound watch_cmp (watch_at (has_token token) now state) (D (Token token)) o → (ms : List Mark) → NamesAll (among ms) → IsStateOf ms state → ByToken (among ms) now token o
  marks_by_token token o h ms p s = answers.by_token (among ms) p state (answers.marks_tell ms p state s) now D keys_are token o h

  pub read_by_address : (address : Addr) (o : Option (Stamp × Registration)) → LeastFound holder_cmp (holder_at now state) (D (Address address)) o → ByAddress (shown_in state) now address (holder_of o)
  read_by_address = answers.by_address (shown_in state) (answers.read_names state) state (answers.read_tells state) now D keys_are

  pub marks_by_address : (address : Addr) (o : Option (Stamp × Registration)) → LeastFound holder_cmp (holder_at now state) (D (Address address)) o → (ms : List Mark) → NamesAll (among ms) → IsStateOf ms state → ByAddress (among ms) now address (holder_of o)
  marks_by_address address o h ms p s = answers.by_address (among ms) p state (answers.marks_tell ms p state s) now D keys_are address o h

module _ (state : State) (now : ℕ) (id : Stamp) (after : Option Path) where
  abbrev WatchesOf : Registration → Option (Registration × Watch) → Type 0
  WatchesOf r o = (slot : Slot) → get state r.endpoint ≡ Some slot → o ≡ with_watch r (live_watch (is_above after) now slot)

  pub no_watch : (M : Marks) → ById M now id None → WatchOfIdAfter M now id after None
  no_watch M none = λ r h. absurd (none r h.fits)

  pub read_watch_of : (r : Registration) → ById (shown_in state) now id (Some r) → (o : Option (Registration × Watch)) → WatchesOf r o → WatchOfIdAfter (shown_in state) now id after o
  read_watch_of = answers.watch_of_shown (shown_in state) (answers.read_names state) state (answers.read_tells state) now id after

  pub marks_watch_of : (r : Registration) (o : Option (Registration × Watch)) → WatchesOf r o → (ms : List Mark) → NamesAll (among ms) → IsStateOf ms state → ById (among ms) now id (Some r) → WatchOfIdAfter (among ms) now id after o
  marks_watch_of r o is ms p s g = answers.watch_of_shown (among ms) p state (answers.marks_tell ms p state s) now id after r g o is
