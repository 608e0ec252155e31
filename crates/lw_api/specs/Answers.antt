-- What is told of the registrations that a node shows at a moment (LwM2M 1.1 Core, section 6.2; RFC 7641), as JSON texts
-- (RFC 8259).
use Rattle.std.specs.Prelude.{◌≡◌, ◌≢◌, ◌<◌, ◌≤◌, ◌↔◌, ℕ, List, [], ◌∷◌, length, map, max, nat_lt, All, Contains, Option, Some, None, IfSome, IsSomeAnd, codes, string_bytes}
use Rattle.std.specs.FinMap.{get}
use Rattle.std.specs.List.Sorted.{IsStrictlySortedBy}
use Rattle.std.specs.Option.{option_map}
use Rattle.serde_json.specs.Written.{compact_text}
use Rattle.lw_reg.specs.Marks.{Marks}
use Rattle.lw_reg.specs.Registration.{Registration}
use Rattle.lw_reg.specs.State.{State}
use Rattle.lw_reg.specs.declared.path.Path.{Path}
use Rattle.lw_reg.specs.declared.watch.Watch.{Watch}
use Rattle.lw_reg.specs.Showing.{ShownOf}
use Rattle.lw_stamp.specs.declared.stamp.Stamp.{Stamp}
use Rattle.lw_stamp.specs.TextOrder.{text_cmp}
use Rattle.lw_table.specs.Changes.{IsChangePage, LAST, Moved, upto_of}
use Rattle.lw_table.specs.LookUps.{ById, ByAddress, ByToken, WatchOfIdAfter}
use Rattle.lw_table.specs.Pages.{IsPage, MovesOn}
use Rattle.lw_table.specs.Table.{IsKept}
use Rattle.lw_node.specs.Node.{NodeContent}
use Rattle.lw_json.specs.declared.node.NodeNumbers.{NodeNumbers}
use Rattle.lw_json.specs.Changes.{Change, changes_json}
use Rattle.lw_json.specs.Json.{registration_json, watch_json, observations_json, page_json, node_json}
use Rattle.lw_route.specs.declared.api_query.ApiQuery.{ApiQuery}
use Rattle.lw_route.specs.declared.api_query.ApiQuery.TheVariants as api_query
use Rattle.lw_route.specs.declared.api.ApiResponse.{ApiResponse}
use Rattle.lw_route.specs.declared.api.Media.TheVariants.{Json, Nothing}
use Rattle.lw_route.specs.declared.api.Status.{Status}
use Rattle.lw_route.specs.declared.api.Status.TheVariants as status
use Rattle.lw_api.specs.declared.answering.About.{About}
use Rattle.lw_api.specs.Known.{OfKnown}

-- the text is that of the registration that is the answer, or there is none
pub record Tells (state : State) (IsAnswer : Marks → Option Registration → Type 0) (text : Option (List ℕ))
    : Type 0 where
  pub shown : Option Registration
  pub answer : OfKnown state (λ M. IsAnswer M shown)
  pub text_is : text ≡ option_map (λ r. compact_text (registration_json r)) shown

-- the text is that of the observation and its registration that are the answer, or there is none
pub record TellsWatch (state : State) (IsAnswer : Marks → Option (Registration × Watch) → Type 0)
    (text : Option (List ℕ)) : Type 0 where
  pub found : Option (Registration × Watch)
  pub answer : OfKnown state (λ M. IsAnswer M found)
  pub text_is : text ≡ option_map (λ x. compact_text (watch_json x.0 x.1)) found

-- the text is that of a page of so many registrations at most, or one, above the endpoint; the page behind is further on
pub record TellsPage (state : State) (now : ℕ) (after : Option (List ℕ)) (limit : ℕ) (text : List ℕ) : Type 0 where
  pub page : List Registration
  pub next : Option (List ℕ)
  pub answer : OfKnown state (λ M. IsPage M now after next page)
  pub within : length page ≤ max 1 limit
  pub further : MovesOn after next
  pub text_is : text ≡ compact_text (page_json page next)

-- the observations of the registration with the identifier: each on the least path above that of the one before
abbrev pub AreWatchesAfter : Marks → ℕ → Stamp → Option Path → List (Registration × Watch) → Type 0
AreWatchesAfter M now id after [] = Unit {0}
AreWatchesAfter M now id after (x ∷ page) =
    WatchOfIdAfter M now id after (Some x) × AreWatchesAfter M now id (Some x.1.path) page

-- the path of the last of them; of none that behind which they begin
abbrev pub last_path : Option Path → List (Registration × Watch) → Option Path
last_path after [] = after
last_path after (x ∷ page) = last_path (Some x.1.path) page

-- the next page begins behind the last path, if an observation follows there
abbrev pub GoesOnAt : Marks → ℕ → Stamp → Option Path → Option Path → Type 0
GoesOnAt M now id last None = WatchOfIdAfter M now id last None
GoesOnAt M now id last (Some next) =
    (last ≡ Some next) × ((x : Registration × Watch) × WatchOfIdAfter M now id last (Some x))

pub record IsWatchPage (M : Marks) (now : ℕ) (id : Stamp) (after next : Option Path) (page : List (Registration × Watch))
    : Type 0 where
  pub watches : AreWatchesAfter M now id after page
  pub further : GoesOnAt M now id (last_path after page) next

-- the text is that of a page of so many observations at most, or one
pub record TellsWatches (state : State) (now : ℕ) (id : Stamp) (after : Option Path) (limit : ℕ) (text : List ℕ)
    : Type 0 where
  pub page : List (Registration × Watch)
  pub next : Option Path
  pub answer : OfKnown state (λ M. IsWatchPage M now id after next page)
  pub within : length page ≤ max 1 limit
  pub text_is : text ≡ compact_text (observations_json page next)

-- of a registration that is shown its observations are told; where none is shown, there is no text
abbrev pub TellsWatchesOf : State → ℕ → Option Path → ℕ → Option Registration → Option (List ℕ) → Type 0
TellsWatchesOf state now after limit None text = text ≡ None
TellsWatchesOf state now after limit (Some r) text = IsSomeAnd text (TellsWatches state now r.id after limit)

pub record TellsObservations (state : State) (now : ℕ) (endpoint : List ℕ) (after : Option Path) (limit : ℕ)
    (text : Option (List ℕ)) : Type 0 where
  pub shown : Option Registration
  pub answer : OfKnown state (λ M. ShownOf M now endpoint shown)
  pub told : TellsWatchesOf state now after limit shown text

-- how many registrations were not removed
pub record CountsRegistrations (state : State) (n : ℕ) : Type 0 where
  pub all : List (List ℕ)
  pub rising : IsStrictlySortedBy text_cmp all
  pub exactly : (e : List ℕ) → Contains all e ↔ IsKept (get state e)
  pub count : n ≡ length all

-- the text is that of the node in numbers
pub record TellsNode (node : NodeContent) (about : About) (text : List ℕ) : Type 0 where
  pub numbers : NodeNumbers
  pub change : numbers.change ≡ node.table.count.change
  pub counter : numbers.counter ≡ node.clock
  pub number : numbers.number ≡ about.number
  pub registrations : CountsRegistrations node.table.state numbers.registrations
  pub start : numbers.start ≡ about.tag
  pub text_is : text ≡ compact_text (node_json numbers)

-- ---- changes
-- of which endpoint a change is, and its number
abbrev pub named_by_change : Change → ℕ × List ℕ
named_by_change change = (change.0, change.1.0)

abbrev pub named_by_moved : Moved → ℕ × List ℕ
named_by_moved moved = (moved.0, moved.1.0)

-- the change tells what is shown of its endpoint
abbrev pub IsShownAs : NodeContent → ℕ → Change → Type 0
IsShownAs node now change = OfKnown node.table.state (λ M. ShownOf M now change.1.0 change.1.1)

-- Changes, behind a number: of each endpoint that moved since then the last change, and what is shown of it now. They
-- are so many at most. There are more where the node has changed after the last of them.
pub record TellsChanges (node : NodeContent) (about : About) (now since limit : ℕ) (text : List ℕ) : Type 0 where
  pub page : List Moved
  pub moved : IsChangePage node.table.state node.table.count since limit page
  pub changes : List Change
  pub of_them : map named_by_change changes ≡ map named_by_moved page
  pub shown : All (IsShownAs node now) changes
  pub text_is : text ≡ compact_text (changes_json changes (nat_lt (upto_of since page) node.table.count.change)
      (upto_of since page) about.tag)

-- ---- answers
-- it has the status, and the text as its JSON
pub record IsJson (status : Status) (text : List ℕ) (answer : ApiResponse) : Type 0 where
  pub status_is : answer.status ≡ status
  pub media_is : answer.media ≡ Json
  pub body_is : string_bytes answer.body ≡ text

abbrev pub IsNotFound : ApiResponse → Type 0
IsNotFound = IsJson status.NotFound (codes "{\"error\":\"not found\"}")

-- what was found, or that nothing was
abbrev pub IsFound : Option (List ℕ) → ApiResponse → Type 0
IsFound (Some text) answer = IsJson status.Ok text answer
IsFound None answer = IsNotFound answer

-- the observation that was created, or that it is not found
abbrev pub IsCreated : Option (List ℕ) → ApiResponse → Type 0
IsCreated (Some text) answer = IsJson status.Created text answer
IsCreated None answer = IsNotFound answer

-- that it was done: no body, and so no media type
pub record IsNoContent (answer : ApiResponse) : Type 0 where
  pub status_is : answer.status ≡ status.NoContent
  pub media_is : answer.media ≡ Nothing
  pub body_is : string_bytes answer.body ≡ []

-- Changes are told to who follows this start, or begins. At the last change number, where one number stands for many,
-- none are told.
pub record IsChangesAnswer (node : NodeContent) (about : About) (now since : ℕ) (start : Option ℕ) (limit : ℕ)
    (answer : ApiResponse) : Type 0 where
  pub unsaid : start ≡ None → 0 < since → IsJson status.BadRequest (codes "{\"error\":\"start\"}") answer
  pub other : IfSome start (λ tag. tag ≢ about.tag → IsJson status.Gone (codes "{\"error\":\"gone\"}") answer)
  pub told : (start ≡ None → since ≡ 0) → IfSome start (λ tag. tag ≡ about.tag) → node.table.count.change ≢ LAST
      → (text : List ℕ) × TellsChanges node about now since limit text × IsJson status.Ok text answer
  pub ended : (start ≡ None → since ≡ 0) → IfSome start (λ tag. tag ≡ about.tag) → node.table.count.change ≡ LAST
      → IsJson status.ServiceUnavailable (codes "{\"error\":\"no more changes\"}") answer

-- The answer of a node to what is asked of it. The page, the measures, whether the server serves, and what devices told
-- are not.
abbrev pub IsAnswer : NodeContent → About → ℕ → ApiQuery → ApiResponse → Type 0
IsAnswer node about now (api_query.Registrations after limit) answer =
    (text : List ℕ) × TellsPage node.table.state now after limit text × IsJson status.Ok text answer
IsAnswer node about now (api_query.Registration endpoint) answer =
    (text : Option (List ℕ)) × Tells node.table.state (λ M. ShownOf M now endpoint) text × IsFound text answer
IsAnswer node about now (api_query.Observations endpoint after limit) answer =
    (text : Option (List ℕ)) × TellsObservations node.table.state now endpoint after limit text × IsFound text answer
IsAnswer node about now (api_query.ById id) answer =
    (text : Option (List ℕ)) × Tells node.table.state (λ M. ById M now id) text × IsFound text answer
IsAnswer node about now (api_query.ByAddress address) answer =
    (text : Option (List ℕ)) × Tells node.table.state (λ M. ByAddress M now address) text × IsFound text answer
IsAnswer node about now (api_query.ByToken token) answer =
    (text : Option (List ℕ)) × TellsWatch node.table.state (λ M. ByToken M now token) text × IsFound text answer
IsAnswer node about now api_query.Node answer = (text : List ℕ) × TellsNode node about text
    × IsJson status.Ok text answer
IsAnswer node about now (api_query.Changes since start limit) answer =
    IsChangesAnswer node about now since start limit answer
IsAnswer node about now _ answer = IsNotFound answer
