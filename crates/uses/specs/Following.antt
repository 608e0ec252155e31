-- An observation, and the notices that come of datagrams.
use Rattle.std.specs.Prelude.{◌≡◌, ◌≢◌, ◌⊎◌, ℕ, List, [], ◌∷◌, ◌++◌, Option, Some, None, Ok}
use Rattle.lw_stamp.specs.declared.stamp.Stamp.{Stamp}
use Rattle.lw_stamp.specs.Moment.{ms_of}
use Rattle.lw_reg.specs.declared.path.Path.{Path}
use Rattle.lw_reg.specs.Reading.{shown_in}
use Rattle.lw_call.specs.Contents.{NoticeContent, TakenContent, OutgoingContent}
use Rattle.lw_node.specs.Calls.{Observes, Takes}
use Rattle.lw_node.specs.Node.{NodeContent}
use Rattle.uses.specs.declared.following.Datagram.{Datagram}

-- of a notice, if there is one, what is kept: itself, where it has the token
abbrev pub IsKept : Stamp → Option NoticeContent → List NoticeContent → Type 0
IsKept token None kept = kept ≡ []
IsKept token (Some notice) kept = ((notice.token ≡ token) × (kept ≡ notice ∷ [])) ⊎ ((notice.token ≢ token) × (kept ≡ []))

-- those that were kept before, and what is kept of the notice
abbrev pub Keeps : List NoticeContent → Stamp → Option NoticeContent → List NoticeContent → Type 0
Keeps before token notice after = (kept : List NoticeContent) × IsKept token notice kept × (after ≡ before ++ kept)

-- the node takes the datagram
abbrev pub TakesOne : NodeContent → Datagram → TakenContent → NodeContent → Type 0
TakesOne old datagram taken new = Takes old (shown_in old.table.state) (ms_of datagram.now) datagram.from datagram.bytes.items taken new

-- The node takes the datagrams, one after another, and of what they give these notices have the token.
abbrev pub TakesAll : Stamp → NodeContent → List Datagram → List NoticeContent → NodeContent → Type 0
TakesAll token old [] notices new = (notices ≡ []) × (new ≡ old)
TakesAll token old (datagram ∷ datagrams) notices new =
    (taken : TakenContent) × (mid : NodeContent) × (kept : List NoticeContent) × (rest : List NoticeContent)
    × TakesOne old datagram taken mid × IsKept token taken.notice kept × (notices ≡ kept ++ rest) × TakesAll token mid datagrams rest new

-- The node observes the path, and then takes the datagrams; the notices are those with the token of the observation.
abbrev pub Follows : NodeContent → ℕ → Stamp → Path → List Datagram → OutgoingContent → List NoticeContent → NodeContent → Type 0
Follows old now id path datagrams request notices new =
    (mid : NodeContent) × Observes old (shown_in old.table.state) now id path None 1 (Ok request) mid
    × TakesAll request.token mid datagrams notices new
