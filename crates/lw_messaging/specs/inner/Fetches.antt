-- What is decided of a message, and what changes among the fetches by it.
use Rattle.std.specs.Prelude.{◌≡◌, ℕ, List, filter, Option}
use Rattle.std.specs.List.{AllByRecursion}
use Rattle.lw_coap.specs.Message.{MessageContent}
use Rattle.lw_messaging.specs.declared.parcel.Parcel.{Parcel}
use Rattle.lw_messaging.specs.declared.fetch_changes.Change.{Change}
use Rattle.lw_messaging.specs.declared.fetch_changes.Change.TheVariants as changes
use Rattle.lw_messaging.specs.Fetches.{FetchContent, FetchesContent, IsKept, Outcome, Passes, Makes, Begins}
use Rattle.lw_messaging.specs.Fetches.{Continues, Ends}
use Rattle.lw_messaging.specs.Fetches.{message_with, next_number, is_beside, with_fetch, others, IsParcel}

abbrev pub AreKept : List FetchContent → Type 0
AreKept fetches = AllByRecursion IsKept fetches

-- the fetch is another one with another payload
abbrev pub IsOfPayload : FetchContent → FetchContent → Type 0
IsOfPayload before fetch =
    (payload : List ℕ) × (fetch.message ≡ message_with before.message payload)

abbrev pub change_of : Outcome → Change
change_of Passes = changes.Nothing
change_of (Makes message) = changes.Nothing
change_of (Begins fetch value) = changes.Begins fetch
change_of (Continues fetch value) = changes.Continues fetch
change_of (Ends fetch complete) = changes.Ends fetch.number

abbrev pub changed : FetchesContent → Change → FetchesContent
changed old changes.Nothing = old
changed old (changes.Begins fetch) =
    record { next = next_number old.next; fetches = with_fetch (filter (is_beside fetch) old.fetches) fetch }
changed old (changes.Continues fetch) = record old { fetches = with_fetch (others fetch.number old.fetches) fetch }
changed old (changes.Ends number) = record old { fetches = others number old.fetches }

-- a fetch that is kept then is one that may be
abbrev pub IsSound : Change → Type 0
IsSound changes.Nothing = Unit {0}
IsSound (changes.Begins fetch) = IsKept fetch
IsSound (changes.Continues fetch) = IsKept fetch
IsSound (changes.Ends number) = Unit {0}

-- what a caller is given, and what changes, by an outcome
pub record IsDecided (owed : Option MessageContent) (outcome : Outcome) (parcel : Parcel) (change : Change)
    : Type 0 where
  pub parcel_is : IsParcel owed outcome parcel
  pub change_is : change ≡ change_of outcome
  pub sound : IsSound change
