-- What has changed of endpoints, as a JSON object (RFC 8259, section 4). Keys stand in order.
use Rattle.std.specs.Prelude.{ℕ, Bool, List, map, Option, Some, None, codes}
use Rattle.serde_json.specs.Data.{Data, null, boolean, number, unsigned, string, array, object, member, no_members}
use Rattle.serde_json.specs.View.{items_of}
use Rattle.lw_reg.specs.Registration.{Registration}
use Rattle.lw_json.specs.declared.changes.Change.{Change as Changes}
use Rattle.lw_json.specs.Json.{registration_json, tag_text}

-- the number of an endpoint's last change, the endpoint, and what is shown of it
abbrev pub Change : Type 0
Change = ℕ × (List ℕ × Option Registration)

abbrev pub change_of : Changes → Change
change_of change = (change.number, (change.endpoint.now, change.registration))

-- the registration, or null where none is shown
abbrev pub registration_or_null : Option Registration → Data
registration_or_null None = null
registration_or_null (Some r) = registration_json r

abbrev pub change_json : Change → Data
change_json change = object
    (member (codes "change") (number (unsigned change.0))
    (member (codes "endpoint") (string change.1.0)
    (member (codes "registration") (registration_or_null change.1.1)
    no_members)))

-- changes, whether there are more, the number to go on from, and the tag of the start that the numbers are of
abbrev pub changes_json : List Change → Bool → ℕ → ℕ → Data
changes_json changes more next start = object
    (member (codes "changes") (array (items_of (map change_json changes)))
    (member (codes "more") (boolean more)
    (member (codes "next") (number (unsigned next))
    (member (codes "start") (string (tag_text start))
    no_members))))
