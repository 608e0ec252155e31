-- What devices told of observations (RFC 7641, section 3), as a JSON object (RFC 8259, section 4). Keys stand in order.
use Rattle.std.specs.Prelude.{ℕ, Bool, List, map, codes}
use Rattle.serde_json.specs.Data.{Data, boolean, number, unsigned, string, array, object, member, no_members}
use Rattle.serde_json.specs.View.{items_of}
use Rattle.lw_call.specs.Contents.{NoticeContent}
use Rattle.lw_json.specs.Json.{notice_json, tag_text}

-- the number of a notification, what the device told, and whether its payload is whole
pub record NotificationContent : Type 0 where
  pub number : ℕ
  pub notice : NoticeContent
  pub is_complete : Bool

abbrev pub notification_json : NotificationContent → Data
notification_json n = object
    (member (codes "complete") (boolean n.is_complete)
    (member (codes "notice") (notice_json n.notice)
    (member (codes "number") (number (unsigned n.number))
    no_members)))

-- notifications, the number to go on from, and the tag of the start that the numbers are of
abbrev pub notifications_json : List NotificationContent → ℕ → ℕ → Data
notifications_json notifications next start = object
    (member (codes "next") (number (unsigned next))
    (member (codes "notifications") (array (items_of (map notification_json notifications)))
    (member (codes "start") (string (tag_text start))
    no_members)))
