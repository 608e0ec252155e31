-- The lines that are printed.
use Rattle.std.specs.Prelude.{ℕ, List, [], ◌++◌, Option, Some, None, codes}
use Rattle.std.specs.Str.Iter.{HasSubslice}
use Rattle.hex.specs.Hex.{encode_lower}
use Rattle.serde_json.specs.Written.{compact_text}
use Rattle.lw_stamp.specs.declared.stamp.Stamp.{Stamp}
use Rattle.lw_reg.specs.Addr.{addr_text}
use Rattle.lw_call.specs.Contents.{NoticeContent, OutgoingContent, TakenContent}
use Rattle.lw_json.specs.Json.{registration_json, stale_json, notice_json}
use Rattle.registry.specs.declared.event.Event.{Event}
use Rattle.registry.specs.declared.event.Event.TheVariants.{Registered, Updated, Removed, Nothing}

-- a JSON object with one member, of a name and a value
abbrev pub event_line : List ℕ → List ℕ → List ℕ
event_line name value = codes "{\"" ++ (name ++ (codes "\":" ++ (value ++ codes "}\n")))

-- what has expired, if anything has
abbrev pub expired_line : Option (List ℕ × Stamp) → List ℕ
expired_line None = []
expired_line (Some x) = event_line (codes "expired") (compact_text (stale_json x.0 x.1))

-- the datagram that is to be sent back, if one is
abbrev pub reply_line : Option (List ℕ) → List ℕ
reply_line None = []
reply_line (Some bytes) = codes "reply " ++ (encode_lower bytes ++ codes "\n")

-- what a device tells of an observation, if it does
abbrev pub notice_line : Option NoticeContent → List ℕ
notice_line None = []
notice_line (Some notice) = event_line (codes "notice") (compact_text (notice_json notice))

-- what a request has changed
abbrev pub happened_line : Event → List ℕ
happened_line (Registered r) = event_line (codes "registered") (compact_text (registration_json r))
happened_line (Updated r) = event_line (codes "updated") (compact_text (registration_json r))
happened_line (Removed endpoint id) = event_line (codes "removed") (compact_text (stale_json endpoint id))
happened_line Nothing = []

-- what comes of a datagram: the reply, the notice and what has happened
abbrev pub taken_text : TakenContent → Event → List ℕ
taken_text taken event = reply_line taken.reply ++ (notice_line taken.notice ++ happened_line event)

-- a request to a device: its address, and the datagram
abbrev pub send_line : OutgoingContent → List ℕ
send_line request = codes "send " ++ (addr_text request.to ++ (codes " " ++ (encode_lower request.bytes ++ codes "\n")))

-- the link of the device object stands in the text of the list of objects, also where that is inside an attribute
abbrev pub HasDevice : List ℕ → Type 0
HasDevice objects = HasSubslice objects (codes "</3/0>")
