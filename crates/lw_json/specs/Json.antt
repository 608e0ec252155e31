-- What is shown of a registration (LwM2M 1.1 Core, section 6.2), of an observation (RFC 7641) and of what a device tells
-- of one, and of a node and its server, as JSON objects (RFC 8259, section 4). Their keys stand in order.
use Rattle.std.specs.Prelude.{ℕ, Bool, true, false, List, [], ◌∷◌, map, Option, Some, None, codes}
use Rattle.std.specs.Int.{w64, to_be_bytes}
use Rattle.hex.specs.Hex.{encode_lower}
use Rattle.serde_json.specs.Data.{Data, Members, null, boolean, number, unsigned, string, array, object, member, no_members}
use Rattle.serde_json.specs.View.{items_of}
use Rattle.lw_stamp.specs.declared.stamp.Stamp.{Stamp}
use Rattle.lw_stamp.specs.declared.moment.Moment.{Moment}
use Rattle.lw_stamp.specs.Moment.{ms_of}
use Rattle.lw_stamp.specs.Stamp.{id_of}
use Rattle.lw_reg.specs.declared.path.Path.{Path}
use Rattle.lw_reg.specs.declared.watch.Watch.{Watch}
use Rattle.lw_reg.specs.Addr.{addr_text}
use Rattle.lw_reg.specs.Binding.{binding_text}
use Rattle.lw_reg.specs.Registration.{Registration}
use Rattle.lw_reg.specs.Version.{version_text}
use Rattle.lw_call.specs.Contents.{NoticeContent}
use Rattle.lw_json.specs.declared.node.NodeNumbers.{NodeNumbers}
use Rattle.lw_json.specs.PathText.{path_text}

-- the text, or null where there is none
abbrev pub text_or_null : Option (List ℕ) → Data
text_or_null None = null
text_or_null (Some text) = string text

-- the number, or null where there is none
abbrev pub number_or_null : Option ℕ → Data
number_or_null None = null
number_or_null (Some n) = number (unsigned n)

-- a member for each attribute, names rising
abbrev pub attributes_json : List (List ℕ × List ℕ) → Members
attributes_json [] = no_members
attributes_json (a ∷ attributes) = member a.0 (string a.1) (attributes_json attributes)

abbrev pub registration_json : Registration → Data
registration_json r = object
    (member (codes "address") (string (addr_text r.address))
    (member (codes "attributes") (object (attributes_json r.attributes))
    (member (codes "binding") (string (binding_text r.binding))
    (member (codes "endpoint") (string r.endpoint)
    (member (codes "id") (string (id_of r.id))
    (member (codes "lifetime") (number (unsigned r.lifetime))
    (member (codes "lwm2m") (string (version_text r.version))
    (member (codes "objects") (string r.objects)
    (member (codes "queue") (boolean r.queue)
    (member (codes "seen") (number (unsigned (ms_of r.seen)))
    (member (codes "sms") (text_or_null r.sms)
    no_members)))))))))))

-- registrations, and the endpoint that the page behind goes on from
abbrev pub page_json : List Registration → Option (List ℕ) → Data
page_json shown next = object
    (member (codes "next") (text_or_null next)
    (member (codes "registrations") (array (items_of (map registration_json shown)))
    no_members))

-- a watch, and its registration
abbrev pub watch_json : Registration → Watch → Data
watch_json r watch = object
    (member (codes "accept") (number_or_null watch.accept)
    (member (codes "endpoint") (string r.endpoint)
    (member (codes "id") (string (id_of r.id))
    (member (codes "path") (string (path_text watch.path))
    (member (codes "token") (string (id_of watch.token))
    no_members)))))

abbrev pub observation_json : Registration × Watch → Data
observation_json observation = watch_json observation.0 observation.1

abbrev pub path_or_null : Option Path → Data
path_or_null (Some path) = string (path_text path)
path_or_null None = null

-- watches of a registration, and the path that the page behind goes on from
abbrev pub observations_json : List (Registration × Watch) → Option Path → Data
observations_json watches next = object
    (member (codes "next") (path_or_null next)
    (member (codes "observations") (array (items_of (map observation_json watches)))
    no_members))

-- a registration that has expired
abbrev pub stale_json : List ℕ → Stamp → Data
stale_json endpoint id = object
    (member (codes "endpoint") (string endpoint)
    (member (codes "id") (string (id_of id))
    no_members))

-- the code is the byte as a number
abbrev pub notice_json : NoticeContent → Data
notice_json n = object
    (member (codes "code") (number (unsigned n.code))
    (member (codes "content_format") (number_or_null n.format)
    (member (codes "ended") (boolean n.ended)
    (member (codes "endpoint") (string n.endpoint)
    (member (codes "id") (string (id_of n.id))
    (member (codes "observe") (number_or_null n.observe)
    (member (codes "path") (string (path_text n.path))
    (member (codes "payload") (string (encode_lower n.payload))
    (member (codes "token") (string (id_of n.token))
    no_members)))))))))

-- a tag of 64 bits, as 16 hex digits
abbrev pub tag_text : ℕ → List ℕ
tag_text tag = encode_lower (to_be_bytes w64 tag)

-- a node in numbers
abbrev pub node_json : NodeNumbers → Data
node_json n = object
    (member (codes "change") (number (unsigned n.change))
    (member (codes "counter") (number (unsigned n.counter))
    (member (codes "number") (number_or_null n.number)
    (member (codes "registrations") (number (unsigned n.registrations))
    (member (codes "start") (string (tag_text n.start))
    no_members)))))

-- whether a counter nears its end
abbrev pub counter_text : Bool → List ℕ
counter_text true = codes "near its end"
counter_text false = codes "ok"

-- a server serves
abbrev pub serving_json : Moment → Bool → List ℕ → Data
serving_json now nears_end version = object
    (member (codes "counter") (string (counter_text nears_end))
    (member (codes "now") (number (unsigned (ms_of now)))
    (member (codes "status") (string (codes "serving"))
    (member (codes "version") (string version)
    no_members))))

-- its log is away
abbrev pub away_json : Moment → List ℕ → Data
away_json now version = object
    (member (codes "now") (number (unsigned (ms_of now)))
    (member (codes "status") (string (codes "away"))
    (member (codes "version") (string version)
    no_members)))

-- nothing is told of the counter of a server whose log is away
abbrev pub health_json : Moment → Bool → Bool → List ℕ → Data
health_json now true nears_end version = serving_json now nears_end version
health_json now false nears_end version = away_json now version
