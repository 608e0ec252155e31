-- The messages that a request is answered with (RFC 7252, sections 4.2, 4.3 and 5.2; LwM2M 1.1 Transport,
-- section 6.4.3).
use Rattle.std.specs.Prelude.{ℕ, List, [], ◌∷◌, codes, Option, Some, None}
use Rattle.lw_stamp.specs.declared.stamp.Stamp.{Stamp}
use Rattle.lw_stamp.specs.Stamp.{id_of}
use Rattle.lw_coap.specs.declared.message.Kind.{Kind}
use Rattle.lw_coap.specs.declared.message.Kind.TheVariants.{Con, Non, Ack, Rst}
use Rattle.lw_coap.specs.Message.{OptionContent, MessageContent}
use Rattle.lw_request.specs.declared.refusal.Refusal.{Refusal}
use Rattle.lw_request.specs.declared.refusal.Refusal.TheVariants.{BadRequest, BadOption, NotFound, MethodNotAllowed, PreconditionFailed, RequestEntityTooLarge, UnsupportedContentFormat, ProxyingNotSupported}

-- 4.00, 4.02, 4.04, 4.05, 4.12, 4.13, 4.15, 5.05 (RFC 7252, section 5.9): the class in the upper three bits
abbrev pub code_of : Refusal → ℕ
code_of BadRequest = 0x80
code_of BadOption = 0x82
code_of NotFound = 0x84
code_of MethodNotAllowed = 0x85
code_of PreconditionFailed = 0x8c
code_of RequestEntityTooLarge = 0x8d
code_of UnsupportedContentFormat = 0x8f
code_of ProxyingNotSupported = 0xa5

-- a message with nothing behind its header
abbrev pub empty_message : Kind → ℕ → MessageContent
empty_message kind mid = record { kind = kind; code = 0; mid = mid; token = []; options = []; payload = [] }

-- an empty Reset, and an empty acknowledgement, of a message ID (RFC 7252, section 4.2)
abbrev pub reset_of : ℕ → MessageContent
reset_of mid = empty_message Rst mid

abbrev pub ack_of : ℕ → MessageContent
ack_of mid = empty_message Ack mid

-- a confirmable request is answered in its acknowledgement, another in a non-confirmable message
abbrev pub answer_kind : Kind → Kind
answer_kind Con = Ack
answer_kind Non = Non
answer_kind Ack = Non
answer_kind Rst = Non

-- the Location-Path of a registration: `rd` and its identifier
abbrev pub location_options : Option Stamp → List OptionContent
location_options None = []
location_options (Some id) = record { number = 8; value = codes "rd" } ∷ record { number = 8; value = id_of id } ∷ []

-- an answer has the message ID and the token of its request
abbrev pub answer_of : Kind → ℕ → List ℕ → ℕ → Option Stamp → MessageContent
answer_of kind mid token code location =
    record { kind = answer_kind kind; code = code; mid = mid; token = token; options = location_options location; payload = [] }
