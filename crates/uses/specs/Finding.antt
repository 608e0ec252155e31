-- A Register, and what is shown of it at its moment.
use Rattle.std.specs.Prelude.{◌≡◌, ℕ, List, Bool, Option, Some}
use Rattle.lw_stamp.specs.declared.moment.Moment.{Moment}
use Rattle.lw_stamp.specs.declared.stamp.Stamp.{Stamp}
use Rattle.lw_stamp.specs.Moment.{ms_of}
use Rattle.lw_coap.specs.Grammar.{IsSpelling}
use Rattle.lw_coap.specs.Message.{MessageContent}
use Rattle.lw_reg.specs.declared.addr.Addr.{Addr}
use Rattle.lw_reg.specs.declared.op.What.TheVariants as whats
use Rattle.lw_reg.specs.declared.settings.Settings.{Settings}
use Rattle.lw_reg.specs.declared.version.Version.{Version}
use Rattle.lw_reg.specs.Registration.{Registration}
use Rattle.lw_request.specs.declared.asked.Asked.TheVariants as asks
use Rattle.lw_request.specs.Meaning.{Means}
use Rattle.lw_node.specs.Calls.{IsReply}
use Rattle.lw_node.specs.Effects.{answers}
use Rattle.lw_node.specs.Laws.{registered}

-- the message of a Register, and what it asks for
pub record Register : Type 0 where
  pub message : MessageContent
  pub version : Version
  pub queue : Bool
  pub settings : Settings

-- the bytes spell the message, and it asks for a registration of the endpoint
pub record IsRegister (bytes endpoint : List ℕ) (r : Register) : Type 0 where
  pub spelled : IsSpelling bytes r.message
  pub means : Means r.message (asks.Register endpoint r.version r.queue r.settings)

-- The reply is 2.01 with an identifier, and the registration with that is shown as the Register has it: its address is
-- the source of the datagram, and it was seen at this moment.
pub record IsFound (r : Register) (now : ℕ) (source : Addr) (endpoint : List ℕ) (reply : Option (List ℕ)) (shown : Option Registration) : Type 0 where
  pub id : Stamp
  pub seen : Moment
  pub now_is : ms_of seen ≡ now
  pub replied : IsReply reply (Some (answers r.message 65 (Some id)))
  pub shown_is : shown ≡ registered endpoint id (whats.Register r.version r.queue source seen r.settings)
