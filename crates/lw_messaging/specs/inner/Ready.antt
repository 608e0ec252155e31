-- What a message is known to be once it has a block.
use Rattle.std.specs.Prelude.{◌≡◌, ◌<◌, ◌≤◌, length}
use Rattle.lw_coap.specs.Message.{MessageContent}
use Rattle.lw_coap.specs.Fits.{AreRising}

-- a POST, but for its length in bytes
pub record IsReady (message : MessageContent) : Type 0 where
  pub token : length message.token ≤ 8
  pub mid : message.mid < 65536
  pub code : message.code ≡ 2
  pub options : AreRising 0 message.options
