-- The outcomes of a block, by their parts.
use Rattle.std.specs.Prelude.{ℕ}
use Rattle.lw_coap.specs.Message.{MessageContent}
use Rattle.lw_reg.specs.declared.addr.Addr.{Addr}
use Rattle.lw_messaging.specs.BlockAnswers.{continue_with}
use Rattle.lw_messaging.specs.Bodies.{Outcome, Continues, Makes, body_of}

abbrev pub continued : ℕ → Addr → ℕ → MessageContent → Outcome
continued now from value whole = Continues (continue_with whole value) (body_of now from whole)

abbrev pub made : ℕ → MessageContent → Outcome
made value whole = Makes whole value
