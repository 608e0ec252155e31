use Rattle.std.proofs.Common.{subst}
use Rattle.std.specs.Prelude.{Option}
use Rattle.lw_coap.specs.Message.{MessageContent}
use Rattle.lw_messaging.specs.inner.Reading.{Spells}
use Rattle.lw_messaging.proofs.block_answers.with_block.Goals as goal

pub unchanged-requires : goal.unchanged-requires
unchanged-requires c = λ m s f. subst (λ (o : Option MessageContent). Spells c.args.reply.now o) c.in-None.is
    c.in_ok-read.ensures m s
