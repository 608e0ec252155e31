use Rattle.std.proofs.Common.{sym, subst, ap, ◌∙◌}
use Rattle.lw_coap.specs.Message.{MessageContent}
use Rattle.lw_messaging.specs.Blocks.{value_of}
use Rattle.lw_messaging.specs.BlockAnswers.{block_of, without_block}
use Rattle.lw_messaging.specs.inner.Ready.{IsReady}
use Rattle.lw_messaging.proofs.RequestLemmas.{ready_from}
use Rattle.lw_messaging.proofs.taking.take_message.Goals as goal

pub take_block-requires-clause-ready : goal.take_block-requires-clause-ready
take_block-requires-clause-ready c =
    subst (λ (m : MessageContent). IsReady m) (sym (c.without_block-message.ensures ∙ ap without_block c.in_ok-own.ensures))
    (ready_from c.args.message.now (value_of c.in-Some.block) c.requires.fits
    (sym (c.in-Some.ensures ∙ ap block_of c.lend.ensures)))
