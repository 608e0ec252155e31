use Rattle.std.proofs.Common.{◌≡◌, sym, subst}
use Rattle.lw_coap.specs.Message.{MessageContent}
use Rattle.lw_coap.specs.Grammar.{IsSpelling}
use Rattle.lw_coap.specs.Fits.{Fits}
use Rattle.lw_messaging.specs.Blocks.{value_of}
use Rattle.lw_messaging.specs.BlockAnswers.{IsWithBlock}
use Rattle.lw_messaging.proofs.AnswerLemmas.{full_stays, not_both, has_it_by, ok_weaker}
use Rattle.lw_messaging.proofs.block_answers.with_block_in.Goals as goal

pub unchanged-requires : goal.unchanged-requires
unchanged-requires c =
    full_stays c.args.reply.now (value_of c.args.block.now) c.args.message c.requires
    (λ f. not_both c.fits.result (c.fits.ensures.1 (subst (λ (m : MessageContent). Fits m) (sym c.in_ok-with.ensures)
    f)) c.if-not-fits.true)

pub returns : goal.returns
returns c =
    ok_weaker c.encode.result (λ bytes. IsSpelling bytes.items c.in_ok-with.with)
    (λ bytes. IsWithBlock c.args.reply.now (value_of c.args.block.now) bytes.items)
    (λ bytes s. has_it_by c.args.reply.now bytes.items (value_of c.args.block.now) c.args.message c.in_ok-with.with
    c.requires
    c.in_ok-with.ensures (c.fits.ensures.0 c.if-not-fits.false) s)
    c.encode.ensures
