use Rattle.std.proofs.lemmas.Result.{IfOk-weaker}
use Rattle.std.proofs.Common.{◌≡◌}
use Rattle.lw_coap.specs.Grammar.{IsSpelling}
use Rattle.lw_coap.specs.inner.Writing.{message_bytes}
use Rattle.lw_coap.proofs.Written.{written_spells}
use Rattle.lw_coap.proofs.writing.encode_lent.Goals as goal

pub returns : goal.returns
returns c =
    let m = c.args.message.now in
    IfOk-weaker c.write.result (λ bytes. bytes.items ≡ message_bytes m) (λ bytes. IsSpelling bytes.items m) (λ bytes e. rw e (written_spells m c.requires)) c.write.ensures
