use Rattle.std.proofs.Common.{ℕ, List, Bor}
use Rattle.lw_resp.specs.Replies.{IsReplyOf}
use Rattle.lw_resp.specs.Words.{IsWord, word_bytes, word_content}
use Rattle.lw_resp.specs.declared.words.Word.{Word}
use Rattle.lw_resp.proofs.Composed.{read_some, read_none}
use Rattle.lw_resp.proofs.ReplyLemmas.{word_cut, word_malformed, whole_reply}
use Rattle.lw_resp.proofs.replies.read_reply.Goals as goal

pub reply_from-requires : goal.reply_from-requires
reply_from-requires c =
    let begins = read_some IsWord word_bytes c.args.bytes.now (λ (x : Word × Bor (List ℕ)). word_content x.0) (λ x. x.1.now) c.in-Ok-Some.field-0 (c.in-Ok-Some.word, c.in-Ok-Some.behind) c.in-Ok-Some.field-0-is c.in-Ok-Some.ensures in
    begins.valid

pub returns-in-Ok-Some : goal.returns-in-Ok-Some
returns-in-Ok-Some c =
    let begins = read_some IsWord word_bytes c.args.bytes.now (λ (x : Word × Bor (List ℕ)). word_content x.0) (λ x. x.1.now) c.in-Ok-Some.field-0 (c.in-Ok-Some.word, c.in-Ok-Some.behind) c.in-Ok-Some.field-0-is c.in-Ok-Some.ensures in
    whole_reply c.args.bytes.now c.in-Ok-Some.word c.in-Ok-Some.behind.now (λ x reply. IsReplyOf x.0 reply) (λ x. x.1.now) begins c.reply_from.result c.reply_from.ensures

pub returns-in-Ok-None : goal.returns-in-Ok-None
returns-in-Ok-None c =
    word_cut c.args.bytes.now (read_none IsWord word_bytes c.args.bytes.now (λ (x : Word × Bor (List ℕ)). word_content x.0) (λ x. x.1.now) c.in-Ok-None.field-0 c.in-Ok-None.field-0-is c.in-Ok-None.ensures)

pub returns-in-Err : goal.returns-in-Err
returns-in-Err c = λ same. word_malformed c.args.bytes.now c.in-Err.ensures
