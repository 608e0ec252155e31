use Rattle.std.proofs.Common.{refl}
use Rattle.lw_resp.specs.Replies.{IsReplyOf}
use Rattle.lw_resp.specs.Replies.ReplyContent.{Single}
use Rattle.lw_resp.specs.Words.{word_content}
use Rattle.lw_resp.proofs.ReplyLemmas.{array_reply, single_found}
use Rattle.lw_resp.proofs.replies.reply_from.Goals as goal

pub returns-in-Array : goal.returns-in-Array
returns-in-Array c =
    array_reply c.args.word c.in-Array.number c.args.behind.now (λ x reply. IsReplyOf x.0 reply) (λ x. x.1.now) c.in-Array.is c.requires c.entries_reply.result c.entries_reply.ensures

pub returns-in_default : goal.returns-in_default
returns-in_default c = (Single (word_content c.args.word), refl, single_found c.args.word c.args.behind.now c.requires c.in_default.not-Array)
