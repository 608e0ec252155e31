use Rattle.lw_resp.specs.Replies.{IsReply, IsReplyOf, reply_bytes}
use Rattle.lw_resp.proofs.ReplyLemmas.{memory_cut, memory_found, memory_malformed, memory_none, memory_not_whole, memory_only, one_reply}
use Rattle.lw_resp.proofs.replies.first_reply.Goals as goal

pub returns-clause-found : goal.returns-clause-found
returns-clause-found c = memory_found IsReply reply_bytes c.args.bytes.now (λ x reply. IsReplyOf x.0 reply) (λ x. x.1.now) c.read_reply.result c.read_reply.ensures

pub returns-clause-only : goal.returns-clause-only
returns-clause-only c = memory_only IsReply reply_bytes c.args.bytes.now (λ x reply. IsReplyOf x.0 reply) (λ x. x.1.now) one_reply c.read_reply.result c.read_reply.ensures

pub returns-clause-not_whole : goal.returns-clause-not_whole
returns-clause-not_whole c = memory_not_whole IsReply reply_bytes c.args.bytes.now (λ x reply. IsReplyOf x.0 reply) (λ x. x.1.now) c.read_reply.result c.read_reply.ensures

pub returns-clause-cut : goal.returns-clause-cut
returns-clause-cut c = memory_cut IsReply reply_bytes c.args.bytes.now (λ x reply. IsReplyOf x.0 reply) (λ x. x.1.now) one_reply c.read_reply.result c.read_reply.ensures

pub returns-clause-no_reply : goal.returns-clause-no_reply
returns-clause-no_reply c = memory_none IsReply reply_bytes c.args.bytes.now (λ x reply. IsReplyOf x.0 reply) (λ x. x.1.now) c.read_reply.result c.read_reply.ensures

pub returns-clause-malformed : goal.returns-clause-malformed
returns-clause-malformed c = memory_malformed IsReply reply_bytes c.args.bytes.now (λ x reply. IsReplyOf x.0 reply) (λ x. x.1.now) c.read_reply.result c.read_reply.ensures
