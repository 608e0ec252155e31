use Rattle.std.proofs.Common.{arith}
use Rattle.lw_resp.proofs.BulkLemmas.{short_content, content_malformed}
use Rattle.lw_resp.proofs.bulks.content.Goals as goal

pub returns-then-bytes-length : goal.returns-then-bytes-length
returns-then-bytes-length c = short_content c.args.length c.args.bytes.now c.if-bytes-length.true

pub returns-in-Err : goal.returns-in-Err
returns-in-Err c =
    content_malformed c.args.length c.args.bytes.now c.split_at.result.0.now c.split_at.result.1.now (omega (arith, c.split_at.ensures.front_len)) c.split_at.ensures.front c.split_at.ensures.back c.in-Err.ensures
