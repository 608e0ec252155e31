use Rattle.std.proofs.Common.{sym, true≢false}
use Rattle.lw_http.proofs.policy.is_ipv4.Goals as goal

pub returns-in-Err : goal.returns-in-Err
returns-in-Err c = (λ f. absurd (true≢false (sym f)), λ x. absurd (c.in-Err.ensures x.0 x.1))
