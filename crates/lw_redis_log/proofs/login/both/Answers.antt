use Rattle.std.proofs.Common.{◌≡◌, true, false, sym, ◌∙◌}
use Rattle.lw_redis_log.specs.Logins.{IsPart}
use Rattle.lw_redis_log.proofs.LoginLemmas.{login_found, login_none}
use Rattle.lw_redis_log.proofs.login.both.Goals as goal
use Rattle.lw_redis_log.proofs.login.both.Goals.{else-is_part-via-then-is_part+else-is_part-2, else-is_part-via-else-is_part}

pub returns-then-is_part-2-clause-found : goal.returns-then-is_part-2-clause-found
returns-then-is_part-2-clause-found c = λ bytes first.
    login_found bytes c.args.line.now c.args.behind.now c.without_return-user.result.now c.last_line-password.result.now first
    c.without_return-user.ensures c.last_line-password.ensures
    (c.is_part.ensures.0 c.if-is_part.true) (c.is_part-then-is_part.ensures.0 c.if-is_part-2.true)

pub returns-clause-none : goal.returns-clause-none
returns-clause-none c = λ bytes u w first login.
    login_none bytes c.args.line.now c.args.behind.now c.without_return-user.result.now c.last_line-password.result.now first
    c.without_return-user.ensures c.last_line-password.ensures
    (λ is_user is_password.
    elim c.else-is_part.branch [
      | else-is_part-via-then-is_part+else-is_part-2 t ↦
          let clash : true ≡ false = sym (t.is_part-then-is_part.ensures.1 is_password) ∙ t.if-is_part-2.false in absurd cc
      | else-is_part-via-else-is_part t ↦ let clash : true ≡ false = sym (c.is_part.ensures.1 is_user) ∙ t.if-is_part.false in absurd cc
    ])
    u w login
