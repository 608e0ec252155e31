use Rattle.lw_fleet.proofs.HttpLemmas.{not_guarded}
use Rattle.lw_fleet.proofs.http_options.http_at.Goals as goal

pub returns-then-not-is_guarded-clause-none : goal.returns-then-not-is_guarded-clause-none
returns-then-not-is_guarded-clause-none c =
    not_guarded _ c.args.address c.in_ok-token_file.token_file c.requires c.in_ok-token_file.ensures.given.0
    (λ guarded. let is = c.is_guarded.ensures.1 guarded in cc (is, c.if-not-is_guarded.true))
