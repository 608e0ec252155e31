use Rattle.std.proofs.Common.{sym, ◌∙◌}
use Rattle.std.specs.Prelude.{◌==◌}
use Rattle.lw_redis_log.proofs.Places.{found, not_found}
use Rattle.lw_redis_log.proofs.errors.error_prefix.Goals as goal

pub returns-in-Some : goal.returns-in-Some
returns-in-Some c = found (λ byte. byte == 32) c.args.text.now c.in-Some.place (sym c.in-Some.ensures)

pub returns-in-None : goal.returns-in-None
returns-in-None c = not_found (λ byte. byte == 32) c.args.text.now (sym c.in-None.ensures)
