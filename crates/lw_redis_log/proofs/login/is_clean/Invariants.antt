use Rattle.std.proofs.Common.{◌≡◌, false, take}
use Rattle.std.specs.Prelude.{All}
use Rattle.lw_redis_log.specs.Logins.{is_control}
use Rattle.lw_redis_log.proofs.login.is_clean.Given as goal

abbrev pub invariant-loop-byte : goal.invariant-loop-byte
invariant-loop-byte l = All (λ byte. is_control byte ≡ false) (take l.byte-index l.part)
