use Rattle.std.proofs.Common.{◌≡◌, ℕ, false, refl, sym, ◌∙◌, subst, take_all}
use Rattle.std.specs.Prelude.{All}
use Rattle.std.proofs.lemmas.List.Elements.{All-more}
use Rattle.lw_redis_log.specs.Logins.{is_control}
use Rattle.lw_redis_log.proofs.login.is_clean.Goals as goal

pub loop-byte-preserved : goal.loop-byte-preserved
loop-byte-preserved c =
    All-more (λ byte. is_control byte ≡ false) c.args.part.now c.loop-byte.byte-index _ c.loop-byte-test.true c.loop-byte.invariant
    (sym c.is_control.ensures ∙ c.if-is_control.false)

pub returns : goal.returns
returns c = (
  (λ _. subst (All (λ (byte : ℕ). is_control byte ≡ false)) (take_all c.loop-byte.byte-index c.args.part.now c.loop-byte-test.false) c.loop-byte.invariant),
  (λ _. refl),
)
