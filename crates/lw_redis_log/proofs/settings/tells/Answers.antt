use Rattle.std.proofs.Common.{refl, Bool, true, false, IsTrue, ◌≡◌}
use Rattle.lw_redis_log.proofs.Telling.{told, untold, one_more}
use Rattle.lw_redis_log.proofs.settings.tells.Goals as goal

pub loop-start-preserved : goal.loop-start-preserved
loop-start-preserved c =
    one_more c.args.part.now c.args.text.now c.loop-start.start c.loop-start.invariant
    (λ h. let no = c.begins_with.ensures.1 h in absurd (clash c.begins_with.result no c.if-begins_with.false))
  where
    clash : (b : Bool) → IsTrue b → b ≡ false → ⊥
    clash true t e = absurd cc
    clash false t e = absurd cc

pub returns-then-begins_with : goal.returns-then-begins_with
returns-then-begins_with c =
    (λ _. told c.args.part.now c.args.text.now c.loop-start.start (c.begins_with.ensures.0 c.if-begins_with.true), λ _. refl)

pub returns : goal.returns
returns c =
    (λ no. absurd cc, λ h. absurd (untold c.args.part.now c.args.text.now c.loop-start.start c.requires c.loop-start-test.false c.loop-start.invariant h))
