use Rattle.std.proofs.Common.{◌≡◌, ◌↔◌, Bool, true, false, IsTrue, refl}
use Rattle.lw_join.specs.Flag.{bool_below}
use Rattle.lw_join.proofs.flag.FlagJoin.le.Goals as goal

above : (a b : Bool) → a ≡ true → IsTrue b ↔ bool_below a b
above true true h = (λ _. tt, λ _. refl)
above true false h = (λ e. absurd cc, λ e. absurd e)
above false b h = absurd cc

pub returns-else-not-self : goal.returns-else-not-self
returns-else-not-self c = above _ _ c.if-not-self.false
