use Rattle.std.proofs.Common.{sym, subst}
use Rattle.lw_recent.specs.Recent.{IsUnder}
use Rattle.lw_recent.proofs.recent.Recent.drop_one.Goals as goal

pub returns-then-take_out : goal.returns-then-take_out
returns-then-take_out c = λ n e.
    let drops = c.take_out.ensures.drops n e in
    (λ h. let left = drops.0 h in (subst (λ l. IsUnder l n e) c.self.view_is left.0, left.1), λ h. drops.1 (subst (λ l. IsUnder l n e) (sym c.self.view_is) h.0, h.1))

pub returns-else-take_out : goal.returns-else-take_out
returns-else-take_out c = λ n e.
    let drops = c.take_out.ensures.drops n e in
    (λ h. let left = drops.0 h in (subst (λ l. IsUnder l n e) c.self.view_is left.0, left.1), λ h. drops.1 (subst (λ l. IsUnder l n e) (sym c.self.view_is) h.0, h.1))
