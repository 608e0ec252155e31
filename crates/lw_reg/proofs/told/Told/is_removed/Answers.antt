use Rattle.std.proofs.Common.{◌≡◌, refl, sym, ap, ◌∙◌}
use Rattle.lw_join.specs.declared.or_gone.OrGone.TheVariants.{Gone}
use Rattle.lw_reg.specs.declared.told.Kept.{Kept}
use Rattle.lw_reg.specs.declared.told.Kept.TheVariants.{Nothing, Known, Removed}
use Rattle.lw_reg.specs.inner.Repr.{told_in}
use Rattle.lw_reg.proofs.told.Told.is_removed.Goals as goal

removed : (kept : Kept) → told_in kept ≡ Gone → kept ≡ Removed
removed Nothing e = cc
removed (Known box) e = cc
removed Removed e = refl

pub returns-in-Removed : goal.returns-in-Removed
returns-in-Removed c = (λ h. sym c.self.view_is ∙ ap told_in c.in-Removed.is, λ h. refl)

pub returns-in_default : goal.returns-in_default
returns-in_default c = (λ h. cc, λ gone. absurd (c.in_default.not-Removed (removed _ (c.self.view_is ∙ gone))))
