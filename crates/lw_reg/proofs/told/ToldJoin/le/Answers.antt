use Rattle.std.proofs.Common.{◌∙◌, refl, sym, ap, rules}
use Rattle.lw_join.specs.declared.or_gone.OrGone.TheVariants.{Here}
use Rattle.lw_reg.specs.inner.Repr.{told_in}
use Rattle.lw_reg.proofs.NothingLemmas.{nothing_below_told, told_below_nothing}
use Rattle.lw_reg.proofs.told.ToldJoin.le.Goals as goal

pub returns-in-Known-Nothing : goal.returns-in-Known-Nothing
returns-in-Known-Nothing c =
    told_below_nothing c.args.self.now c.args.other.now c.deref.result.now c.is_nothing.result
    (sym c.self.view_is ∙ ap told_in c.in-Known-Nothing.is-0 ∙ ap Here (sym c.deref.ensures))
    (sym c.other.view_is ∙ ap told_in c.in-Known-Nothing.is-1)
    c.is_nothing.ensures

pub returns-in-Nothing-default-2 : goal.returns-in-Nothing-default-2
returns-in-Nothing-default-2 c = (λ h. nothing_below_told c.args.self.now c.args.other.now (sym c.self.view_is ∙ ap told_in c.in-Nothing-default.is-0), λ h. refl)

pub returns-in-Removed-default : goal.returns-in-Removed-default
returns-in-Removed-default c = search rules

pub returns-in-Removed-default-2 : goal.returns-in-Removed-default-2
returns-in-Removed-default-2 c = search rules

pub returns-in-Nothing-default : goal.returns-in-Nothing-default
returns-in-Nothing-default c = (λ h. nothing_below_told c.args.self.now c.args.other.now (sym c.self.view_is ∙ ap told_in c.in-Nothing-default.is-0), λ h. refl)
