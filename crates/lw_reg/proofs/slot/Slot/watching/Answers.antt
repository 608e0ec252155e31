use Rattle.std.proofs.Common.{◌∙◌, ap}
use Rattle.lw_join.specs.Entries.{get}
use Rattle.lw_reg.specs.Orders.{path_cmp}
use Rattle.lw_reg.proofs.NothingLemmas.{watches_of_known, watches_of_nothing}
use Rattle.lw_reg.proofs.slot.Slot.watching.Goals as goal

pub returns-in-None : goal.returns-in-None
returns-in-None c = ap (λ es. get path_cmp es c.args.path.now) (watches_of_nothing c.args.self.now.registration.value c.in-None.ensures.known)

pub returns-in-Some : goal.returns-in-Some
returns-in-Some c =
    c.get.ensures ∙ ap (λ es. get path_cmp es c.args.path.now) (watches_of_known c.args.self.now.registration.value c.in-Some.body.now c.in-Some.ensures.known)
