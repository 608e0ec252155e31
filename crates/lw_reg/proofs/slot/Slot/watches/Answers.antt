use Rattle.std.proofs.Common.{◌∙◌}
use Rattle.lw_reg.proofs.NothingLemmas.{watches_of_known, watches_of_nothing}
use Rattle.lw_reg.proofs.slot.Slot.watches.Goals as goal

pub returns-in-None-clause-watches : goal.returns-in-None-clause-watches
returns-in-None-clause-watches c = watches_of_nothing c.args.self.now.registration.value c.in-None.ensures.known

pub returns-in-Some-clause-watches : goal.returns-in-Some-clause-watches
returns-in-Some-clause-watches c =
    c.entries.ensures.entries ∙ watches_of_known c.args.self.now.registration.value c.in-Some.body.now c.in-Some.ensures.known
