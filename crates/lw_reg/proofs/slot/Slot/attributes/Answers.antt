use Rattle.std.proofs.Common.{◌∙◌}
use Rattle.lw_reg.proofs.NothingLemmas.{attributes_of_known, attributes_of_nothing}
use Rattle.lw_reg.proofs.slot.Slot.attributes.Goals as goal

pub returns-in-None-clause-attributes : goal.returns-in-None-clause-attributes
returns-in-None-clause-attributes c = attributes_of_nothing c.args.self.now.registration.value c.in-None.ensures.known

pub returns-in-Some-clause-attributes : goal.returns-in-Some-clause-attributes
returns-in-Some-clause-attributes c =
    c.entries.ensures.entries ∙ attributes_of_known c.args.self.now.registration.value c.in-Some.body.now c.in-Some.ensures.known
