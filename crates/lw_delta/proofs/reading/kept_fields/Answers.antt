use Rattle.std.proofs.Common.{ap, Some}
use Rattle.lw_reg.specs.declared.fields.Fields.{Fields}
use Rattle.lw_delta.proofs.reading.kept_fields.Goals as goal

pub returns-clause-value : goal.returns-clause-value
returns-clause-value c = λ more h.
    rw c.if-lent.false (ap (λ (f : Fields). Some f) (c.in_ok-fields.ensures more h.told.ended (c.in_ok-maps.ensures.value more h.told)))
