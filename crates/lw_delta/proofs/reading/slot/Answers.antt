use Rattle.std.proofs.Common.{Option, sym, subst}
use Rattle.lw_reg.specs.declared.fields.Fields.{Fields}
use Rattle.lw_reg.specs.Fields.{told_fields}
use Rattle.lw_reg.specs.BodyOrGone.{KeepsAttributes}
use Rattle.lw_delta.proofs.Typed.{keeps_attributes}
use Rattle.lw_delta.proofs.reading.slot.Goals as goal

pub from_parts-requires : goal.from_parts-requires
from_parts-requires c =
    let same = c.in_ok-fields.ensures.value c.requires.0 c.requires.1 in
    subst (λ (o : Option Fields). KeepsAttributes (told_fields o)) (sym same) (keeps_attributes c.args.form c.args.clock c.args.lent c.requires.0 c.requires.1)
