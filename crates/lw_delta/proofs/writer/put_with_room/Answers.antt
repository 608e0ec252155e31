use Rattle.std.proofs.Common.{[], ◌∙◌, sym, subst}
use Rattle.std.proofs.lemmas.List.{append-nil}
use Rattle.lw_delta.specs.Writing.{Begins}
use Rattle.lw_delta.proofs.writer.put_with_room.Goals as goal

pub returns-in_err-reserve-clause-kept : goal.returns-in_err-reserve-clause-kept
returns-in_err-reserve-clause-kept c = record { more = []; is = c.reserve.ensures.items ∙ sym (append-nil c.args.out.now.items) }

pub returns-clause-kept : goal.returns-clause-kept
returns-clause-kept c = subst (λ was. Begins was c.put_slot.new.out.items) c.reserve.ensures.items c.put_slot.ensures.kept
