use Rattle.std.proofs.Common.{◌∙◌, sym, refl}
use Rattle.lw_delta.proofs.Flags.{told_here, told_gone}
use Rattle.lw_delta.proofs.Parts.{refuted}
use Rattle.lw_delta.proofs.writing.flags_byte.Goals as goal

pub returns-then-is_removed : goal.returns-then-is_removed
returns-then-is_removed c = sym (told_gone c.args.slot.now (c.if-is_removed.ensures.0 refl))

pub returns : goal.returns
returns c = c.field_flags.ensures ∙ sym (told_here c.args.slot.now (refuted c.if-is_removed.ensures))
