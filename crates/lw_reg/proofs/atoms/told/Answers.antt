use Rattle.std.proofs.Common.{◌∙◌, sym, subst, rules}
use Rattle.lw_reg.specs.declared.fields.Fields.{Fields}
use Rattle.lw_reg.proofs.WriteLemmas.{AreWrites, no_writes_are}
use Rattle.lw_reg.proofs.atoms.told.Goals.{in-Register+in_ok-fields-in-Register, in-Update+in_ok-fields-in-Update, in-Observe+in_ok-fields-in-Observe, in-Cancel+in_ok-fields-in-Cancel, in-Expire}
use Rattle.lw_reg.proofs.atoms.told.Goals as goal

pub returns-in-Remove-clause-removed : goal.returns-in-Remove-clause-removed
returns-in-Remove-clause-removed c = search rules

pub returns-clause-told : goal.returns-clause-told
returns-clause-told c = search rules

abbrev AreFields : Fields → Type 0
AreFields f = AreWrites f.attributes

pub returns-clause-keeps : goal.returns-clause-keeps
returns-clause-keeps c = elim c.match-what.branch [
  | in-Register+in_ok-fields-in-Register w ↦ subst AreFields (sym w.fields-is) w.in_ok-fields-in-Register.ensures.keeps
  | in-Update+in_ok-fields-in-Update w ↦ subst AreFields (sym w.fields-is) w.in_ok-fields-in-Update.ensures.keeps
  | in-Observe+in_ok-fields-in-Observe w ↦ subst AreFields (sym (w.fields-is ∙ w.in_ok-fields-in-Observe.ensures)) no_writes_are
  | in-Cancel+in_ok-fields-in-Cancel w ↦ subst AreFields (sym (w.fields-is ∙ w.in_ok-fields-in-Cancel.ensures)) no_writes_are
  | in-Expire w ↦ subst AreFields (sym (w.fields-is ∙ w.ended-fields.ensures)) no_writes_are
]
