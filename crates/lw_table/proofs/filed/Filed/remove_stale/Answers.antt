use Rattle.std.proofs.Common.{◌≡◌, Option, Some, None, List, ℕ, refl, ◌∙◌}
use Rattle.lw_due.specs.Due.{Entry, due_of}
use Rattle.lw_reg.specs.declared.slot.Slot.{Slot}
use Rattle.lw_table.specs.Due.{OptionHasDue}
use Rattle.lw_table.proofs.filed.Filed.remove_stale.Goals as goal

due_stays : (old new : List Entry) (e : List ℕ) (slot : Option Slot) → due_of e new ≡ due_of e old → OptionHasDue old e slot → OptionHasDue new e slot
due_stays old new e None same h = h
due_stays old new e (Some slot) same h = record { at = h.at; is = same ∙ h.is; by = h.by }

pub returns : goal.returns
returns c = record {
  others = record { due = c.keep_no_more.ensures.others; keys = c.remove_lacking.ensures.others };
  settled = record {
    kept = c.keep_no_more.ensures.kept;
    keys = c.remove_lacking.ensures.keys;
    due = due_stays c.args.self.now.due c.keep_no_more.new.due c.args.endpoint.now _ c.keep_no_more.ensures.due c.requires.due;
  };
  numbers = refl;
}
