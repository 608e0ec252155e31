-- The next slot takes a byte at least.
use Rattle.std.proofs.Common.{ℕ, ◌<◌, List, length, Option, Some, None}
use Rattle.lw_delta.specs.declared.form.Form.{Form}
use Rattle.lw_delta.specs.declared.slots.LentSlot.{LentSlot}
use Rattle.lw_delta.specs.inner.Lent.{NextAt, lent_slot}
use Rattle.lw_delta.proofs.Decided.{optional_takes}
use Rattle.lw_delta.proofs.Grammar.{slot_decided}

pub next_takes : (form : Form) (clock : ℕ) (after : Option (List ℕ)) (bytes : List ℕ) (o : Option LentSlot) (rest : List ℕ) → NextAt form clock after bytes o rest → length rest < length bytes
next_takes form clock after bytes None rest h = optional_takes (slot_decided form clock after) bytes None rest h
next_takes form clock after bytes (Some lent) rest h = optional_takes (slot_decided form clock after) bytes (Some (lent_slot lent h.more)) rest h.found
