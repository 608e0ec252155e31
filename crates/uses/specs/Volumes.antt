-- What is in a volume that was cut off after a call.
use Rattle.std.specs.Prelude.{◌≡◌, ◌⊎◌, ℕ, ◌+◌, List, [], ◌∷◌, ◌++◌, length}
use Rattle.lw_call.specs.declared.call.Call.{Call}
use Rattle.lw_held.specs.declared.entry.Entry.{Entry}
use Rattle.lw_node.specs.Steps.{IsStep}
use Rattle.lw_held.specs.History.{HeldContent, VolumeContent, Enters}
use Rattle.lw_held.specs.Transcript.{Transcript, with_part}

-- The call with its answer is the last of the entries, and the pass has it as well. The volume has what the journal had
-- before, and ends with the node that answered. The journal is empty, and its places go on.
pub record IsCallIn (old : HeldContent) (before : Transcript) (node : ℕ) (call : Call) (volume : VolumeContent) (new : HeldContent) (after : Transcript) : Type 0 where
  pub entry : Entry
  pub call_is : entry.call ≡ call
  pub step : IsStep old.node call entry.reply volume.closing
  pub first : volume.first ≡ old.first
  pub opening : volume.opening ≡ old.opening
  pub entries : volume.entries ≡ old.journal ++ entry ∷ []
  pub kept : after ≡ with_part before node (old.first + length old.journal) entry
  pub left : new ≡ record { node = volume.closing; opening = volume.closing; first = old.first + length old.journal + 1; journal = [] }

-- Nothing has changed, or the call was made, and the journal not cut.
abbrev pub IsUncut : HeldContent → Transcript → ℕ → Call → HeldContent → Transcript → Type 0
IsUncut old before node call new after =
    ((new ≡ old) × (after ≡ before))
    ⊎ ((place : ℕ) × (entry : Entry) × Enters old before.number (length before.parts) call entry place new × (after ≡ with_part before node place entry))
