use Rattle.std.proofs.Common.{◌≡◌, drop}
use Rattle.std.specs.List.{slice_get}
use Rattle.lw_reg.specs.Reading.{tokens_in, watches_of}
use Rattle.lw_reg.proofs.slot.Slot.token_at.Given as goal

abbrev pub invariant-loop-entry : goal.invariant-loop-entry
invariant-loop-entry l = slice_get (tokens_in (drop l.entry-index l.entry-items)) l.left ≡ slice_get (tokens_in (watches_of l.self)) l.place
