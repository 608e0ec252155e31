use Rattle.std.proofs.Common.{◌≡◌, ℕ, ◌<◌}
use Rattle.std.specs.Prelude.{Some, slice_get}
use Rattle.lw_held.specs.Agree.{IsFirstBreak}
use Rattle.lw_held.specs.Transcript.{Transcript, IsNumbered}
use Rattle.lw_held.specs.inner.Looks.{AllFitBelow}
use Rattle.lw_held.proofs.agreeing.first_stray_of_all.Given as goal

abbrev pub invariant-loop-pass : goal.invariant-loop-pass
invariant-loop-pass l = record {
  least : IsFirstBreak (AllFitBelow l.node l.volumes l.held l.passes l.pass-index) l.least;
  numbered : (i : ℕ) (x : Transcript) → i < l.pass-index → slice_get l.passes i ≡ Some x → IsNumbered x;
}
