use Rattle.std.proofs.Common.{◌≡◌, drop}
use Rattle.lw_messaging.specs.Kept.{same_options}
use Rattle.lw_messaging.proofs.body.same_options.Given as goal

abbrev pub invariant-loop-place : goal.invariant-loop-place
invariant-loop-place l = same_options l.left l.right ≡ same_options (drop l.place l.left) (drop l.place l.right)
