use Rattle.std.proofs.Common.{◌≡◌, ℕ, ◌<◌, IsTrue}
use Rattle.std.specs.Prelude.{slice_index}
use Rattle.lw_http.proofs.policy.is_same.Given as goal

-- so far no byte differs, exactly where it is said
abbrev pub invariant-loop-place : goal.invariant-loop-place
invariant-loop-place l = (IsTrue l.same → (k : ℕ) → k < l.place → slice_index l.one k ≡ slice_index l.other k)
    × (l.one ≡ l.other → IsTrue l.same)
