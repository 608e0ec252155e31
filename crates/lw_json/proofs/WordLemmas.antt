-- What is kept while more is written.
use Rattle.std.proofs.Common.{◌≡◌, ◌≤◌, ℕ, List, length, take, ap, arith}
use Rattle.std.proofs.lemmas.Grind.{common_steps}
use Rattle.std.proofs.lemmas.List.{length-take, take-take}

-- what stands first stays so
pub kept_then : (a b c : List ℕ) → take (length a) b ≡ a → take (length b) c ≡ b → take (length a) c ≡ a
kept_then a b c p q =
    let within : length a ≤ length b = omega (arith, ap length p, length-take (length a) b) in
    grind (arith, common_steps, take-take)
