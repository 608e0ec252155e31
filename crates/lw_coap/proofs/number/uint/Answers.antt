use Rattle.std.proofs.Common.{ℕ, ◌≡◌, ◌≤◌, ◌<◌, ◌+◌, ◌*◌, List, [], ◌∷◌, length, get_or, arith, rules}
use Rattle.lw_coap.specs.Number.{number_of}
use Rattle.lw_coap.proofs.number.uint.Goals as goal

two_bytes : (bytes : List ℕ) (n : ℕ) → 2 ≤ length bytes → length bytes < 3 → n ≡ 256 * get_or bytes 0 0 + get_or bytes 1 0 → n ≡ number_of bytes
two_bytes [] n h k e = absurd (omega arith)
two_bytes (a ∷ []) n h k e = absurd (omega arith)
two_bytes (a ∷ b ∷ []) n h k e = omega (arith, e)
two_bytes (a ∷ b ∷ c ∷ more) n h k e = absurd (omega arith)

pub returns-in-empty-clause-none : goal.returns-in-empty-clause-none
returns-in-empty-clause-none c = search rules

pub returns-in-len2-clause-value : goal.returns-in-len2-clause-value
returns-in-len2-clause-value c =
    two_bytes c.args.bytes.now _ c.in-len2.len_at_least c.in-len2.len_below (omega (arith, c.from_be_bytes-in-len2.ensures))
