use Rattle.std.proofs.Common.{◌≡◌, ℕ, ◌+◌, ◌<◌, get_or}
use Rattle.std.specs.Char.{IsAsciiHexdigit}
use Rattle.percent_encoding.specs.Percent.{percent_sign}
use Rattle.lw_route.proofs.decoding.is_percent_encoded.Given as goal

abbrev pub invariant-loop-place : goal.invariant-loop-place
invariant-loop-place l = (i : ℕ) → i < l.place → get_or l.text i 0 ≡ percent_sign
    → IsAsciiHexdigit (get_or l.text (i + 1) 0) × IsAsciiHexdigit (get_or l.text (i + 2) 0)
