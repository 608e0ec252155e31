-- When a message fits, as its parts are counted.
use Rattle.std.proofs.Common.{◌≡◌, ◌≢◌, ℕ, ◌<◌, ◌≤◌, Bool, true, false, not, eqb, length, refl, ◌∙◌, arith}
use Rattle.std.specs.Prelude.{IsTrue}
use Rattle.std.proofs.lemmas.Bool.{eqb-true}
use Rattle.lw_coap.specs.Message.{MessageContent}
use Rattle.lw_coap.specs.Fits.{printed_length, AreRising, Fits}

pub fits_with : (m : MessageContent) (n : ℕ) → length m.token ≤ 8 → m.code < 256 → m.mid < 65536 → AreRising 0 m.options → printed_length m ≡ n → n ≤ 8192 → (m.code ≡ 0 → n ≡ 4) → Fits m
fits_with m n token code mid rising size within empty = record {
  token = token;
  code = code;
  mid = mid;
  options = rising;
  empty = λ (e : m.code ≡ 0). size ∙ empty e;
  within = omega (arith, size, within);
}

is_not : (b : Bool) → (b ≡ true → ⊥) → IsTrue (not b)
is_not true h = absurd (h refl)
is_not false h = refl

pub not_zero : (n : ℕ) → n ≢ 0 → IsTrue (not (eqb n 0))
not_zero n h = is_not (eqb n 0) (λ (e : eqb n 0 ≡ true). h (eqb-true n 0 e))
