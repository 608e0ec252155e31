-- Texts that begin with others.
use Rattle.std.proofs.Common.{◌≡◌, ◌↔◌, ℕ, Bool, true, false, nat_eq, IsTrue, List, ◌++◌, length, drop, refl}
use Rattle.std.specs.List.{starts_with}
use Rattle.std.proofs.lemmas.Bool.Decides.{Decides-eqb}
use Rattle.std.proofs.lemmas.Slice.Eq.{starts_is}

pub begins_with : (start text : List ℕ) (r : Bool) → r ≡ starts_with nat_eq text start
    → IsTrue r ↔ ((after : List ℕ) × (text ≡ start ++ after))
begins_with start text true e = (λ _. (drop (length start) text, (starts_is Decides-eqb text start true e).0 refl), λ _. refl)
begins_with start text false e = (λ no. absurd cc, λ h. (starts_is Decides-eqb text start false e).1 h.0 h.1)
