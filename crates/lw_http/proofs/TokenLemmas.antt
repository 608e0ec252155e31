-- The one value under a name.
use Rattle.std.proofs.Common.{◌≡◌, ◌↔◌, ℕ, List, Bool, false, IsTrue, true≢false, sym, subst}
use Rattle.std.specs.Prelude.{Some, None, IsSomeAnd}
use Rattle.http_header.specs.FieldValue.{FieldValue}
use Rattle.lw_http.specs.AccessPolicy.{only_of, Presents}

pub brought : (values : List FieldValue) (value : FieldValue) (token : List ℕ) (answer : Bool) → Some value ≡ only_of values
    → (IsTrue answer ↔ Presents token value.bytes) → IsTrue answer ↔ IsSomeAnd (only_of values) (λ v. Presents token v.bytes)
brought values value token answer e presents =
    subst (λ found. IsTrue answer ↔ IsSomeAnd found (λ v. Presents token v.bytes)) e presents

pub not_brought : (values : List FieldValue) (token : List ℕ) → None ≡ only_of values
    → IsTrue false ↔ IsSomeAnd (only_of values) (λ v. Presents token v.bytes)
not_brought values token e =
    subst (λ found. IsTrue false ↔ IsSomeAnd found (λ v. Presents token v.bytes)) e (λ f. absurd (true≢false (sym f)), λ f. absurd f)
