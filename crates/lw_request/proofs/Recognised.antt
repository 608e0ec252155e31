-- What is known of the queries of a request whose options are recognised.
use Rattle.std.proofs.Common.{◌≡◌, ℕ, ◌≤◌, true, false, eqb, leb, List, [], ◌∷◌, length, refl, sym, subst, inl, inr, arith}
use Rattle.std.specs.List.{list_any, AllByRecursion}
use Rattle.std.proofs.lemmas.Bool.{both_ways, or_parts, cases_Bool, cases_eq, leb-true, le-leb, eq-eqb, ne_eqb, cond-true, cond-false}
use Rattle.lw_coap.specs.Message.{OptionContent}
use Rattle.lw_request.specs.Options.{values_of, is_unrecognised, has_unrecognised}

-- a query is no longer than it may be
abbrev pub IsShortQuery : List ℕ → Type 0
IsShortQuery query = length query ≤ 255

too_long : (value : List ℕ) → leb (length value) 255 ≡ false → is_unrecognised (record { number = 15; value = value }) ≡ true
too_long value e = rw (e, le-leb 0 (length value) (omega arith)) refl

query_short : (option : OptionContent) → option.number ≡ 15 → is_unrecognised option ≡ false → IsShortQuery option.value
query_short option e h =
    elim (cases_Bool (leb (length option.value) 255)) [
      | inl fits ↦ leb-true (length option.value) 255 fits
      | inr over ↦ absurd (both_ways (is_unrecognised option) h (subst (λ (n : ℕ). is_unrecognised (record { number = n; value = option.value }) ≡ true) (sym e) (too_long option.value over)))
    ]

queries_short : (options : List OptionContent) → list_any is_unrecognised options ≡ false → AllByRecursion IsShortQuery (values_of 15 options)
queries_short [] h = tt
queries_short (option ∷ options) h =
    let parts = or_parts (is_unrecognised option) (list_any is_unrecognised options) h in
    let rest = queries_short options parts.1 in
    elim (cases_eq option.number 15) [
      | inl e ↦ subst (AllByRecursion IsShortQuery) (sym (cond-true (eqb option.number 15) (option.value ∷ values_of 15 options) (values_of 15 options) (eq-eqb option.number 15 e))) (query_short option e parts.0, rest)
      | inr other ↦ subst (AllByRecursion IsShortQuery) (sym (cond-false (eqb option.number 15) (option.value ∷ values_of 15 options) (values_of 15 options) (ne_eqb option.number 15 other))) rest
    ]

-- a query of a request whose options are recognised is no longer than it may be
pub recognised_short : (options : List OptionContent) → (has_unrecognised options ≡ true → ⊥) → AllByRecursion IsShortQuery (values_of 15 options)
recognised_short options h =
    elim (cases_Bool (list_any is_unrecognised options)) [
      | inl some ↦ absurd (h (rw some refl))
      | inr none ↦ queries_short options none
    ]
