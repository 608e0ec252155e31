-- Bytes that are known before.
use Rattle.std.proofs.Common.{◌≡◌, ◌≢◌, ℕ, ◌+◌, ◌<◌, Bool, true, false, nat_eq, List, [], ◌∷◌, ◌++◌, length, take, drop, Option, Some, None, Bor, refl, sym, ap, ◌∙◌, subst, inl, inr, arith}
use Rattle.std.specs.Cmp.Lexicographic.{pointwise}
use Rattle.std.specs.Option.{MatchOption}
use Rattle.std.proofs.lemmas.Bool.Decides.{Decides-eqb}
use Rattle.std.proofs.lemmas.List.{append_assoc, append-nil, length-append}
use Rattle.std.proofs.lemmas.Slice.Eq.{strip_prefix_is, starts_is}
use Rattle.lw_resp.specs.Reading.{Begins, IsCut, IsMalformed}
use Rattle.lw_resp.specs.inner.Parts.{AreThese, as_they_are}
use Rattle.lw_resp.proofs.Splits.{either_front}

abbrev pub Stripped : List ℕ → List ℕ → Option (Bor (List ℕ)) → Type 0
Stripped literal bytes r = MatchOption r (pointwise nat_eq (take (length literal) bytes) literal ≡ false)
    (λ x. (pointwise nat_eq (take (length literal) bytes) literal ≡ true) × (x.now ≡ drop (length literal) bytes) × (length x.now + length literal ≡ length bytes))

pub literal_found : (literal bytes : List ℕ) (x : Bor (List ℕ)) → Stripped literal bytes (Some x) → Begins (AreThese literal) as_they_are bytes literal x.now
literal_found literal bytes x h = record { valid = refl; written = strip_prefix_is Decides-eqb bytes literal (Some x) h }

absent : (literal bytes : List ℕ) → Stripped literal bytes None → (rest : List ℕ) → bytes ≢ literal ++ rest
absent literal bytes h = strip_prefix_is Decides-eqb bytes literal None h

some_more : (literal bytes more : List ℕ) → ((rest : List ℕ) → bytes ≢ literal ++ rest) → literal ≡ bytes ++ more → 0 < length more
some_more literal bytes [] h e = absurd (h [] (sym (append-nil bytes) ∙ sym e ∙ sym (append-nil literal)))
some_more literal bytes (x ∷ more) h e = omega arith

pub literal_cut : (literal bytes : List ℕ) → Stripped literal bytes None → true ≡ pointwise nat_eq bytes (take (length bytes) literal) → IsCut (AreThese literal) as_they_are bytes
literal_cut literal bytes h starts =
    let written : literal ≡ bytes ++ drop (length bytes) literal = (starts_is Decides-eqb literal bytes true starts).0 refl in
    record {
      value = literal;
      valid = refl;
      more = drop (length bytes) literal;
      some = some_more literal bytes (drop (length bytes) literal) (absent literal bytes h) written;
      written = written;
    }

no_literal : (literal bytes more rest : List ℕ) → ((rest : List ℕ) → bytes ≢ literal ++ rest) → ((rest : List ℕ) → literal ≡ bytes ++ rest → false ≡ true)
    → bytes ++ more ≡ literal ++ rest → ⊥
no_literal literal bytes more rest absent starts e =
    elim (either_front bytes more literal rest e) [
      | inl l ↦ absent l.0 l.1
      | inr r ↦ let no : false ≡ true = starts r.0 r.1 in absurd cc
    ]

pub literal_malformed : (literal bytes : List ℕ) → Stripped literal bytes None → false ≡ pointwise nat_eq bytes (take (length bytes) literal)
    → IsMalformed (AreThese literal) as_they_are bytes
literal_malformed literal bytes h starts value is more rest e =
    no_literal literal bytes more rest (absent literal bytes h) ((starts_is Decides-eqb literal bytes false starts).1)
    (e ∙ ap (λ (v : List ℕ). v ++ rest) is)
