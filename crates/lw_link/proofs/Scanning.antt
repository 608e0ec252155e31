-- What is left of a text behind its next character.
use Rattle.std.proofs.Common.{◌≡◌, ℕ, List, [], ◌∷◌, MatchOption, chars, IsUtf8, Option, Some, None, ap, subst, sym, ◌∙◌}
use Rattle.std.specs.Str.Iter.{chars_rest, chars_steps}
use Rattle.std.specs.declared.str.Chars.{Chars}
use Rattle.std.proofs.lemmas.List.{nil_from_length}
use Rattle.std.proofs.lemmas.Str.{chars-nil, chars_past_char, IsUtf8-past_char}

pub taken : (s t : Chars) (r : Option ℕ) (left : List ℕ) → IsUtf8 (chars_rest s) → chars_steps s r t → left ≡ chars (chars_rest s)
    → MatchOption r ((left ≡ []) × (chars (chars_rest t) ≡ [])) (λ c. left ≡ c ∷ chars (chars_rest t))
taken s t None left u h e =
    let none : chars (chars_rest s) ≡ [] = ap chars (nil_from_length (chars_rest s) h.0.0) ∙ chars-nil in
    (e ∙ none, ap (λ (x : Chars). chars (chars_rest x)) h.0.1 ∙ none)
taken s t (Some c) left u h e = e ∙ chars_past_char (chars_rest s) (chars_rest t) c u h.0

pub text_kept : (s t : Chars) (r : Option ℕ) → IsUtf8 (chars_rest s) → chars_steps s r t → IsUtf8 (chars_rest t)
text_kept s t None u h = subst (λ (x : Chars). IsUtf8 (chars_rest x)) (sym h.0.1) u
text_kept s t (Some c) u h = IsUtf8-past_char (chars_rest s) (chars_rest t) c u h.0

pub seen : (s t : Chars) (r : Option ℕ) (left : List ℕ) → IsUtf8 (chars_rest s) → chars_steps s r t → left ≡ chars (chars_rest s)
    → MatchOption r (left ≡ []) (λ c. (rest : List ℕ) × (left ≡ c ∷ rest))
seen s t None left u h e = (taken s t None left u h e).0
seen s t (Some c) left u h e = (chars (chars_rest t), taken s t (Some c) left u h e)

tell : {c : ℕ} {rest : List ℕ} → c ∷ rest ≡ [] → ⊥
tell e = cc

-- what was seen is what is taken
pub take_seen : (old new rest : List ℕ) (c : ℕ) (r : Option ℕ) → old ≡ c ∷ rest → MatchOption r ((old ≡ []) × (new ≡ [])) (λ d. old ≡ d ∷ new) → old ≡ c ∷ new
take_seen old new rest c None e h = absurd (tell (sym e ∙ h.0))
take_seen old new rest c (Some d) e h = cc
