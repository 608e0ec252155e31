-- The signs of a text, and the host and the port that it writes.
use Rattle.std.proofs.Common.{◌≡◌, ◌≢◌, ◌↔◌, ◌==◌, ℕ, ◌<◌, Bool, true, false, List, [], ◌∷◌, ◌++◌, Option, Some, None, length, take, drop, refl, sym, ap, ap₂, subst, ◌∙◌, inl, inr, arith}
use Rattle.std.proofs.Math.ListN.{get_or, length-append, take-append-drop}
use Rattle.std.proofs.Math.Seq.{get_or-append_seam}
use Rattle.std.proofs.lemmas.List.{append_cancel_right}
use Rattle.std.proofs.lemmas.Str.Pattern.{NoCharPasses-char, drop_at_char}
use Rattle.std.specs.Bool.{MatchBool}
use Rattle.std.specs.Prelude.{IfNone}
use Rattle.std.specs.Str.{NoCharPasses}
use Rattle.std.specs.Str.Iter.{HasSubslice}
use Rattle.std.specs.Str.Parse.{AllDigits, IsNumeral}
use Rattle.std.specs.Str.Pattern.{FindsChar, HasMatch, RFindsChar, SplitsAroundMatch}
use Rattle.lw_fleet.specs.CommandLine.{IsHost, IsHostAndPort, IsHostText}

abbrev tail_of : List ℕ → List ℕ
tail_of [] = []
tail_of (x ∷ xs) = xs

abbrev head_of : List ℕ → ℕ
head_of [] = 0
head_of (x ∷ xs) = x

-- ---- options that are there or not

pub if_none : {T : Type 0} (o : Option T) (P : Type 0) → P → IfNone o P
if_none None P h = h
if_none (Some x) P h = tt

pub if_none_then : {T : Type 0} (o : Option T) (P Q : Type 0) → IfNone o P → (P → Q) → IfNone o Q
if_none_then None P Q h f = f h
if_none_then (Some x) P Q h f = tt

-- ---- a sign in a text

lacks : (sign : ℕ) (text : List ℕ) → NoCharPasses (λ d. d == sign) text → sign < 128 → ¬ HasSubslice text (sign ∷ [])
lacks sign text none low (front, back, is) =
    NoCharPasses-char sign text (length front) none low (omega (arith, ap length is, length-append front (sign ∷ back)))
    (ap (λ t. get_or t (length front) 0) is ∙ get_or-append_seam front sign back 0)

-- takes the clause of `contains`
pub has_sign : (sign : ℕ) (text : List ℕ) (r : Bool) → MatchBool r (HasMatch (FindsChar sign) text) (FindsChar sign text None) → sign < 128
    → (r ≡ true) ↔ HasSubslice text (sign ∷ [])
has_sign sign text true h low =
    (λ _. (take h.0 text, drop h.1 text, sym (take-append-drop h.0 text) ∙ ap (λ l. take h.0 text ++ l) (drop_at_char sign text h.0 h.1 h.2.1 low)), λ _. refl)
has_sign sign text false none low = (λ is. cc, λ has. absurd (lacks sign text none low has))

-- the parts about the last of a sign are the only ones
last_parts : (sign : ℕ) (xs ys us vs : List ℕ) → xs ++ sign ∷ ys ≡ us ++ sign ∷ vs → ¬ HasSubslice ys (sign ∷ []) → ¬ HasSubslice vs (sign ∷ [])
    → (xs ≡ us) × (ys ≡ vs)
last_parts sign [] ys [] vs is no_ys no_vs = (refl, ap tail_of is)
last_parts sign [] ys (u ∷ us) vs is no_ys no_vs = absurd (no_ys (us, vs, ap tail_of is))
last_parts sign (x ∷ xs) ys [] vs is no_ys no_vs = absurd (no_vs (xs, ys, sym (ap tail_of is)))
last_parts sign (x ∷ xs) ys (u ∷ us) vs is no_ys no_vs =
    let rest = last_parts sign xs ys us vs (ap tail_of is) no_ys no_vs in
    (ap₂ (λ (h : ℕ) (t : List ℕ). h ∷ t) (ap head_of is) rest.0, rest.1)

-- ---- the host and the port

no_colon : (front back : List ℕ) → AllDigits 10 (front ++ 58 ∷ back) → ⊥
no_colon [] back (digit, _) = omega (arith, digit)
no_colon (x ∷ front) back (_, digits) = no_colon front back digits

numeral_lacks : (digits : List ℕ) → IsNumeral 10 digits → ¬ HasSubslice digits (58 ∷ [])
numeral_lacks digits numeral (front, back, is) = no_colon front back (subst (AllDigits 10) is numeral.1)

-- a text without a colon
pub no_parts : (text : List ℕ) → RFindsChar 58 text None → (host : List ℕ) (port : ℕ) → ¬ IsHostAndPort text host port
no_parts text none host port given = lacks 58 text none (omega arith) (given.front, given.digits, given.parted)

-- what stands before the last colon, and what stands behind it
pub parts : (text front digits : List ℕ) → SplitsAroundMatch (RFindsChar 58) text front digits → text ≡ front ++ 58 ∷ digits
parts text front digits h =
    sym (take-append-drop h.0 text) ∙ (λ k. sym h.3 k ++ (drop_at_char 58 text h.0 h.1 h.2.1 (omega arith) ∙ ap (λ l. 58 ∷ l) (sym h.4)) k)

-- the port stands behind the last colon
pub same_parts : (text front digits : List ℕ) → SplitsAroundMatch (RFindsChar 58) text front digits → (host : List ℕ) (port : ℕ)
    → (given : IsHostAndPort text host port) → (given.front ≡ front) × (given.digits ≡ digits)
same_parts text front digits h host port given =
    last_parts 58 given.front given.digits front digits (sym given.parted ∙ parts text front digits h) (numeral_lacks given.digits given.port_digits.0)
    (subst (λ t. ¬ HasSubslice t (58 ∷ [])) (sym h.4) (lacks 58 (drop h.1 text) h.2.0 (omega arith)))

-- ---- the host

-- a bracket first, and none at the end
pub no_host_open : (text rest : List ℕ) → text ≡ 91 ∷ rest → ((front : List ℕ) → rest ≢ front ++ 93 ∷ []) → (host : List ℕ) → ¬ IsHostText text host
no_host_open text rest is opened host (_, inl between) = opened host (ap tail_of (sym is ∙ between))
no_host_open text rest is opened host ((_, bare, _), inr (same, _)) = bare ([], rest, sym same ∙ is)

-- brackets about what is no host
pub no_host_between : (text rest inner : List ℕ) → text ≡ 91 ∷ rest → rest ≡ inner ++ 93 ∷ [] → ¬ IsHost inner → (host : List ℕ) → ¬ IsHostText text host
no_host_between text rest inner is ends none host (a_host, inl between) =
    none (subst IsHost (append_cancel_right host inner (93 ∷ []) (sym (ap tail_of (sym is ∙ between)) ∙ ends)) a_host)
no_host_between text rest inner is ends none host ((_, bare, _), inr (same, _)) = bare ([], rest, sym same ∙ is)

pub host_between : (text rest inner : List ℕ) → text ≡ 91 ∷ rest → rest ≡ inner ++ 93 ∷ [] → IsHost inner → IsHostText text inner
host_between text rest inner is ends a_host = (a_host, inl (is ∙ ap (λ l. 91 ∷ l) ends))

-- no bracket first, and a colon
pub no_host_colon : (text : List ℕ) → ((rest : List ℕ) → text ≢ 91 ∷ rest) → HasSubslice text (58 ∷ []) → (host : List ℕ) → ¬ IsHostText text host
no_host_colon text first colon host (_, inl between) = first _ between
no_host_colon text first colon host (_, inr (same, none)) = none (subst (λ t. HasSubslice t (58 ∷ [])) same colon)

-- no bracket first, and what is no host
pub no_host_alone : (text : List ℕ) → ((rest : List ℕ) → text ≢ 91 ∷ rest) → ¬ IsHost text → (host : List ℕ) → ¬ IsHostText text host
no_host_alone text first none host (_, inl between) = first _ between
no_host_alone text first none host (a_host, inr (same, _)) = none (subst IsHost (sym same) a_host)
