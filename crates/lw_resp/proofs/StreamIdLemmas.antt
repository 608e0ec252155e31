-- Identifiers of entries.
use Rattle.std.proofs.Common.{◌≡◌, ◌≢◌, ℕ, suc, ◌+◌, ◌<◌, ◌≤◌, ◌^◌, ◌==◌, ◌%◌, Bool, true, false, List, [], ◌∷◌, ◌++◌, length, take, drop, Option, Some, None, refl, sym, ap, ◌∙◌, subst, inl, inr, arith}
use Rattle.std.specs.Prelude.{◌⊎◌, IfSome, IfNone, position, All}
use Rattle.std.specs.Fmt.{decimal}
use Rattle.std.proofs.lemmas.Bool.{eqb-true, eq-eqb, cases_lt}
use Rattle.std.proofs.lemmas.Fmt.{decimal_by_steps, decimal_injective}
use Rattle.std.proofs.lemmas.List.Elements.{All-nil, All-cons, All-head, All-tail, All-push, All-weaker}
use Rattle.lw_resp.specs.StreamIds.{FitsId, IsAbove, IsNextId, id_text}
use Rattle.lw_resp.specs.declared.stream_id.StreamId.{StreamId}
use Rattle.lw_resp.proofs.Positions.{IsFirstAt, fails_everywhere, first_at}
use Rattle.lw_resp.proofs.Splits.{heads, tails}

abbrev IsNoDash : ℕ → Type 0
IsNoDash b = b ≢ 45

not_dash : (b : ℕ) → (b == 45) ≡ false → IsNoDash b
not_dash b f e =
    let t : (b == 45) ≡ true = eq-eqb b 45 e in
    absurd cc

-- numbers have no `-`
decimal_no_dash : (n : ℕ) → n < 2 ^ 64 → All IsNoDash (decimal n)
decimal_no_dash n fits = decimal_by_steps (λ n ds. All IsNoDash ds)
    (λ n lt. All-cons IsNoDash (48 + n) [] (λ e. omega (arith, e)) (All-nil IsNoDash))
    (λ n ds le all. All-push IsNoDash ds (48 + n % 10) all (λ e. omega (arith, e)))
    n fits

dash_in : (t u : List ℕ) → All IsNoDash (t ++ (45 ∷ u)) → ⊥
dash_in [] u h = All-head IsNoDash 45 u h refl
dash_in (x ∷ t) u h = dash_in t u (All-tail IsNoDash x (t ++ (45 ∷ u)) h)

-- parts before the first `-` of one text are one
same_part : (t u x y : List ℕ) → All IsNoDash t → All IsNoDash u → t ++ (45 ∷ x) ≡ u ++ (45 ∷ y) → (t ≡ u) × (x ≡ y)
same_part [] [] x y p q e = (refl, tails 45 45 x y e)
same_part [] (v ∷ u) x y p q e =
    let same : v ≡ 45 = cc in
    absurd (All-head IsNoDash v u q same)
same_part (w ∷ t) [] x y p q e =
    let same : w ≡ 45 = cc in
    absurd (All-head IsNoDash w t p same)
same_part (w ∷ t) (v ∷ u) x y p q e =
    let head : w ≡ v = cc in
    let tail : t ++ (45 ∷ x) ≡ u ++ (45 ∷ y) = cc in
    let rest = same_part t u x y (All-tail IsNoDash w t p) (All-tail IsNoDash v u q) tail in
    ((λ i. head i ∷ rest.0 i), rest.1)

pub no_dash : (text : List ℕ) → None ≡ position (λ byte. byte == 45) text → (id : StreamId) → FitsId id → text ≢ id_text id
no_dash text e id fits same =
    dash_in (decimal id.major) (decimal id.minor)
    (subst (All IsNoDash) same (All-weaker (λ b. (b == 45) ≡ false) IsNoDash not_dash text (fails_everywhere (λ byte. byte == 45) text e)))

-- the text is two parts with a `-` between them, and the first part has none
pub record HasDash (text major minor : List ℕ) : Type 0 where
  pub plain : All IsNoDash major
  pub joined : text ≡ major ++ (45 ∷ minor)

pub has_dash : (text major behind minor : List ℕ) (first place : ℕ) → position (λ byte. byte == 45) text ≡ Some place → major ≡ take place text → behind ≡ drop place text
    → behind ≡ first ∷ minor → HasDash text major minor
has_dash text major behind minor first place e front back parts =
    let at = first_at (λ byte. byte == 45) text major behind place e front back in
    let both : at.first ∷ at.others ≡ first ∷ minor = sym at.is ∙ parts in
    let dash : first ≡ 45 = sym (heads at.first first at.others minor both) ∙ eqb-true at.first 45 at.passes in
    record {
      plain = All-weaker (λ b. (b == 45) ≡ false) IsNoDash not_dash major at.fails;
      joined = at.joined ∙ ap (λ (s : List ℕ). major ++ s) parts ∙ ap (λ (b : ℕ). major ++ (b ∷ minor)) dash;
    }

pub found_id : (text major minor : List ℕ) → HasDash text major minor → (r : Option StreamId) → IfSome r (λ id. (major ≡ decimal id.major) × (minor ≡ decimal id.minor))
    → IfSome r (λ id. text ≡ id_text id)
found_id text major minor dash (Some id) h =
    dash.joined ∙ ap (λ (s : List ℕ). s ++ (45 ∷ minor)) h.0 ∙ ap (λ (s : List ℕ). decimal id.major ++ (45 ∷ s)) h.1
found_id text major minor dash None h = tt

pub none_id : (text major minor : List ℕ) → HasDash text major minor → (r : Option StreamId)
    → IfNone r ((id : StreamId) → FitsId id → major ≡ decimal id.major → minor ≢ decimal id.minor) → IfNone r ((id : StreamId) → FitsId id → text ≢ id_text id)
none_id text major minor dash (Some id) h = tt
none_id text major minor dash None h = λ id fits e.
    let same = same_part major (decimal id.major) minor (decimal id.minor) dash.plain (decimal_no_dash id.major fits.major) (sym dash.joined ∙ e) in
    h id fits same.0 same.1

pub no_parts : (text major behind : List ℕ) (place : ℕ) → position (λ byte. byte == 45) text ≡ Some place → major ≡ take place text → behind ≡ drop place text → length behind ≡ 0 → ⊥
no_parts text major behind place e front back none =
    let at = first_at (λ byte. byte == 45) text major behind place e front back in
    omega (arith, none, ap length at.is)

-- ---- the next one
same_id : (a b : StreamId) → a.major ≡ b.major → a.minor ≡ b.minor → a ≡ b
same_id a b major minor = λ i. record { major = major i; minor = minor i }

pub next_minor : (a b : StreamId) → b.major ≡ a.major → b.minor ≡ a.minor + 1 → IsNextId a b
next_minor a b major minor = record {
  above = inr (sym major, omega (arith, minor));
  least = λ other fits above. least other above;
}
  where
    least : (other : StreamId) → IsAbove a other → (b ≡ other) ⊎ IsAbove b other
    least other (inl lt) = inr (inl (omega (arith, lt, major)))
    least other (inr at) =
        elim (cases_lt b.minor other.minor) [
          | inl lt ↦ inr (inr (major ∙ at.0, lt))
          | inr ge ↦ inl (same_id b other (major ∙ at.0) (omega (arith, ge, minor, at.1)))
        ]

pub next_major : (a b : StreamId) → 2 ^ 64 ≤ a.minor + 1 → b.major ≡ a.major + 1 → b.minor ≡ 0 → IsNextId a b
next_major a b full major minor = record {
  above = inl (omega (arith, major));
  least = least;
}
  where
    least : (other : StreamId) → FitsId other → IsAbove a other → (b ≡ other) ⊎ IsAbove b other
    least other fits (inl lt) =
        elim (cases_lt b.major other.major) [
          | inl more ↦ inr (inl more)
          | inr ge ↦
              let same : b.major ≡ other.major = omega (arith, ge, lt, major) in
              elim (cases_lt b.minor other.minor) [
                | inl more ↦ inr (inr (same, more))
                | inr none ↦ inl (same_id b other same (omega (arith, none, minor)))
              ]
        ]
    least other fits (inr at) = absurd (omega (arith, at.1, full, fits.minor))

pub no_next : (a other : StreamId) → 2 ^ 64 ≤ a.minor + 1 → 2 ^ 64 ≤ a.major + 1 → FitsId other → IsAbove a other → ⊥
no_next a other full all fits (inl lt) = omega (arith, lt, all, fits.major)
no_next a other full all fits (inr at) = omega (arith, at.1, full, fits.minor)
