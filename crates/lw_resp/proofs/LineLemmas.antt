-- Lines.
use Rattle.std.proofs.Common.{◌≡◌, ◌≢◌, ℕ, suc, ◌<◌, ◌≤◌, Bool, true, false, ltb, eqb, cond, ◌||◌, List, [], ◌∷◌, ◌++◌, length, get_or, take, drop, Option, Some, None, refl, sym, ap, ◌∙◌, subst, inl, inr, arith}
use Rattle.std.specs.Prelude.{◌⊎◌, ◌==◌, position, All}
use Rattle.std.proofs.lemmas.Bool.{eqb-true}
use Rattle.std.proofs.lemmas.List.{append_assoc, length-append}
use Rattle.std.proofs.lemmas.List.Elements.{All-head, All-tail, All-weaker}
use Rattle.lw_resp.proofs.Positions.{IsFirstAt, fails_everywhere, first_at}
use Rattle.lw_resp.specs.Reading.{IsCut, IsMalformed}
use Rattle.lw_resp.specs.Words.{IsInLine, IsLineText, IsText}
use Rattle.lw_resp.specs.inner.Parts.{AreThese, as_they_are, ended, is_end}

-- a byte that ends a line, or would
abbrev pub IsEnd : ℕ → Type 0
IsEnd byte = (byte ≡ 13) ⊎ (byte ≡ 10)

not_both : (x : ℕ) → IsInLine x → IsEnd x → ⊥
not_both x i (inl e) = i.0 e
not_both x i (inr e) = i.1 e

-- where two lines begin one list, they are one
pub same_line : (t u : List ℕ) (b c : ℕ) (x y : List ℕ) → IsLineText t → IsLineText u → IsEnd b → IsEnd c → t ++ (b ∷ x) ≡ u ++ (c ∷ y)
    → (t ≡ u) × (b ≡ c) × (x ≡ y)
same_line [] [] b c x y p q m n e = (refl, cc, cc)
same_line [] (v ∷ u) b c x y p q m n e =
    let same : b ≡ v = cc in
    absurd (not_both v (All-head IsInLine v u q) (subst IsEnd same m))
same_line (w ∷ t) [] b c x y p q m n e =
    let same : c ≡ w = cc in
    absurd (not_both w (All-head IsInLine w t p) (subst IsEnd same n))
same_line (w ∷ t) (v ∷ u) b c x y p q m n e =
    let head : w ≡ v = cc in
    let tail : t ++ (b ∷ x) ≡ u ++ (c ∷ y) = cc in
    let rest = same_line t u b c x y (All-tail IsInLine w t p) (All-tail IsInLine v u q) m n tail in
    ((λ i. head i ∷ rest.0 i), rest.1, rest.2)

-- what has no end is the beginning of the line
pub begun_line : (t u more y : List ℕ) (c : ℕ) → IsLineText t → IsEnd c → t ++ more ≡ u ++ (c ∷ y) → (tail : List ℕ) × (u ≡ t ++ tail)
begun_line [] u more y c p n e = (u, refl)
begun_line (w ∷ t) [] more y c p n e =
    let same : c ≡ w = cc in
    absurd (not_both w (All-head IsInLine w t p) (subst IsEnd same n))
begun_line (w ∷ t) (v ∷ u) more y c p n e =
    let head : v ≡ w = cc in
    let tail : t ++ more ≡ u ++ (c ∷ y) = cc in
    let rest = begun_line t u more y c (All-tail IsInLine w t p) n tail in
    (rest.0, (λ i. head i ∷ rest.1 i))

-- ---- the first end
no_end : (b : ℕ) → is_end b ≡ false → IsInLine b
no_end b f = (
  (λ e. let g : true ≡ false = subst (λ (x : ℕ). is_end x ≡ false) e f in absurd cc),
  (λ e. let g : true ≡ false = subst (λ (x : ℕ). is_end x ≡ false) e f in absurd cc),
)

an_end : (b : ℕ) → is_end b ≡ true → IsEnd b
an_end b h =
    elim (b == 13) as (λ t. (b == 13) ≡ t → (t || (b == 10)) ≡ true → IsEnd b) [
      | true ↦ λ first e. inl (eqb-true b 13 first)
      | false ↦ λ first e. inr (eqb-true b 10 e)
    ] refl h

-- no end, one line
pub line_without_end : (bytes : List ℕ) → None ≡ position is_end bytes → IsLineText bytes
line_without_end bytes e = All-weaker (λ b. is_end b ≡ false) IsInLine no_end bytes (fails_everywhere is_end bytes e)

-- the first end of the bytes stands behind a text
pub record IsCutAt (bytes text end : List ℕ) : Type 0 where
  pub in_line : IsLineText text
  pub joined : bytes ≡ text ++ end
  pub first : ℕ
  pub others : List ℕ
  pub is : end ≡ first ∷ others
  pub ends : IsEnd first

pub cut_at : (bytes text end : List ℕ) (place : ℕ) → position is_end bytes ≡ Some place → text ≡ take place bytes → end ≡ drop place bytes → IsCutAt bytes text end
cut_at bytes text end place e front back =
    let at = first_at is_end bytes text end place e front back in
    record {
      in_line = All-weaker (λ b. is_end b ≡ false) IsInLine no_end text at.fails;
      joined = at.joined;
      first = at.first;
      others = at.others;
      is = at.is;
      ends = an_end at.first at.passes;
    }

-- ---- what stands at the end
pub whole_line : (bytes text end rest : List ℕ) → IsCutAt bytes text end → end ≡ 13 ∷ 10 ∷ rest → IsLineText text × (bytes ≡ text ++ (13 ∷ 10 ∷ rest))
whole_line bytes text end rest at e = (at.in_line, at.joined ∙ ap (λ (s : List ℕ). text ++ s) e)

half_end : (first : ℕ) (others more : List ℕ) → 0 < length more → 13 ∷ 10 ∷ [] ≡ first ∷ (others ++ more) → first ∷ others ≡ 13 ∷ []
half_end first [] more some e =
    let same : first ≡ 13 = cc in
    ap (λ (b : ℕ). b ∷ []) same
half_end first (x ∷ others) more some e = absurd (omega (arith, some, ap length e, length-append others more))

pub returned_line : (bytes text end : List ℕ) → IsCutAt bytes text end → IsCut (AreThese (13 ∷ 10 ∷ [])) as_they_are end → IsLineText text × (bytes ≡ text ++ (13 ∷ []))
returned_line bytes text end at cut =
    let all : 13 ∷ 10 ∷ [] ≡ at.first ∷ (at.others ++ cut.more) = sym cut.valid ∙ cut.written ∙ ap (λ (s : List ℕ). s ++ cut.more) at.is in
    let half : end ≡ 13 ∷ [] = at.is ∙ half_end at.first at.others cut.more cut.some all in
    (at.in_line, at.joined ∙ ap (λ (s : List ℕ). text ++ s) half)

pub broken_line : (bytes text end : List ℕ) → IsCutAt bytes text end → IsMalformed (AreThese (13 ∷ 10 ∷ [])) as_they_are end → IsMalformed IsLineText ended bytes
broken_line bytes text end at broken value plain more rest e =
    let joined : bytes ≡ text ++ (at.first ∷ at.others) = at.joined ∙ ap (λ (s : List ℕ). text ++ s) at.is in
    let line : text ++ (at.first ∷ (at.others ++ more)) ≡ value ++ (13 ∷ 10 ∷ rest) =
    sym (append_assoc text (at.first ∷ at.others) more) ∙ ap (λ (s : List ℕ). s ++ more) (sym joined) ∙ e ∙ append_assoc value (13 ∷ 10 ∷ []) rest in
    let same = same_line text value at.first 13 (at.others ++ more) (10 ∷ rest) at.in_line plain at.ends (inl refl) line in
    let first : at.first ≡ 13 = same.1 in
    let others : at.others ++ more ≡ 10 ∷ rest = same.2 in
    broken (13 ∷ 10 ∷ []) refl more rest (ap (λ (s : List ℕ). s ++ more) at.is ∙ (λ i. first i ∷ others i))

-- ---- texts that end
-- the line that the bytes begin with is the only one
pub only_line : (bytes text tail value more rest : List ℕ) → IsLineText text → bytes ≡ text ++ (13 ∷ tail) → IsLineText value → bytes ++ more ≡ (value ++ (13 ∷ 10 ∷ [])) ++ rest
    → text ≡ value
only_line bytes text tail value more rest p joined q e =
    let line : text ++ (13 ∷ (tail ++ more)) ≡ value ++ (13 ∷ 10 ∷ rest) =
    sym (append_assoc text (13 ∷ tail) more) ∙ ap (λ (s : List ℕ). s ++ more) (sym joined) ∙ e ∙ append_assoc value (13 ∷ 10 ∷ []) rest in
    let same = same_line text value 13 13 (tail ++ more) (10 ∷ rest) p q (inl refl) (inl refl) line in
    same.0

pub front_of_line : (text value more rest : List ℕ) → IsLineText text → text ++ more ≡ (value ++ (13 ∷ 10 ∷ [])) ++ rest → (tail : List ℕ) × (value ≡ text ++ tail)
front_of_line text value more rest p e =
    begun_line text value more (10 ∷ rest) 13 p (inl refl) (e ∙ append_assoc value (13 ∷ 10 ∷ []) rest)

pub returned_more : (bytes text : List ℕ) → bytes ≡ text ++ (13 ∷ []) → text ++ (13 ∷ 10 ∷ []) ≡ bytes ++ (10 ∷ [])
returned_more bytes text e = sym (ap (λ (s : List ℕ). s ++ (10 ∷ [])) e ∙ append_assoc text (13 ∷ []) (10 ∷ []))

pub long_whole : (bytes text tail : List ℕ) → IsLineText text → bytes ≡ text ++ (13 ∷ tail) → 65536 < length text → IsMalformed IsText ended bytes
long_whole bytes text tail p joined long value is more rest e =
    let same = only_line bytes text tail value more rest p joined is.in_line e in
    omega (arith, long, is.short, ap length same)

pub long_begun : (text : List ℕ) → IsLineText text → 65536 < length text → IsMalformed IsText ended text
long_begun text p long value is more rest e =
    let front = front_of_line text value more rest p e in
    omega (arith, long, is.short, ap length front.1, length-append text front.0)

pub returned_text : (bytes text : List ℕ) → IsLineText text × (bytes ≡ text ++ (13 ∷ [])) → length text ≤ 65536 → IsCut IsText ended bytes
returned_text bytes text line short = record {
  value = text;
  valid = record { in_line = line.0; short = short };
  more = 10 ∷ [];
  some = omega arith;
  written = returned_more bytes text line.1;
}

pub begun_text : (bytes text : List ℕ) → IsLineText text × (bytes ≡ text) → length text ≤ 65536 → IsCut IsText ended bytes
begun_text bytes text line short = record {
  value = text;
  valid = record { in_line = line.0; short = short };
  more = 13 ∷ 10 ∷ [];
  some = omega arith;
  written = ap (λ (s : List ℕ). s ++ (13 ∷ 10 ∷ [])) (sym line.1);
}

pub long_begun_text : (bytes text : List ℕ) → IsLineText text × (bytes ≡ text) → 65536 < length text → IsMalformed IsText ended bytes
long_begun_text bytes text line long = subst (IsMalformed IsText ended) (sym line.1) (long_begun text line.0 long)
