-- Bindings are ordered by their texts, and no two have one text.
use Rattle.std.proofs.Common.{◌≡◌, ℕ, zero, suc, ◌+◌, ◌-◌, ◌≤◌, true, leb, List, [], ◌∷◌, ◌++◌, length, replicate, refl, sym, ap, ◌∙◌, subst, arith}
use Rattle.std.specs.declared.cmp.Ordering.TheVariants.{Less, Equal, Greater}
use Rattle.std.specs.Char.{is_ascii_uppercase}
use Rattle.std.specs.Cmp.Lexicographic.{slice_cmp}
use Rattle.std.specs.List.{list_all}
use Rattle.std.specs.Ordering.{nat_cmp, ordering_then}
use Rattle.std.proofs.Props.{props}
use Rattle.std.proofs.lemmas.Bool.{and_parts, leb-true, lt-ltb, le-ltb, ne_eqb}
use Rattle.std.proofs.lemmas.Cmp.{on_total, nat_list_cmp_total}
use Rattle.std.proofs.lemmas.Map.Lookups.{exact_bytes}
use mathlib.Core.HLevel.{is_prop→PathP}
use Rattle.lw_stamp.specs.Order.{IsExactOrder}
use Rattle.lw_reg.specs.declared.binding.Binding.{Binding}
use Rattle.lw_reg.specs.BindingText.{IsPadded, text_in}
use Rattle.lw_reg.specs.Binding.{binding_text}
use Rattle.lw_reg.specs.Orders.{binding_by_text, binding_cmp}

padded_is_prop : (letters : List ℕ) → IsProp (IsPadded letters)
padded_is_prop letters = hlevel props

-- a binding is its text
pub same_binding : (a b : Binding) → binding_text a ≡ binding_text b → a ≡ b
same_binding a b h =
    let letters : a.letters ≡ b.letters = a.padded.zeros ∙ ap (λ (t : List ℕ). t ++ replicate (8 - length t) 0) h ∙ sym b.padded.zeros in
    λ i. record { letters = letters i; padded = is_prop→PathP (λ i. IsPadded (letters i)) (λ i. padded_is_prop (letters i)) a.padded b.padded i }

-- a letter is above the padding
padding_below : (c : ℕ) → is_ascii_uppercase c ≡ true → (nat_cmp 0 c ≡ Less) × (nat_cmp c 0 ≡ Greater)
padding_below c h =
    let letter : 65 ≤ c = leb-true 65 c (and_parts (leb 65 c) (leb c 90) h).0 in
    (rw (lt-ltb 0 c (omega arith)) refl, rw (le-ltb c 0 (omega arith), ne_eqb c 0 (λ (e : c ≡ 0). omega arith)) refl)

same_padding : (m : ℕ) → slice_cmp nat_cmp (replicate m 0) (replicate m 0) ≡ Equal
same_padding zero = refl
same_padding (suc m) = same_padding m

-- texts with the padding that makes them as long are ordered as they are
padded_cmp : (x y : List ℕ) (m n : ℕ) → list_all is_ascii_uppercase x ≡ true → list_all is_ascii_uppercase y ≡ true → length x + m ≡ length y + n → slice_cmp nat_cmp (x ++ replicate m 0) (y ++ replicate n 0) ≡ slice_cmp nat_cmp x y
padded_cmp [] [] m n hx hy e =
    let same : n ≡ m = omega arith in
    rw same (same_padding m)
padded_cmp [] (b ∷ y) zero n hx hy e = absurd (omega arith)
padded_cmp [] (b ∷ y) (suc m) n hx hy e =
    rw (padding_below b (and_parts (is_ascii_uppercase b) (list_all is_ascii_uppercase y) hy).0).0 refl
padded_cmp (a ∷ x) [] m zero hx hy e = absurd (omega arith)
padded_cmp (a ∷ x) [] m (suc n) hx hy e =
    rw (padding_below a (and_parts (is_ascii_uppercase a) (list_all is_ascii_uppercase x) hx).0).1 refl
padded_cmp (a ∷ x) (b ∷ y) m n hx hy e =
    ap (ordering_then (nat_cmp a b)) (padded_cmp x y m n (and_parts (is_ascii_uppercase a) (list_all is_ascii_uppercase x) hx).1 (and_parts (is_ascii_uppercase b) (list_all is_ascii_uppercase y) hy).1 (omega arith))

pub binding_texts : (a b : Binding) → binding_cmp a b ≡ binding_by_text a b
binding_texts a b =
    let x = text_in a.letters in
    let y = text_in b.letters in
    let fx = a.padded.text in
    let fy = b.padded.text in
    (λ i. slice_cmp nat_cmp (a.padded.zeros i) (b.padded.zeros i)) ∙ padded_cmp x y (8 - length x) (8 - length y) fx.letters fy.letters (omega (arith, fx.most, fy.most))

pub binding_order : IsExactOrder binding_cmp
binding_order = subst IsExactOrder (λ i a b. sym (binding_texts a b) i) (record {
  total = on_total binding_text nat_list_cmp_total;
  exact = λ a b h. same_binding a b (exact_bytes (binding_text a) (binding_text b) h);
})
