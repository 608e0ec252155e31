-- What is written one after another.
use Rattle.std.proofs.Common.{◌≡◌, ◌∙◌, ℕ, List, [], ◌∷◌, ◌++◌, Result, Ok, Err, OnOk, ap, subst, append_assoc, length, take, map, decimal}
use Rattle.std.proofs.Math.Seq.{take-append_seam}
use Rattle.json.specs.Token.{Token}
use Rattle.json.specs.Print.{print}
use Rattle.json.specs.Written.{Written, Writes}
use Rattle.serde_json.specs.Data.{Data, array}
use Rattle.serde_json.specs.View.{items_of}
use Rattle.serde_json.specs.Written.{compact_text}
use Rattle.serde_json.proofs.Texts.{print-outline}
use Rattle.lw_json.specs.inner.Tokens.{Adds, data_tokens}
use Rattle.lw_json.specs.inner.Words.{Puts}

-- a token of its own
pub one : {E : Type 0} {r : Result (Unit {0}) E} {a b : Written} {t : Token} → Writes r a b t → Adds r a b (t ∷ [])
one w = record { ok = w.ok; before = w.room.0 }

-- some, and then more
infixr 10 ◌⨾◌
pub ◌⨾◌ : {E F : Type 0} {x : Unit {0}} {r : Result (Unit {0}) F} {a b c : Written} {xs ys : List Token} → Adds {E = E} (Ok x) a b xs → Adds r b c ys → Adds r a c (xs ++ ys)
◌⨾◌ {F = F} {r = r} {a = a} {b = b} {c = c} {xs = xs} {ys = ys} p q = record { ok = both r q.ok; before = q.before ∙ p.before }
  where
    both : (r : Result (Unit {0}) F) → OnOk r (c.tokens ≡ b.tokens ++ ys) → OnOk r (c.tokens ≡ a.tokens ++ (xs ++ ys))
    both (Ok y) e = e ∙ ap (λ ts. ts ++ ys) p.ok ∙ append_assoc a.tokens xs ys
    both (Err y) e = tt

-- the same, of a call that gives another refusal
pub done : {E F : Type 0} {x y : Unit {0}} {a b : Written} {xs : List Token} → Adds {E = E} (Ok x) a b xs → Adds {E = F} (Ok y) a b xs
done p = record { ok = p.ok; before = p.before }

-- a member with an equal text, or an equal number
pub text_as : {E : Type 0} {r : Result (Unit {0}) E} {a b : Written} {k : Token} {s t : List ℕ} → s ≡ t → Adds r a b (k ∷ Token.string s ∷ []) → Adds r a b (k ∷ Token.string t ∷ [])
text_as {r = r} {a = a} {b = b} {k = k} e p = subst (λ (s : List ℕ). Adds r a b (k ∷ Token.string s ∷ [])) e p

pub number_as : {E : Type 0} {r : Result (Unit {0}) E} {a b : Written} {k : Token} {m n : ℕ} → m ≡ n → Adds r a b (k ∷ Token.number (decimal m) ∷ []) → Adds r a b (k ∷ Token.number (decimal n) ∷ [])
number_as {r = r} {a = a} {b = b} {k = k} e p = subst (λ (n : ℕ). Adds r a b (k ∷ Token.number (decimal n) ∷ [])) e p

-- a member with equal items
pub items_as : {E : Type 0} {r : Result (Unit {0}) E} {a b : Written} {k : Token} {A : Type 0} (f : A → Data) {xs ys : List A} → xs ≡ ys → Adds r a b (k ∷ data_tokens (array (items_of (map f xs)))) → Adds r a b (k ∷ data_tokens (array (items_of (map f ys))))
items_as {r = r} {a = a} {b = b} {k = k} {A = A} f e p = subst (λ (xs : List A). Adds r a b (k ∷ data_tokens (array (items_of (map f xs))))) e p

-- the value of what is seen of a thing
pub seen_as : {E : Type 0} {r : Result (Unit {0}) E} {a b : Written} {A : Type 0} (f : A → Data) {x y : A} → x ≡ y → Adds r a b (data_tokens (f x)) → Adds r a b (data_tokens (f y))
seen_as {r = r} {a = a} {b = b} {A = A} f e p = subst (λ (x : A). Adds r a b (data_tokens (f x))) e p

-- the text of a value that is written first
pub printed : {E : Type 0} {x : Unit {0}} {a b : Written} (d : Data) → a.tokens ≡ [] → Adds {E = E} (Ok x) a b (data_tokens d) → print b.tokens ≡ compact_text d
printed d none p = ap print (p.ok ∙ ap (λ ts. ts ++ data_tokens d) none) ∙ print-outline d

-- so behind what stands in a line
pub put_printed : {E : Type 0} (r : Result (Unit {0}) E) {a b : Written} (d : Data) (old new : List ℕ) → a.tokens ≡ [] → a.before ≡ old → Adds r a b (data_tokens d) → new ≡ b.before ++ print b.tokens → Puts r old new (compact_text d)
put_printed {E = E} r {a = a} {b = b} d old new none first p is = record {
  ok = added r p;
  kept = ap (take (length old)) (is ∙ ap (λ s. s ++ print b.tokens) (p.before ∙ first)) ∙ take-append_seam old (print b.tokens);
}
  where
    added : (r : Result (Unit {0}) E) → Adds r a b (data_tokens d) → OnOk r (new ≡ old ++ compact_text d)
    added (Ok x) p = is ∙ (λ i. (p.before ∙ first) i ++ printed d none p i)
    added (Err e) p = tt
