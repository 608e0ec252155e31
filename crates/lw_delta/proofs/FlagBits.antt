-- The bits of a flag byte.
use Rattle.std.proofs.Common.{◌≡◌, ℕ, ◌+◌, ◌<◌, ◌≤◌, Bool, true, false, ◌&&◌, List, [], ◌∷◌, refl, arith}
use Rattle.std.proofs.lemmas.Bool.{and_parts}
use Rattle.lw_delta.specs.Values.{is_set}
use Rattle.lw_delta.specs.Writing.{flag_if}

abbrev all : (Bool → Bool) → Bool
all p = p true && p false

all_true : (p : Bool → Bool) → all p ≡ true → (b : Bool) → p b ≡ true
all_true p h true = (and_parts (p true) (p false) h).0
all_true p h false = (and_parts (p true) (p false) h).1

abbrev same : Bool → Bool → Bool
same true b = b
same false true = false
same false false = true

same_is : (a b : Bool) → same a b ≡ true → a ≡ b
same_is true true h = refl
same_is true false h = cc
same_is false true h = cc
same_is false false h = refl

abbrev Seven : Type 0
Seven = Bool → Bool → Bool → Bool → Bool → Bool → Bool → Bool

abbrev all7 : Seven → Bool
all7 p = all (λ a. all (λ b. all (λ c. all (λ d. all (λ e. all (λ f. all (λ g. p a b c d e f g)))))))

all7_true : (p : Seven) → all7 p ≡ true → (a b c d e f g : Bool) → p a b c d e f g ≡ true
all7_true p h a b c d e f g =
    let h1 = all_true (λ a. all (λ b. all (λ c. all (λ d. all (λ e. all (λ f. all (λ g. p a b c d e f g))))))) h a in
    let h2 = all_true (λ b. all (λ c. all (λ d. all (λ e. all (λ f. all (λ g. p a b c d e f g)))))) h1 b in
    let h3 = all_true (λ c. all (λ d. all (λ e. all (λ f. all (λ g. p a b c d e f g))))) h2 c in
    let h4 = all_true (λ d. all (λ e. all (λ f. all (λ g. p a b c d e f g)))) h3 d in
    let h5 = all_true (λ e. all (λ f. all (λ g. p a b c d e f g))) h4 e in
    let h6 = all_true (λ f. all (λ g. p a b c d e f g)) h5 f in
    all_true (λ g. p a b c d e f g) h6 g

abbrev pub sum7 : Bool → Bool → Bool → Bool → Bool → Bool → Bool → ℕ
sum7 a b c d e f g = flag_if 1 a + flag_if 2 b + flag_if 4 c + flag_if 8 d + flag_if 16 e + flag_if 32 f + flag_if 64 g

-- each is as it is told
abbrev all_same : List (Bool × Bool) → Bool
all_same [] = true
all_same (p ∷ ps) = same p.0 p.1 && all_same ps

abbrev pub AllSame : List (Bool × Bool) → Type 0
AllSame [] = Unit
AllSame (p ∷ ps) = (p.0 ≡ p.1) × AllSame ps

all_same_are : (ps : List (Bool × Bool)) → all_same ps ≡ true → AllSame ps
all_same_are [] h = tt
all_same_are (p ∷ ps) h = let parts = and_parts (same p.0 p.1) (all_same ps) h in (same_is p.0 p.1 parts.0, all_same_are ps parts.1)

-- the bits of a byte, each beside the flag that it tells
abbrev pub bits : ℕ → Bool → Bool → Bool → Bool → Bool → Bool → Bool → List (Bool × Bool)
bits n a b c d e f g =
    (is_set n 1, a) ∷ (is_set n 2, b) ∷ (is_set n 4, c) ∷ (is_set n 8, d) ∷ (is_set n 16, e) ∷ (is_set n 32, f) ∷ (is_set n 64, g) ∷ (is_set n 128, false) ∷ []

pub bits_tell : (a b c d e f g : Bool) → AllSame (bits (sum7 a b c d e f g) a b c d e f g)
bits_tell a b c d e f g = all_same_are (bits (sum7 a b c d e f g) a b c d e f g) (all7_true (λ a b c d e f g. all_same (bits (sum7 a b c d e f g) a b c d e f g)) refl a b c d e f g)

flag_small : (k : ℕ) (b : Bool) → flag_if k b ≤ k
flag_small k true = omega arith
flag_small k false = omega arith

pub flags_small : (a b c d e f g : Bool) → sum7 a b c d e f g < 256
flags_small a b c d e f g = omega (arith, flag_small 1 a, flag_small 2 b, flag_small 4 c, flag_small 8 d, flag_small 16 e, flag_small 32 f, flag_small 64 g)
