-- Lines that are read a part at a time.
use Rattle.std.proofs.Common.{◌≡◌, ℕ, ◌+◌, ◌<◌, ◌≤◌, List, [], ◌++◌, length, take, Bool, Option, Some, None, IfSome, refl, sym, ap, ◌∙◌, subst, arith, append_assoc, append-nil, length-append}
use Rattle.std.proofs.lemmas.Bool.Decides.{nat_tests}
use Rattle.std.proofs.lemmas.List.{take-append-le}
use Rattle.std.proofs.Math.Seq.{take-append-add, take-length}
use Rattle.std.specs.Prelude.{◌==◌, not, ⊤, position}
use Rattle.std.specs.List.{prefix_len}
use Rattle.std.specs.Io.KnownBytes.{Consumes, IsAtEnd}
use Rattle.std.proofs.KnownBytes.{Consumes-trans}
use Rattle.std.proofs.lemmas.List.Folds.{prefix_len-append, length-prefix_len}
use Rattle.std.proofs.lemmas.List.Sums.{prefix_len-le-length}
use Rattle.std.proofs.Common.{inl, inr}
use Rattle.std.proofs.lemmas.Bool.{cases_lt}
use Rattle.lw_fleet.specs.Line.{line_of}

abbrev no_feed : ℕ → Bool
no_feed byte = not (byte == 10)

-- the line of known bytes is what was read of it, and then the line of the rest
abbrev pub Begun : Option (List ℕ) → Option (List ℕ) → List ℕ → Type 0
Begun None rest line = ⊤
Begun (Some bytes) None line = ⊥
Begun (Some bytes) (Some rest) line = line_of bytes ≡ line ++ line_of rest

pub Begun-nil : (a : Option (List ℕ)) → Begun a a []
Begun-nil None = tt
Begun-nil (Some bytes) = refl

-- how many bytes the line has
line-length : (xs : List ℕ) → length (line_of xs) ≡ prefix_len no_feed xs
line-length xs = length-prefix_len no_feed xs

pub line-part : (xs : List ℕ) → length (line_of xs) ≤ length xs
line-part xs = omega (arith, line-length xs, prefix_len-le-length no_feed xs)

prefix-ended : (xs ys : List ℕ) → prefix_len no_feed xs < length xs → prefix_len no_feed (xs ++ ys) ≡ prefix_len no_feed xs
prefix-ended xs ys h = prefix_len-append no_feed xs ys ∙ grind (arith, nat_tests)

prefix-open : (xs ys : List ℕ) → prefix_len no_feed xs ≡ length xs → prefix_len no_feed (xs ++ ys) ≡ length xs + prefix_len no_feed ys
prefix-open xs ys h = prefix_len-append no_feed xs ys ∙ grind (arith, nat_tests)

prefix-whole : (xs : List ℕ) → length xs ≤ length (line_of xs) → prefix_len no_feed xs ≡ length xs
prefix-whole xs h = omega (arith, line-length xs, prefix_len-le-length no_feed xs)

-- bytes with a line feed have the line of whatever they begin
line-ended : (xs ys : List ℕ) → length (line_of xs) < length xs → line_of (xs ++ ys) ≡ line_of xs
line-ended xs ys h =
    let short : prefix_len no_feed xs < length xs = omega (arith, line-length xs) in
    ap (λ k. take k (xs ++ ys)) (prefix-ended xs ys short) ∙ take-append-le (prefix_len no_feed xs) xs ys (omega arith)

-- bytes with no line feed are the front of the line that they begin
line-open : (xs ys : List ℕ) → length xs ≤ length (line_of xs) → line_of (xs ++ ys) ≡ xs ++ line_of ys
line-open xs ys h =
    ap (λ k. take k (xs ++ ys)) (prefix-open xs ys (prefix-whole xs h)) ∙ take-append-add xs ys (prefix_len no_feed ys)

line-whole : (xs : List ℕ) → length xs ≤ length (line_of xs) → line_of xs ≡ xs
line-whole xs h = ap (λ k. take k xs) (prefix-whole xs h) ∙ take-length xs

-- the line of some bytes is the front of that of whatever they begin
line-grows : (xs ys : List ℕ) → length (line_of xs) ≤ length (line_of (xs ++ ys))
line-grows xs ys = elim (cases_lt (length (line_of xs)) (length xs)) [
  | inl h ↦ omega (arith, ap length (line-ended xs ys h))
  | inr h ↦ let open_at : length xs ≤ length (line_of xs) = omega arith in
      omega (arith, ap length (line-open xs ys open_at), length-append xs (line_of ys), line-part xs)
]

-- a chunk was read, and its part of the line was added
module _ (a b c : Option (List ℕ)) (line chunk part new : List ℕ) (begun : Begun a b line) (took : Consumes b c chunk) (is_part : part ≡ line_of chunk) where
  pub ends : new ≡ line ++ part → length part < length chunk → IfSome a (λ bytes. new ≡ line_of bytes)
  ends added h = subst (λ l. IfSome a (λ bytes. l ≡ line_of bytes)) (sym (added ∙ ap (λ l. line ++ l) is_part))
      (ended a b c begun took)
    where
      short : length (line_of chunk) < length chunk
      short = omega (arith, ap length is_part)

      ended : (a b c : Option (List ℕ)) → Begun a b line → Consumes b c chunk → IfSome a (λ bytes. line ++ line_of chunk ≡ line_of bytes)
      ended None b c begun took = tt
      ended (Some bytes) None c begun took = absurd begun
      ended (Some bytes) (Some xs) None begun took = absurd took
      ended (Some bytes) (Some xs) (Some ys) begun took =
          sym (begun ∙ ap (λ l. line ++ line_of l) took ∙ ap (λ l. line ++ l) (line-ended chunk ys short))

  pub goes_on : new ≡ line ++ part → length chunk ≤ length part → Begun a c new
  goes_on added h = subst (Begun a c) (sym (added ∙ ap (λ l. line ++ l) is_part)) (more a b c begun took)
    where
      whole : length chunk ≤ length (line_of chunk)
      whole = omega (arith, ap length is_part)

      more : (a b c : Option (List ℕ)) → Begun a b line → Consumes b c chunk → Begun a c (line ++ line_of chunk)
      more None b c begun took = tt
      more (Some bytes) None c begun took = absurd begun
      more (Some bytes) (Some xs) None begun took = absurd took
      more (Some bytes) (Some xs) (Some ys) begun took =
          begun ∙ ap (λ l. line ++ line_of l) took ∙ ap (λ l. line ++ l) (line-open chunk ys whole) ∙ sym (append_assoc line chunk (line_of ys))
          ∙ ap (λ l. (line ++ l) ++ line_of ys) (sym (line-whole chunk whole))

  pub at_end : new ≡ line ++ part → length chunk ≡ 0 → IsAtEnd c → IfSome a (λ bytes. new ≡ line_of bytes)
  at_end added h end = none_left a c (goes_on added (omega arith)) end
    where
      none_left : (a c : Option (List ℕ)) → Begun a c new → IsAtEnd c → IfSome a (λ bytes. new ≡ line_of bytes)
      none_left None c begun end = tt
      none_left (Some bytes) None begun end = absurd begun
      none_left (Some bytes) (Some xs) begun end = sym (begun ∙ ap (λ l. new ++ line_of l) end ∙ append-nil new)

  pub too_long : (n : ℕ) → n < length line + length part → IfSome a (λ bytes. n < length (line_of bytes))
  too_long n h = long a b c begun took
    where
      long : (a b c : Option (List ℕ)) → Begun a b line → Consumes b c chunk → IfSome a (λ bytes. n < length (line_of bytes))
      long None b c begun took = tt
      long (Some bytes) None c begun took = absurd begun
      long (Some bytes) (Some xs) None begun took = absurd took
      long (Some bytes) (Some xs) (Some ys) begun took =
          omega (arith, ap length (begun ∙ ap (λ l. line ++ line_of l) took), length-append line (line_of (chunk ++ ys)), line-grows chunk ys, ap length is_part)

-- what stands before the first line feed, where a search finds one or none
pub found : (bytes : List ℕ) (feed : ℕ) → position (λ byte. byte == 10) bytes ≡ Some feed → take feed bytes ≡ line_of bytes
found bytes feed h = elim (cases_lt (prefix_len no_feed bytes) (length bytes)) [
  | inl short ↦ ap (λ k. take k bytes) (same feed (prefix_len no_feed bytes) (sym h ∙ grind (arith, nat_tests)))
  | inr whole ↦ absurd (clash feed (sym h ∙ grind (arith, nat_tests)))
]
  where
    same : (x y : ℕ) → Some x ≡ Some y → x ≡ y
    same x y e = cc

    clash : (x : ℕ) → Some x ≡ None → ⊥
    clash x e = cc

pub not_found : (bytes : List ℕ) → position (λ byte. byte == 10) bytes ≡ None → bytes ≡ line_of bytes
not_found bytes h = elim (cases_lt (prefix_len no_feed bytes) (length bytes)) [
  | inl short ↦ absurd (clash (prefix_len no_feed bytes) (sym h ∙ grind (arith, nat_tests)))
  | inr whole ↦ sym (line-whole bytes (omega (arith, line-length bytes)))
]
  where
    clash : (x : ℕ) → None ≡ Some x → ⊥
    clash x e = cc

-- ---- all bytes

-- more bytes than these were there
pub more_than : (a b c : Option (List ℕ)) (bytes chunk : List ℕ) (n : ℕ) → Consumes a b bytes → Consumes b c chunk
    → n < length bytes + length chunk → IfSome a (λ all. n < length all)
more_than None b c bytes chunk n p q h = tt
more_than (Some x) None c bytes chunk n p q h = absurd p
more_than (Some x) (Some y) None bytes chunk n p q h = absurd q
more_than (Some x) (Some y) (Some z) bytes chunk n p q h =
    omega (arith, ap length (p ∙ ap (λ l. bytes ++ l) q), length-append bytes (chunk ++ z), length-append chunk z)

-- at the end all bytes were read
pub all_read : (a b : Option (List ℕ)) (bytes : List ℕ) → Consumes a b bytes → IsAtEnd b → IfSome a (λ all. bytes ≡ all)
all_read None b bytes p e = tt
all_read (Some x) None bytes p e = absurd p
all_read (Some x) (Some y) bytes p e = sym (p ∙ ap (λ l. bytes ++ l) e ∙ append-nil bytes)

-- nothing more was read, and nothing is left
pub ended : (a b c : Option (List ℕ)) (bytes chunk : List ℕ) (n : ℕ) → Consumes a b bytes → Consumes b c (take n chunk) → n ≡ 0 → IsAtEnd c
    → IfSome a (λ all. bytes ≡ all)
ended a b c bytes chunk n front more none end =
    subst (λ l. IfSome a (λ all. l ≡ all)) (ap (λ k. bytes ++ take k chunk) none ∙ append-nil bytes)
    (all_read a c (bytes ++ take n chunk) (Consumes-trans a b c bytes (take n chunk) front more) end)
