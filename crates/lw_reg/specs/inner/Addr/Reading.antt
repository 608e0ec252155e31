-- Reading an address from left to right. What it reads is what `addr_text` prints.
use Rattle.std.specs.Prelude.{◌≡◌, ◌≢◌, ℕ, ◌+◌, ◌-◌, ◌*◌, ◌^◌, length, slice_index, ◌&&◌, List, [], ◌∷◌, ◌++◌, Option, Some, None, nat_eq, nat_lt, nat_le, ◌==◌, if◌then◌else◌}
use Rattle.std.specs.Cmp.Lexicographic.{pointwise}
use Rattle.std.specs.Fmt.{decimal}
use Rattle.std.specs.Str.Parse.{digits_value}
use Rattle.lw_reg.specs.declared.addr.Addr.{Addr}
use Rattle.lw_reg.specs.declared.addr.Addr.TheVariants.{V4, V6}

infixl 10 ◌>>=◌
abbrev pub ◌>>=◌ : {A B : Type 0} → Option A → (A → Option B) → Option B
(Some x) >>= f = f x
None >>= f = None

-- what a function returned, seen by view, is what reading gives
abbrev pub Gives : {X Y : Type 0} → (X → Y) → Option X → Option Y → Type 0
Gives view (Some x) read = read ≡ Some (view x)
Gives view None read = read ≡ None

-- what follows the first byte, which is c
abbrev pub strip_at : ℕ → List ℕ → Option (List ℕ)
strip_at c [] = None
strip_at c (b ∷ text) = if b == c then Some text else None

-- what is before the first c, and what is after it
unfoldable pub cut_at : ℕ → List ℕ → Option (List ℕ × List ℕ)
cut_at c [] = None
cut_at c (b ∷ text) = if b == c then Some ([], text) else (cut_at c text >>= λ x. Some (b ∷ x.0, x.1))

-- the number below the limit that is printed so
unfoldable pub number_in : ℕ → List ℕ → Option ℕ
number_in limit text = if nat_lt (digits_value 10 text) limit && pointwise nat_eq text (decimal (digits_value 10 text)) then Some (digits_value 10 text) else None

-- a number has no sign and no leading zero
pub record IsPlain (text : List ℕ) : Type 0 where
  pub unsigned : slice_index text 0 ≢ 43
  pub no_zero : slice_index text 0 ≡ 48 → length text ≡ 1

-- a number of 8 bits, then c
unfoldable pub octet_then : ℕ → List ℕ → Option (ℕ × List ℕ)
octet_then c text = do
  x ← cut_at c text
  n ← number_in (2 ^ 8) x.0
  Some (n, x.1)

unfoldable pub v4_in : List ℕ → Option Addr
v4_in text = do
  a ← octet_then 46 text
  b ← octet_then 46 a.1
  c ← octet_then 46 b.1
  d ← octet_then 58 c.1
  port ← number_in (2 ^ 16) d.1
  Some (V4 (a.0 ∷ b.0 ∷ c.0 ∷ d.0 ∷ []) port)

-- a lower-case hex digit
abbrev pub hex_value : ℕ → Option ℕ
hex_value c = if nat_le 48 c && nat_le c 57 then Some (c - 48) else (if nat_le 97 c && nat_le c 102 then Some (c - 87) else None)

unfoldable pub byte_in : ℕ → ℕ → Option ℕ
byte_in a b = do
  high ← hex_value a
  low ← hex_value b
  Some (16 * high + low)

unfoldable pub group_in : List ℕ → Option (ℕ × ℕ)
group_in (a ∷ b ∷ c ∷ d ∷ []) = do
  high ← byte_in a b
  low ← byte_in c d
  Some (high, low)
group_in _ = None

-- a group of two bytes, then c
unfoldable pub group_then : ℕ → List ℕ → Option ((ℕ × ℕ) × List ℕ)
group_then c text = do
  x ← cut_at c text
  group ← group_in x.0
  Some (group, x.1)

-- four groups with colons between them, then c
unfoldable pub four_then : ℕ → List ℕ → Option (List ℕ × List ℕ)
four_then c text = do
  first ← group_then 58 text
  second ← group_then 58 first.1
  third ← group_then 58 second.1
  fourth ← group_then c third.1
  Some (first.0.0 ∷ first.0.1 ∷ second.0.0 ∷ second.0.1 ∷ third.0.0 ∷ third.0.1 ∷ fourth.0.0 ∷ fourth.0.1 ∷ [], fourth.1)

-- an IPv6 address behind its bracket
unfoldable pub v6_in : List ℕ → Option Addr
v6_in text = do
  front ← four_then 58 text
  back ← four_then 93 front.1
  rest ← strip_at 58 back.1
  port ← number_in (2 ^ 16) rest
  Some (V6 (front.0 ++ back.0) port)

-- an IPv6 address where a bracket was opened, else an IPv4 address
abbrev pub by_bracket : List ℕ → Option (List ℕ) → Option Addr
by_bracket text (Some rest) = v6_in rest
by_bracket text None = v4_in text

unfoldable pub addr_in : List ℕ → Option Addr
addr_in text = by_bracket text (strip_at 91 text)
