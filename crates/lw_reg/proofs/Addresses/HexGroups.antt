-- Groups of hex digits as they are printed and read.
use Rattle.std.proofs.Common.{◌≡◌, ◌≢◌, ℕ, zero, suc, ◌+◌, ◌-◌, ◌*◌, ◌/◌, ◌%◌, ◌<◌, ◌≤◌, false, ◌&&◌, leb, List, [], ◌∷◌, ◌++◌, get_or, Some, refl, sym, ap, ◌∙◌, arith, inl, inr}
use Rattle.std.specs.Fmt.{digit_glyph}
use Rattle.std.proofs.lemmas.Bool.{and_parts, and_right, leb-true, le-leb, lt-leb, lt-ltb, le-ltb, cases_Bool, cases_lt}
use Rattle.lw_reg.specs.Addr.{hex_text}
use Rattle.lw_reg.specs.inner.Addr.Reading.{◌>>=◌, cut_at, hex_value, byte_in, group_in, group_then, four_then}
use Rattle.lw_reg.proofs.Addresses.Cuts.{Lacks, bind_some, some_is, guard_some, cut_at-first, cut_at_parts}

-- a digit that is read is printed so
hex_value_glyph : (c d : ℕ) → hex_value c ≡ Some d → (c ≡ digit_glyph false d) × (d < 16)
hex_value_glyph c d e =
    elim (cases_Bool (leb 48 c && leb c 57)) [
      | inl decimal_digit ↦
          let b = and_parts (leb 48 c) (leb c 57) decimal_digit in
          let low : 48 ≤ c = leb-true 48 c b.0 in
          let high : c ≤ 57 = leb-true c 57 b.1 in
          let v : c - 48 ≡ d = some_is (c - 48) d (rw decimal_digit at e) in
          (sym (rw (lt-ltb d 10 (omega arith)) (omega arith)), omega arith)
      | inr other ↦
          let g = guard_some (leb 97 c && leb c 102) (c - 87) d (rw other at e) in
          let b = and_parts (leb 97 c) (leb c 102) g.0 in
          let low : 97 ≤ c = leb-true 97 c b.0 in
          let high : c ≤ 102 = leb-true c 102 b.1 in
          let v : c - 87 ≡ d = g.1 in
          (sym (rw (le-ltb d 10 (omega arith)) (omega arith)), omega arith)
    ]

-- a digit that is printed is read
hex_value-glyph : (d : ℕ) → d < 16 → hex_value (digit_glyph false d) ≡ Some d
hex_value-glyph d lt =
    elim (cases_lt d 10) [
      | inl small ↦
          rw (lt-ltb d 10 small, le-leb 48 (48 + d) (omega arith), le-leb (48 + d) 57 (omega arith)) (ap (λ (n : ℕ). Some n) (omega arith))
      | inr large ↦
          rw (le-ltb d 10 large, lt-leb (87 + d) 57 (omega arith), and_right (leb 48 (87 + d)) false refl, le-leb 97 (87 + d) (omega arith), le-leb (87 + d) 102 (omega arith)) (ap (λ (n : ℕ). Some n) (omega arith))
    ]

glyph_in_range : (d : ℕ) → d < 16 → (48 ≤ digit_glyph false d) × (digit_glyph false d ≤ 102) × (digit_glyph false d ≢ 58) × (digit_glyph false d ≢ 93)
glyph_in_range d lt =
    elim (cases_lt d 10) [
      | inl small ↦ rw (lt-ltb d 10 small) (omega arith, omega arith, omega arith, omega arith)
      | inr large ↦ rw (le-ltb d 10 large) (omega arith, omega arith, omega arith, omega arith)
    ]

byte_in_text : (a b n : ℕ) → byte_in a b ≡ Some n → (hex_text n ≡ a ∷ b ∷ []) × (n < 256)
unfolding byte_in
byte_in_text a b n e =
    let x = bind_some (hex_value a) (λ high. hex_value b >>= λ low. Some (16 * high + low)) n e in
    let y = bind_some (hex_value b) (λ low. Some (16 * x.0 + low)) n x.2 in
    let high = hex_value_glyph a x.0 x.1 in
    let low = hex_value_glyph b y.0 y.1 in
    let v : 16 * x.0 + y.0 ≡ n = some_is _ _ y.2 in
    let front : n / 16 ≡ x.0 = omega (arith, high.1, low.1) in
    let back : n % 16 ≡ y.0 = omega (arith, high.1, low.1) in
    ((λ i. (ap (digit_glyph false) front ∙ sym high.0) i ∷ (ap (digit_glyph false) back ∙ sym low.0) i ∷ []), omega (arith, high.1, low.1))

byte_in-glyphs : (n : ℕ) → n < 256 → byte_in (digit_glyph false (n / 16)) (digit_glyph false (n % 16)) ≡ Some n
unfolding byte_in
byte_in-glyphs n lt =
    rw (hex_value-glyph (n / 16) (omega arith), hex_value-glyph (n % 16) (omega arith)) (ap (λ (m : ℕ). Some m) (omega arith))

group_in_text : (text : List ℕ) (x : ℕ × ℕ) → group_in text ≡ Some x → (text ≡ hex_text x.0 ++ hex_text x.1) × (x.0 < 256) × (x.1 < 256)
unfolding group_in
group_in_text (a ∷ b ∷ c ∷ d ∷ []) x e =
    let p = bind_some (byte_in a b) (λ high. byte_in c d >>= λ low. Some (high, low)) x e in
    let q = bind_some (byte_in c d) (λ low. Some (p.0, low)) x p.2 in
    let high = byte_in_text a b p.0 p.1 in
    let low = byte_in_text c d q.0 q.1 in
    let v = some_is (p.0, q.0) x q.2 in
    ((λ i. (sym high.0) i ++ (sym low.0) i) ∙ ap (λ (y : ℕ × ℕ). hex_text y.0 ++ hex_text y.1) v, omega (arith, high.1, ap (λ (y : ℕ × ℕ). y.0) v), omega (arith, low.1, ap (λ (y : ℕ × ℕ). y.1) v))
group_in_text [] x e = absurd cc
group_in_text (a ∷ []) x e = absurd cc
group_in_text (a ∷ b ∷ []) x e = absurd cc
group_in_text (a ∷ b ∷ c ∷ []) x e = absurd cc
group_in_text (a ∷ b ∷ c ∷ d ∷ f ∷ text) x e = absurd cc

pub group_then_text : (c : ℕ) (text : List ℕ) (x : (ℕ × ℕ) × List ℕ) → group_then c text ≡ Some x → (text ≡ (hex_text x.0.0 ++ hex_text x.0.1) ++ (c ∷ x.1)) × (x.0.0 < 256) × (x.0.1 < 256)
unfolding group_then
group_then_text c text x e =
    let a = bind_some (cut_at c text) (λ y. group_in y.0 >>= λ g. Some (g, y.1)) x e in
    let b = bind_some (group_in a.0.0) (λ g. Some (g, a.0.1)) x a.2 in
    let g = group_in_text a.0.0 b.0 b.1 in
    let v = some_is (b.0, a.0.1) x b.2 in (
      cut_at_parts c text a.0 a.1 ∙ ap (λ (t : List ℕ). t ++ (c ∷ a.0.1)) g.0 ∙ ap (λ (y : (ℕ × ℕ) × List ℕ). (hex_text y.0.0 ++ hex_text y.0.1) ++ (c ∷ y.1)) v,
      omega (arith, g.1, ap (λ (y : (ℕ × ℕ) × List ℕ). y.0.0) v),
      omega (arith, g.2, ap (λ (y : (ℕ × ℕ) × List ℕ). y.0.1) v),
    )

-- what may follow a group
pub data IsMark : ℕ → Type 0 where
  colon : IsMark 58
  bracket : IsMark 93

other_than_mark : (c d : ℕ) → IsMark c → d < 16 → digit_glyph false d ≢ c
other_than_mark _ d colon lt = (glyph_in_range d lt).2
other_than_mark _ d bracket lt = (glyph_in_range d lt).3

lacks_four : (c x y z w : ℕ) → x ≢ c → y ≢ c → z ≢ c → w ≢ c → Lacks c (x ∷ y ∷ z ∷ w ∷ [])
lacks_four c x y z w hx hy hz hw zero lt = hx
lacks_four c x y z w hx hy hz hw (suc zero) lt = hy
lacks_four c x y z w hx hy hz hw (suc (suc zero)) lt = hz
lacks_four c x y z w hx hy hz hw (suc (suc (suc zero))) lt = hw
lacks_four c x y z w hx hy hz hw (suc (suc (suc (suc i)))) lt = absurd (omega arith)

pub group_then-text : (c a b : ℕ) (rest : List ℕ) → IsMark c → a < 256 → b < 256 → group_then c ((hex_text a ++ hex_text b) ++ (c ∷ rest)) ≡ Some ((a, b), rest)
unfolding group_then group_in
group_then-text c a b rest mark fa fb =
    let lacks : Lacks c (hex_text a ++ hex_text b) = lacks_four c _ _ _ _ (other_than_mark c (a / 16) mark (omega arith)) (other_than_mark c (a % 16) mark (omega arith)) (other_than_mark c (b / 16) mark (omega arith)) (other_than_mark c (b % 16) mark (omega arith)) in
    rw (cut_at-first c (hex_text a ++ hex_text b) rest lacks, byte_in-glyphs a fa, byte_in-glyphs b fb) refl

abbrev pub HasBytes : List ℕ → Type 0
HasBytes xs = (k : ℕ) → get_or xs k 0 < 256

pub none_below : HasBytes []
none_below k = omega arith

pub more_below : (x : ℕ) (xs : List ℕ) → x < 256 → HasBytes xs → HasBytes (x ∷ xs)
more_below x xs h t zero = h
more_below x xs h t (suc k) = t k

-- four groups with colons between them, and what follows
abbrev pub four_text : (a b c d e f g h : ℕ) → List ℕ → List ℕ
four_text a b c d e f g h tail = (hex_text a ++ hex_text b) ++ (58 ∷ ((hex_text c ++ hex_text d) ++ (58 ∷ ((hex_text e ++ hex_text f) ++ (58 ∷ ((hex_text g ++ hex_text h) ++ tail))))))

-- eight bytes
pub record AreBytes (a b c d e f g h : ℕ) : Type 0 where
  pub at_a : a < 256
  pub at_b : b < 256
  pub at_c : c < 256
  pub at_d : d < 256
  pub at_e : e < 256
  pub at_f : f < 256
  pub at_g : g < 256
  pub at_h : h < 256

pub eight_below : (a b c d e f g h : ℕ) (tail : List ℕ) → AreBytes a b c d e f g h → HasBytes tail → HasBytes (a ∷ b ∷ c ∷ d ∷ e ∷ f ∷ g ∷ h ∷ tail)
eight_below a b c d e f g h tail r t =
    more_below a (b ∷ c ∷ d ∷ e ∷ f ∷ g ∷ h ∷ tail) r.at_a (more_below b (c ∷ d ∷ e ∷ f ∷ g ∷ h ∷ tail) r.at_b (more_below c (d ∷ e ∷ f ∷ g ∷ h ∷ tail) r.at_c (more_below d (e ∷ f ∷ g ∷ h ∷ tail) r.at_d (
    more_below e (f ∷ g ∷ h ∷ tail) r.at_e (more_below f (g ∷ h ∷ tail) r.at_f (more_below g (h ∷ tail) r.at_g (more_below h tail r.at_h t)))))))

pub record ReadsFour (c : ℕ) (text : List ℕ) (x : List ℕ × List ℕ) : Type 0 where
  pub first : ℕ × ℕ
  pub second : ℕ × ℕ
  pub third : ℕ × ℕ
  pub fourth : ℕ × ℕ
  pub bytes : x.0 ≡ first.0 ∷ first.1 ∷ second.0 ∷ second.1 ∷ third.0 ∷ third.1 ∷ fourth.0 ∷ fourth.1 ∷ []
  pub parts : text ≡ four_text first.0 first.1 second.0 second.1 third.0 third.1 fourth.0 fourth.1 (c ∷ x.1)
  pub below : AreBytes first.0 first.1 second.0 second.1 third.0 third.1 fourth.0 fourth.1

pub four_then_text : (c : ℕ) (text : List ℕ) (x : List ℕ × List ℕ) → four_then c text ≡ Some x → ReadsFour c text x
unfolding four_then
four_then_text c text x e =
    let p = bind_some (group_then 58 text) (λ first. group_then 58 first.1 >>= λ second. group_then 58 second.1 >>= λ third. group_then c third.1 >>= λ fourth. Some (first.0.0 ∷ first.0.1 ∷ second.0.0 ∷ second.0.1 ∷ third.0.0 ∷ third.0.1 ∷ fourth.0.0 ∷ fourth.0.1 ∷ [], fourth.1)) x e in
    let q = bind_some (group_then 58 p.0.1) (λ second. group_then 58 second.1 >>= λ third. group_then c third.1 >>= λ fourth. Some (p.0.0.0 ∷ p.0.0.1 ∷ second.0.0 ∷ second.0.1 ∷ third.0.0 ∷ third.0.1 ∷ fourth.0.0 ∷ fourth.0.1 ∷ [], fourth.1)) x p.2 in
    let r = bind_some (group_then 58 q.0.1) (λ third. group_then c third.1 >>= λ fourth. Some (p.0.0.0 ∷ p.0.0.1 ∷ q.0.0.0 ∷ q.0.0.1 ∷ third.0.0 ∷ third.0.1 ∷ fourth.0.0 ∷ fourth.0.1 ∷ [], fourth.1)) x q.2 in
    let s = bind_some (group_then c r.0.1) (λ fourth. Some (p.0.0.0 ∷ p.0.0.1 ∷ q.0.0.0 ∷ q.0.0.1 ∷ r.0.0.0 ∷ r.0.0.1 ∷ fourth.0.0 ∷ fourth.0.1 ∷ [], fourth.1)) x r.2 in
    let v = some_is (p.0.0.0 ∷ p.0.0.1 ∷ q.0.0.0 ∷ q.0.0.1 ∷ r.0.0.0 ∷ r.0.0.1 ∷ s.0.0.0 ∷ s.0.0.1 ∷ [], s.0.1) x s.2 in
    let g1 = group_then_text 58 text p.0 p.1 in
    let t1 = g1.0 in
    let g2 = group_then_text 58 p.0.1 q.0 q.1 in
    let t2 = g2.0 in
    let g3 = group_then_text 58 q.0.1 r.0 r.1 in
    let t3 = g3.0 in
    let g4 = group_then_text c r.0.1 s.0 s.1 in
    let t4 = g4.0 in
    record {
      first = p.0.0;
      second = q.0.0;
      third = r.0.0;
      fourth = s.0.0;
      bytes = ap (λ (y : List ℕ × List ℕ). y.0) (sym v);
      parts = t1
          ∙ ap (λ (t : List ℕ). (hex_text p.0.0.0 ++ hex_text p.0.0.1) ++ (58 ∷ t)) t2
          ∙ ap (λ (t : List ℕ). (hex_text p.0.0.0 ++ hex_text p.0.0.1) ++ (58 ∷ ((hex_text q.0.0.0 ++ hex_text q.0.0.1) ++ (58 ∷ t)))) t3
          ∙ ap (λ (t : List ℕ). (hex_text p.0.0.0 ++ hex_text p.0.0.1) ++ (58 ∷ ((hex_text q.0.0.0 ++ hex_text q.0.0.1) ++ (58 ∷ ((hex_text r.0.0.0 ++ hex_text r.0.0.1) ++ (58 ∷ t)))))) t4
          ∙ ap (λ (y : List ℕ × List ℕ). four_text p.0.0.0 p.0.0.1 q.0.0.0 q.0.0.1 r.0.0.0 r.0.0.1 s.0.0.0 s.0.0.1 (c ∷ y.1)) v;
      below = record { at_a = g1.1; at_b = g1.2; at_c = g2.1; at_d = g2.2; at_e = g3.1; at_f = g3.2; at_g = g4.1; at_h = g4.2 };
    }

pub four_then-text : (mark a b c d e f g h : ℕ) (rest : List ℕ) → IsMark mark → AreBytes a b c d e f g h → four_then mark (four_text a b c d e f g h (mark ∷ rest)) ≡ Some (a ∷ b ∷ c ∷ d ∷ e ∷ f ∷ g ∷ h ∷ [], rest)
unfolding four_then
four_then-text mark a b c d e f g h rest is_mark fits =
    let last = (hex_text g ++ hex_text h) ++ (mark ∷ rest) in
    let third = (hex_text e ++ hex_text f) ++ (58 ∷ last) in
    let second = (hex_text c ++ hex_text d) ++ (58 ∷ third) in
    rw (
      group_then-text 58 a b second colon fits.at_a fits.at_b,
      group_then-text 58 c d third colon fits.at_c fits.at_d,
      group_then-text 58 e f last colon fits.at_e fits.at_f,
      group_then-text mark g h rest is_mark fits.at_g fits.at_h,
    ) refl
