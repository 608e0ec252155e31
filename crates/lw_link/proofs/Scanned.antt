-- Walking a text through the states, as far as it has come.
use Rattle.std.proofs.Common.{◌≡◌, ◌≢◌, ℕ, ◌+◌, ◌≤◌, Bool, true, false, ◌==◌, cond, List, [], ◌∷◌, ◌++◌, length, refl, ap, sym, ◌∙◌, append_assoc, inl, inr, arith, chars, IsUtf8, encode_utf8, encode_utf8_all, length-append}
use Rattle.std.specs.Char.{len_utf8}
use Rattle.std.proofs.lemmas.List.{append-nil}
use Rattle.std.proofs.lemmas.Str.{encodes-chars, encodes-append, length-encode, len_utf8_bounds}
use Rattle.lw_link.specs.declared.style.Style.{Style}
use Rattle.lw_link.specs.declared.state.State.{State}
use Rattle.lw_link.specs.declared.state.State.TheVariants.{Start, Target, Closed, Comma, Semicolon, Name, Equals, Word, Quotation, Backslash, Stop}
use Rattle.lw_link.specs.declared.link.AttrValue.TheVariants.{Plain, Quoted}
use Rattle.lw_link.specs.Characters.{is_target_char, is_name_char, is_plain_char, is_quoted_char}
use Rattle.lw_link.specs.inner.Machine.{Rest, read_on, next_state, before, opens_link, is_end, run, fresh, more_text, with_link, with_attr, with_value, Leaves}
use Rattle.lw_link.proofs.Sound.{same_end}

pub run-append : (k : Style) (s : State) (xs ys : List ℕ) → run k s (xs ++ ys) ≡ run k (run k s xs) ys
run-append k s [] ys = refl
run-append k s (c ∷ xs) ys = run-append k (next_state k s c) xs ys

-- how many links a character opens
abbrev pub opened : State → ℕ → ℕ
opened s c = cond (opens_link s c) 1 0

pub opened_le : (s : State) (c : ℕ) → opened s c ≤ 1
opened_le s c = elim (opens_link s c) as (λ t. cond t 1 0 ≤ 1) [ true ↦ omega arith | false ↦ omega arith ]

counted : (k : Style) (s : State) (c : ℕ) (r : Rest) → opened s c + length r.links ≡ length (before k s c r).links
counted k Start c r = elim (c == 60) as (λ t. cond t 1 0 + length r.links ≡ length (cond t (with_link r) (fresh r)).links) [ true ↦ omega arith | false ↦ omega arith ]
counted k Target c r = elim (is_target_char c) as (λ t. 0 + length r.links ≡ length (cond t (more_text c r) (fresh r)).links) [ true ↦ omega arith | false ↦ omega arith ]
counted k Closed c r = omega arith
counted k Comma c r = elim (c == 60) as (λ t. cond t 1 0 + length r.links ≡ length (cond t (with_link r) r).links) [ true ↦ omega arith | false ↦ omega arith ]
counted k Semicolon c r = elim (is_name_char c) as (λ t. 0 + length r.links ≡ length (cond t (with_attr c r) r).links) [ true ↦ omega arith | false ↦ omega arith ]
counted k Name c r =
    elim (is_name_char c) as (λ t. 0 + length r.links ≡ length (cond t (more_text c r) (cond (c == 61) (with_value r.value r) (fresh r))).links) [
      | true ↦ omega arith
      | false ↦ elim (c == 61) as (λ t. 0 + length r.links ≡ length (cond t (with_value r.value r) (fresh r)).links) [ true ↦ omega arith | false ↦ omega arith ]
    ]
counted k Equals c r = elim (is_plain_char c) as (λ t. 0 + length r.links ≡ length (cond t (with_value (Plain (encode_utf8 c ++ r.text)) r) (with_value (Quoted r.text) r)).links) [ true ↦ omega arith | false ↦ omega arith ]
counted k Word c r = elim (is_plain_char c) as (λ t. 0 + length r.links ≡ length (cond t (more_text c r) (fresh r)).links) [ true ↦ omega arith | false ↦ omega arith ]
counted k Quotation c r =
    elim (is_quoted_char c) as (λ t. 0 + length r.links ≡ length (cond t (more_text c r) (cond (c == 34) (fresh r) r)).links) [
      | true ↦ omega arith
      | false ↦ elim (c == 34) as (λ t. 0 + length r.links ≡ length (cond t (fresh r) r).links) [ true ↦ omega arith | false ↦ omega arith ]
    ]
counted k Backslash c r = omega arith
counted k Stop c r = omega arith

-- the state, the links and the place behind the characters that were taken
pub record IsScanned (style : Style) (text : List ℕ) (state : State) (links place : ℕ) (left : List ℕ) : Type 0 where
  pub front : List ℕ
  pub chars_are : chars text ≡ front ++ left
  pub place_is : place ≡ length (encode_utf8_all front)
  pub state_is : run style Start front ≡ state
  pub alive : state ≢ Stop
  pub whole : (read_on style state left).whole ≡ (read_on style Start (chars text)).whole
  pub count : links + length (read_on style state left).links ≡ length (read_on style Start (chars text)).links
  pub room : place + length (encode_utf8_all left) ≡ length text
  pub few : links ≤ place

pub scanned_start : (k : Style) (text : List ℕ) → IsUtf8 text → IsScanned k text Start 0 0 (chars text)
scanned_start k text u = record {
  front = [];
  chars_are = refl;
  place_is = refl;
  state_is = refl;
  alive = λ e. absurd cc;
  whole = refl;
  count = omega arith;
  room = omega (arith, ap length (encodes-chars text u));
  few = omega arith;
}

length_snoc : (front : List ℕ) (c : ℕ) → length (encode_utf8_all (front ++ c ∷ [])) ≡ length (encode_utf8_all front) + len_utf8 c
length_snoc front c =
    ap length (encodes-append front (c ∷ []))
    ∙ length-append (encode_utf8_all front) (encode_utf8 c ++ [])
    ∙ ap (λ (x : List ℕ). length (encode_utf8_all front) + length x) (append-nil (encode_utf8 c))
    ∙ ap (λ (n : ℕ). length (encode_utf8_all front) + n) (length-encode c)

length_cons : (c : ℕ) (cs : List ℕ) → length (encode_utf8_all (c ∷ cs)) ≡ len_utf8 c + length (encode_utf8_all cs)
length_cons c cs = length-append (encode_utf8 c) (encode_utf8_all cs) ∙ ap (λ (n : ℕ). n + length (encode_utf8_all cs)) (length-encode c)

pub scanned_more : (k : Style) (text : List ℕ) (s : State) (links place : ℕ) (old new : List ℕ) (c : ℕ) → old ≡ c ∷ new → next_state k s c ≢ Stop → IsScanned k text s links place old
    → IsScanned k text (next_state k s c) (links + opened s c) (place + len_utf8 c) new
scanned_more k text s links place old new c e live h =
    let next = next_state k s c in
    let behind : Rest = read_on k next new in
    let seen : read_on k s old ≡ before k s c behind = ap (read_on k s) e in
    record {
      front = h.front ++ c ∷ [];
      chars_are = h.chars_are ∙ ap (λ (x : List ℕ). h.front ++ x) e ∙ sym (append_assoc h.front (c ∷ []) new);
      place_is = ap (λ (n : ℕ). n + len_utf8 c) h.place_is ∙ sym (length_snoc h.front c);
      state_is = run-append k Start h.front (c ∷ []) ∙ ap (λ (x : State). next_state k x c) h.state_is;
      alive = live;
      whole = sym (same_end k s c behind) ∙ sym (ap (λ (r : Rest). r.whole) seen) ∙ h.whole;
      count = omega (arith, counted k s c behind, ap (λ (r : Rest). length r.links) seen, h.count);
      room = omega (arith, h.room, ap (λ (x : List ℕ). length (encode_utf8_all x)) e, length_cons c new);
      few = omega (arith, h.few, len_utf8_bounds c, opened_le s c);
    }

pub scanned_stop : (k : Style) (text : List ℕ) (s : State) (links place : ℕ) (old new : List ℕ) (c : ℕ) → old ≡ c ∷ new → next_state k s c ≡ Stop → IsScanned k text s links place old → Leaves k (chars text) place
scanned_stop k text s links place old new c e stop h = record {
  front = h.front;
  rest = old;
  chars_are = h.chars_are;
  place_is = h.place_is;
  alive = λ f. h.alive (sym h.state_is ∙ f);
  cause = inr (c, new, e, ap (λ (x : State). next_state k x c) h.state_is ∙ stop);
}

pub scanned_open : (k : Style) (text : List ℕ) (s : State) (links place : ℕ) (old : List ℕ) → old ≡ [] → is_end s ≡ false → IsScanned k text s links place old → Leaves k (chars text) place
scanned_open k text s links place old e end h = record {
  front = h.front;
  rest = old;
  chars_are = h.chars_are;
  place_is = h.place_is;
  alive = λ f. h.alive (sym h.state_is ∙ f);
  cause = inl (e, ap is_end h.state_is ∙ end);
}

pub scanned_whole : (k : Style) (text : List ℕ) (s : State) (links place : ℕ) (old : List ℕ) → old ≡ [] → is_end s ≡ true → IsScanned k text s links place old
    → ((read_on k Start (chars text)).whole ≡ true) × (links ≡ length (read_on k Start (chars text)).links)
scanned_whole k text s links place old e end h =
    let seen : read_on k s old ≡ read_on k s [] = ap (read_on k s) e in
    (sym h.whole ∙ ap (λ (r : Rest). r.whole) seen ∙ end, omega (arith, h.count, ap (λ (r : Rest). length r.links) seen))

pub scanned_next : (k : Style) (text : List ℕ) (s next : State) (links links_next place place_next : ℕ) (old new : List ℕ) (c : ℕ) → old ≡ c ∷ new
    → next ≡ next_state k s c → next ≢ Stop → links_next ≡ links + opened s c → place_next ≡ place + len_utf8 c → IsScanned k text s links place old → IsScanned k text next links_next place_next new
scanned_next k text s next links links_next place place_next old new c e n live l p h =
    rw (n, l, p) (scanned_more k text s links place old new c e (λ f. live (n ∙ f)) h)

pub opened_true : (s : State) (c : ℕ) (b : Bool) (n m : ℕ) → b ≡ opens_link s c → b ≡ true → n ≡ m + 1 → n ≡ m + opened s c
opened_true s c b n m e t h = h ∙ ap (λ (x : Bool). m + cond x 1 0) (sym t ∙ e)

pub opened_false : (s : State) (c : ℕ) (b : Bool) (n m : ℕ) → b ≡ opens_link s c → b ≡ false → n ≡ m → n ≡ m + opened s c
opened_false s c b n m e t h =
    let none : n ≡ m + cond false 1 0 = omega arith in
    none ∙ ap (λ (x : Bool). m + cond x 1 0) (sym t ∙ e)
