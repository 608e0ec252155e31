-- What a part of a list takes of the characters that are left.
use Rattle.std.proofs.Common.{◌≡◌, ◌≢◌, ℕ, true, false, ◌==◌, cond, List, [], ◌∷◌, ◌++◌, refl, ap, sym, ◌∙◌, append_assoc, encode_utf8, inl, inr}
use Rattle.std.proofs.lemmas.Bool.{ne_eqb, false≢true, cases_Bool}
use Rattle.lw_link.specs.declared.style.Style.TheVariants.{Any}
use Rattle.lw_link.specs.declared.state.State.{State}
use Rattle.lw_link.specs.declared.state.State.TheVariants.{Start, Target, Closed, Comma, Semicolon, Name, Equals, Word, Quotation, Backslash, Stop}
use Rattle.lw_link.specs.Characters.{is_target_char, is_name_char, is_plain_char, is_quoted_char, is_escaped_char}
use Rattle.lw_link.specs.inner.Machine.{Rest, read_on, next_state, separated, fresh, more_text}
use Rattle.lw_link.specs.inner.Taking.{HoldsText, with_text}
use Rattle.lw_link.proofs.Sound.{same_end}

-- nothing holds a list behind a stop
stopped : (cs : List ℕ) → (read_on Any Stop cs).whole ≡ false
stopped [] = refl
stopped (c ∷ cs) = stopped cs

-- what holds a list goes on
pub goes_on : (s : State) (c : ℕ) (cs : List ℕ) → (read_on Any s (c ∷ cs)).whole ≡ true → next_state Any s c ≢ Stop
goes_on s c cs h stop =
    false≢true (sym (stopped cs) ∙ ap (λ (x : State). (read_on Any x cs).whole) (sym stop) ∙ sym (same_end Any s c (read_on Any (next_state Any s c) cs)) ∙ h)

-- ---- the characters of one text

stays_target : (c : ℕ) (cs : List ℕ) → next_state Any Target c ≡ Target → read_on Any Target (c ∷ cs) ≡ more_text c (read_on Any Target cs)
stays_target c cs =
    elim (is_target_char c) as (λ t. cond t Target (cond (c == 62) Closed Stop) ≡ Target → cond t (more_text c (read_on Any (cond t Target (cond (c == 62) Closed Stop)) cs)) (fresh (read_on Any (cond t Target (cond (c == 62) Closed Stop)) cs)) ≡ more_text c (read_on Any Target cs)) [
      | true ↦ λ e. refl
      | false ↦ elim (c == 62) as (λ u. cond u Closed Stop ≡ Target → fresh (read_on Any (cond u Closed Stop) cs) ≡ more_text c (read_on Any Target cs)) [ true ↦ λ e. absurd cc | false ↦ λ e. absurd cc ]
    ]

separated_other : (c : ℕ) (s : State) → s ≢ Semicolon → s ≢ Comma → s ≢ Stop → separated c ≢ s
separated_other c s semicolon comma stop =
    elim (c == 59) as (λ t. cond t Semicolon (cond (c == 44) Comma Stop) ≢ s) [
      | true ↦ λ e. semicolon (sym e)
      | false ↦ elim (c == 44) as (λ u. cond u Comma Stop ≢ s) [ true ↦ λ e. comma (sym e) | false ↦ λ e. stop (sym e) ]
    ]

name_stays : (c : ℕ) → next_state Any Name c ≡ Name → is_name_char c ≡ true
name_stays c =
    elim (is_name_char c) as (λ t. cond t Name (cond (c == 61) Equals (separated c)) ≡ Name → t ≡ true) [
      | true ↦ λ e. refl
      | false ↦ elim (c == 61) as (λ u. cond u Equals (separated c) ≡ Name → false ≡ true) [
        | true ↦ λ e. absurd cc
        | false ↦ λ e. absurd (separated_other c Name (λ f. absurd cc) (λ f. absurd cc) (λ f. absurd cc) e)
      ]
    ]

word_stays : (c : ℕ) → next_state Any Word c ≡ Word → is_plain_char c ≡ true
word_stays c =
    elim (is_plain_char c) as (λ t. cond t Word (separated c) ≡ Word → t ≡ true) [
      | true ↦ λ e. refl
      | false ↦ λ e. absurd (separated_other c Word (λ f. absurd cc) (λ f. absurd cc) (λ f. absurd cc) e)
    ]

stays : (s : State) (c : ℕ) (cs : List ℕ) → HoldsText s → next_state Any s c ≡ s → read_on Any s (c ∷ cs) ≡ more_text c (read_on Any s cs)
stays Target c cs h e = stays_target c cs e
stays Name c cs h e = rw (name_stays c e) refl
stays Word c cs h e = rw (word_stays c e) refl
stays Start c cs h e = absurd h
stays Closed c cs h e = absurd h
stays Comma c cs h e = absurd h
stays Semicolon c cs h e = absurd h
stays Equals c cs h e = absurd h
stays Quotation c cs h e = absurd h
stays Backslash c cs h e = absurd h
stays Stop c cs h e = absurd h

-- a character more of a text
grown : (text : List ℕ) (c : ℕ) (r : Rest) → with_text text (more_text c r) ≡ with_text (text ++ encode_utf8 c) r
grown text c r = ap (λ (x : List ℕ). record { whole = r.whole; text = x; value = r.value; attrs = r.attrs; links = r.links }) (sym (append_assoc text (encode_utf8 c) r.text))

pub text_more : (s : State) (first old new text next : List ℕ) (c : ℕ) → HoldsText s → old ≡ c ∷ new → next_state Any s c ≡ s → next ≡ text ++ encode_utf8 c
    → read_on Any s first ≡ with_text text (read_on Any s old) → read_on Any s first ≡ with_text next (read_on Any s new)
text_more s first old new text next c holds e same n h =
    h ∙ ap (λ (x : List ℕ). with_text text (read_on Any s x)) e ∙ ap (with_text text) (stays s c new holds same) ∙ grown text c (read_on Any s new) ∙ ap (λ (x : List ℕ). with_text x (read_on Any s new)) (sym n)

-- ---- between quotes

quoted_stays : (c : ℕ) → c ≢ 34 → c ≢ 92 → next_state Any Quotation c ≢ Stop → is_quoted_char c ≡ true
quoted_stays c quote backslash live =
    elim (cases_Bool (is_quoted_char c)) [
      | inl t ↦ t
      | inr f ↦ absurd (live (rw (f, ne_eqb c 34 quote, ne_eqb c 92 backslash) refl))
    ]

escape_stays : (c : ℕ) → next_state Any Backslash c ≢ Stop → is_escaped_char Any c ≡ true
escape_stays c live =
    elim (cases_Bool (is_escaped_char Any c)) [
      | inl t ↦ t
      | inr f ↦ absurd (live (rw f refl))
    ]

pub plain_item : (c : ℕ) (new : List ℕ) → c ≢ 34 → c ≢ 92 → (read_on Any Quotation (c ∷ new)).whole ≡ true → read_on Any Quotation (c ∷ new) ≡ more_text c (read_on Any Quotation new)
plain_item c new quote backslash whole =
    let here : is_quoted_char c ≡ true = quoted_stays c quote backslash (goes_on Quotation c new whole) in
    rw here refl

pub escaped_item : (first : ℕ) (old new : List ℕ) (c : ℕ) → first ≡ 92 → old ≡ c ∷ new → (read_on Any Quotation (first ∷ old)).whole ≡ true → read_on Any Quotation (first ∷ old) ≡ more_text c (read_on Any Quotation new)
escaped_item first old new c is e whole =
    let same : first ∷ old ≡ 92 ∷ c ∷ new = ap (λ (x : ℕ). x ∷ old) is ∙ ap (λ (x : List ℕ). 92 ∷ x) e in
    let seen : (read_on Any Backslash (c ∷ new)).whole ≡ true = ap (λ (x : List ℕ). (read_on Any Quotation x).whole) (sym same) ∙ whole in
    let here : is_escaped_char Any c ≡ true = escape_stays c (goes_on Backslash c new seen) in
    let step : read_on Any Quotation (92 ∷ c ∷ new) ≡ more_text c (read_on Any Quotation new) = rw here refl in
    ap (read_on Any Quotation) same ∙ step

-- a backslash at the end holds no list
pub open_escape : (first : ℕ) (old : List ℕ) → first ≡ 92 → old ≡ [] → (read_on Any Quotation (first ∷ old)).whole ≡ true → ⊥
open_escape first old is e whole =
    let same : first ∷ old ≡ 92 ∷ [] = ap (λ (x : ℕ). x ∷ old) is ∙ ap (λ (x : List ℕ). 92 ∷ x) e in
    false≢true (ap (λ (x : List ℕ). (read_on Any Quotation x).whole) (sym same) ∙ whole)

-- behind a text that has begun, what is left holds a list too
pub still_whole : (first old new text : List ℕ) (c : ℕ) → old ≡ c ∷ new → (read_on Any Quotation first).whole ≡ true → read_on Any Quotation first ≡ with_text text (read_on Any Quotation old) → (read_on Any Quotation (c ∷ new)).whole ≡ true
still_whole first old new text c e whole h = ap (λ (x : List ℕ). (read_on Any Quotation x).whole) (sym e) ∙ ap (λ (r : Rest). r.whole) (sym h) ∙ whole

-- an item more of a text
pub item_more : (first old mid new text next : List ℕ) (b c : ℕ) → old ≡ b ∷ mid → read_on Any Quotation (b ∷ mid) ≡ more_text c (read_on Any Quotation new) → next ≡ text ++ encode_utf8 c
    → read_on Any Quotation first ≡ with_text text (read_on Any Quotation old) → read_on Any Quotation first ≡ with_text next (read_on Any Quotation new)
item_more first old mid new text next b c e step n h =
    h ∙ ap (λ (x : List ℕ). with_text text (read_on Any Quotation x)) e ∙ ap (with_text text) step ∙ grown text c (read_on Any Quotation new) ∙ ap (λ (x : List ℕ). with_text x (read_on Any Quotation new)) (sym n)
