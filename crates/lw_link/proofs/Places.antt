-- The place where a text leaves the grammar.
use Rattle.std.proofs.Common.{◌≡◌, ◌≢◌, ℕ, ◌+◌, ◌<◌, ◌≤◌, ◌⊎◌, true, false, List, [], ◌∷◌, ◌++◌, length, take, drop, refl, ap, subst, sym, ◌∙◌, append_assoc, inl, inr, arith, chars, IsUtf8, encode_utf8_all, length-append}
use Rattle.std.specs.Str.{all_scalars}
use Rattle.std.proofs.lemmas.Bool.{and_parts, and_from, false≢true}
use Rattle.std.proofs.lemmas.List.{append-nil, take-append-drop, length-take-le}
use Rattle.std.proofs.Math.Seq.{take-append_seam}
use Rattle.std.proofs.lemmas.Str.{encodes-chars, encodes-append, scalars-chars, chars-append, chars-encodes}
use Rattle.lw_link.specs.declared.style.Style.{Style}
use Rattle.lw_link.specs.declared.style.Style.TheVariants.{Any}
use Rattle.lw_link.specs.declared.state.State.{State}
use Rattle.lw_link.specs.declared.state.State.TheVariants.{Start, Target, Closed, Comma, Semicolon, Name, Equals, Word, Quotation, Backslash, Stop}
use Rattle.lw_link.specs.Link.{LinkContent}
use Rattle.lw_link.specs.Grammar.{IsList}
use Rattle.lw_link.specs.inner.Machine.{Rest, read_on, next_state, is_end, run, Leaves}
use Rattle.lw_link.specs.Spelling.{Spells}
use Rattle.lw_link.specs.Faults.{Begins, IsPlace}
use Rattle.lw_link.proofs.Complete.{list_held}
use Rattle.lw_link.proofs.Sound.{same_end, whole_are}

pub scalars-parts : (xs ys : List ℕ) → all_scalars (xs ++ ys) ≡ true → (all_scalars xs ≡ true) × (all_scalars ys ≡ true)
scalars-parts [] ys h = (refl, h)
scalars-parts (x ∷ xs) ys h =
    let p = and_parts _ (all_scalars (xs ++ ys)) h in
    let q = scalars-parts xs ys p.1 in
    (and_from _ (all_scalars xs) p.0 q.0, q.1)

pub scalars-append : (xs ys : List ℕ) → all_scalars xs ≡ true → all_scalars ys ≡ true → all_scalars (xs ++ ys) ≡ true
scalars-append [] ys h k = k
scalars-append (x ∷ xs) ys h k =
    let p = and_parts _ (all_scalars xs) h in
    and_from _ (all_scalars (xs ++ ys)) p.0 (scalars-append xs ys p.1 k)

pub stopped : (k : Style) (cs : List ℕ) → (read_on k Stop cs).whole ≡ false
stopped k [] = refl
stopped k (c ∷ cs) = stopped k cs

-- the end of a list does not depend on what was read before
whole-append : (k : Style) (s : State) (xs ys : List ℕ) → (read_on k s (xs ++ ys)).whole ≡ (read_on k (run k s xs) ys).whole
whole-append k s [] ys = refl
whole-append k s (c ∷ xs) ys = same_end k s c (read_on k (next_state k s c) (xs ++ ys)) ∙ whole-append k (next_state k s c) xs ys

stops : (k : Style) (s : State) (c : ℕ) (cs : List ℕ) → next_state k s c ≡ Stop → (read_on k s (c ∷ cs)).whole ≡ false
stops k s c cs h =
    same_end k s c (read_on k (next_state k s c) cs) ∙ ap (λ (x : State). (read_on k x cs).whole) h ∙ stopped k cs

pub leaves_not_whole : (k : Style) (cs : List ℕ) (place : ℕ) → Leaves k cs place → (read_on k Start cs).whole ≡ false
leaves_not_whole k cs place h =
    ap (λ (x : List ℕ). (read_on k Start x).whole) h.chars_are ∙ whole-append k Start h.front h.rest
    ∙ (elim h.cause [
      | inl (e, end) ↦ ap (λ (x : List ℕ). (read_on k (run k Start h.front) x).whole) e ∙ end
      | inr (c, more, e, stop) ↦ ap (λ (x : List ℕ). (read_on k (run k Start h.front) x).whole) e ∙ stops k (run k Start h.front) c more stop
    ])

-- some characters end a list from each state but the last
completed : (s : State) → s ≢ Stop → (tail : List ℕ) × (all_scalars tail ≡ true) × ((read_on Any s tail).whole ≡ true)
completed Start h = (60 ∷ 62 ∷ [], refl, refl)
completed Target h = (62 ∷ [], refl, refl)
completed Closed h = ([], refl, refl)
completed Comma h = (60 ∷ 62 ∷ [], refl, refl)
completed Semicolon h = (97 ∷ [], refl, refl)
completed Name h = ([], refl, refl)
completed Equals h = (97 ∷ [], refl, refl)
completed Word h = ([], refl, refl)
completed Quotation h = (34 ∷ [], refl, refl)
completed Backslash h = (97 ∷ 34 ∷ [], refl, refl)
completed Stop h = absurd (h refl)

pub spelled : (cs : List ℕ) → all_scalars cs ≡ true → (read_on Any Start cs).whole ≡ true → Spells (encode_utf8_all cs) (read_on Any Start cs).links
spelled cs u h =
    let is : IsList Any cs (read_on Any Start cs).links = whole_are Any cs Start h in
    ((cs, (u, refl)), subst (λ (x : List ℕ). IsList Any x (read_on Any Start cs).links) (sym (chars-encodes cs u)) is)

begun : (front : List ℕ) → all_scalars front ≡ true → run Any Start front ≢ Stop → Begins (encode_utf8_all front)
begun front u live =
    let tail = completed (run Any Start front) live in
    let cs = front ++ tail.0 in (
      encode_utf8_all tail.0,
      (read_on Any Start cs).links,
      subst (λ (x : List ℕ). Spells x (read_on Any Start cs).links) (encodes-append front tail.0) (spelled cs (scalars-append front tail.0 u tail.1) (whole-append Any Start front tail.0 ∙ tail.2)),
    )

-- of two fronts of a text one goes on with the other
fronts : (xs ys front : List ℕ) (c : ℕ) (more : List ℕ) → xs ++ ys ≡ front ++ c ∷ more → ((z : List ℕ) × (xs ≡ front ++ c ∷ z)) ⊎ ((z : List ℕ) × (front ≡ xs ++ z))
fronts [] ys front c more e = inr (front, refl)
fronts (x ∷ xs) ys [] c more e = inl (xs, cc)
fronts (x ∷ xs) ys (f ∷ front) c more e =
    let tails : xs ++ ys ≡ front ++ c ∷ more = cc in
    let heads : x ≡ f = cc in
    elim (fronts xs ys front c more tails) [
      | inl (z, h) ↦ inl (z, (λ i. heads i ∷ h i))
      | inr (z, h) ↦ inr (z, (λ i. sym heads i ∷ h i))
    ]

-- no list begins with a front that the next character stops
none_begins : (text front : List ℕ) (c : ℕ) (z : List ℕ) → IsUtf8 text → chars text ≡ front ++ c ∷ z → next_state Any (run Any Start front) c ≡ Stop → Begins text → ⊥
none_begins text front c z u e stop (rest, links, spells) =
    let cs : chars (text ++ rest) ≡ front ++ (c ∷ (z ++ chars rest)) = chars-append text rest u ∙ ap (λ (x : List ℕ). x ++ chars rest) e ∙ append_assoc front (c ∷ z) (chars rest) in
    false≢true (
    sym (stops Any (run Any Start front) c (z ++ chars rest) stop)
    ∙ sym (whole-append Any Start front (c ∷ (z ++ chars rest)))
    ∙ ap (λ (x : List ℕ). (read_on Any Start x).whole) (sym cs)
    ∙ ap (λ (r : Rest). r.whole) (list_held Any (chars (text ++ rest)) links spells.1)
    )

longer_front : (bytes front rest : List ℕ) (further : ℕ) → IsUtf8 bytes → chars bytes ≡ front ++ rest → length (encode_utf8_all front) < further → further ≤ length bytes
    → IsUtf8 (take further bytes) → ((rest ≡ []) × (is_end (run Any Start front) ≡ false)) ⊎ ((c : ℕ) × (more : List ℕ) × (rest ≡ c ∷ more) × (next_state Any (run Any Start front) c ≡ Stop))
    → Begins (take further bytes) → ⊥
longer_front bytes front rest further u e lt le v (inl (none, end)) h =
    let all : bytes ≡ encode_utf8_all front = sym (encodes-chars bytes u) ∙ ap encode_utf8_all (e ∙ ap (λ (x : List ℕ). front ++ x) none ∙ append-nil front) in
    absurd (omega (arith, ap length all))
longer_front bytes front rest further u e lt le v (inr (c, more, is, stop)) h =
    let text = take further bytes in
    let parts : chars text ++ chars (drop further bytes) ≡ front ++ c ∷ more =
    sym (chars-append text (drop further bytes) v) ∙ ap chars (take-append-drop further bytes) ∙ e ∙ ap (λ (x : List ℕ). front ++ x) is in
    elim (fronts (chars text) (chars (drop further bytes)) front c more parts) [
      | inl (z, f) ↦ none_begins text front c z v f stop h
      | inr (z, f) ↦
          let sum : length (encode_utf8_all front) ≡ length (encode_utf8_all (chars text)) + length (encode_utf8_all z) =
          ap (λ (x : List ℕ). length (encode_utf8_all x)) f ∙ ap length (encodes-append (chars text) z) ∙ length-append (encode_utf8_all (chars text)) (encode_utf8_all z) in
          let size : length (encode_utf8_all (chars text)) ≡ further = ap length (encodes-chars text v) ∙ length-take-le further bytes le in
          absurd (omega (arith, sum, size, lt))
    ]

pub place_is : (bytes : List ℕ) (place : ℕ) → IsUtf8 bytes → Leaves Any (chars bytes) place → IsPlace bytes place
place_is bytes place u h =
    let bytes_are : bytes ≡ encode_utf8_all h.front ++ encode_utf8_all h.rest = sym (encodes-chars bytes u) ∙ ap encode_utf8_all h.chars_are ∙ encodes-append h.front h.rest in
    let front_is : take place bytes ≡ encode_utf8_all h.front = ap (λ (n : ℕ). take n bytes) h.place_is ∙ ap (take (length (encode_utf8_all h.front))) bytes_are ∙ take-append_seam (encode_utf8_all h.front) (encode_utf8_all h.rest) in
    let good : all_scalars h.front ≡ true = (scalars-parts h.front h.rest (ap all_scalars (sym h.chars_are) ∙ scalars-chars bytes u)).0 in
    record {
      within = omega (arith, h.place_is, ap length bytes_are, length-append (encode_utf8_all h.front) (encode_utf8_all h.rest));
      whole = (h.front, (good, sym front_is));
      begins = subst Begins (sym front_is) (begun h.front good h.alive);
      longest = λ further lt le v begins. longer_front bytes h.front h.rest further u h.chars_are (omega (arith, h.place_is, lt)) le v h.cause begins;
    }

pub not_spelled : (bytes : List ℕ) (place : ℕ) → Leaves Any (chars bytes) place → (links : List LinkContent) → Spells bytes links → ⊥
not_spelled bytes place h links spells =
    false≢true (sym (leaves_not_whole Any (chars bytes) place h) ∙ ap (λ (r : Rest). r.whole) (list_held Any (chars bytes) links spells.1))
