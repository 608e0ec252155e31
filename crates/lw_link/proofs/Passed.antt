-- Passing characters of one byte that leave a state as it is.
use Rattle.std.proofs.Common.{◌≡◌, ◌≢◌, ℕ, zero, suc, ◌+◌, ◌<◌, ◌≤◌, Bool, true, nat_le, List, [], ◌∷◌, ◌++◌, length, take, drop, refl, ap, subst, sym, ◌∙◌, arith, chars, IsUtf8, slice_index, length-append, append_assoc}
use Rattle.std.specs.Char.{len_utf8}
use Rattle.std.specs.Str.{IsAscii, IsCharBoundary}
use Rattle.std.proofs.lemmas.Bool.{and_parts, false≢true}
use Rattle.std.proofs.lemmas.List.{take_more, take-append-drop, length-take-le, take_at, drop_at}
use Rattle.std.proofs.Math.Seq.{split_at}
use Rattle.std.proofs.lemmas.Str.{len_utf8_ascii, chars-append, chars-IsAscii, IsAscii-append, IsUtf8-from_ascii, IsCharBoundary-from_take}
use Rattle.lw_link.specs.declared.style.Style.{Style}
use Rattle.lw_link.specs.declared.state.State.{State}
use Rattle.lw_link.specs.declared.state.State.TheVariants.{Start, Target, Closed, Comma, Semicolon, Name, Equals, Word, Quotation, Backslash, Stop}
use Rattle.lw_link.specs.Characters.{Each, is_visible, is_target_char, is_name_char, is_plain_char, is_quoted_char}
use Rattle.lw_link.specs.inner.Machine.{next_state}
use Rattle.lw_link.specs.inner.Runs.{keeps, Passes, HasLink, PassesLink}
use Rattle.lw_link.proofs.Scanned.{IsScanned, opened, scanned_next}

-- ---- one character

up_to_tilde : (c : ℕ) → nat_le c 126 ≡ true → c < 128
up_to_tilde c h = grind arith

visible_byte : (c : ℕ) → is_visible c ≡ true → c < 128
visible_byte c h = up_to_tilde c (and_parts _ (nat_le c 126) h).1

target_byte : (c : ℕ) → is_target_char c ≡ true → c < 128
target_byte c h = grind arith

name_byte : (c : ℕ) → is_name_char c ≡ true → c < 128
name_byte c h = grind arith

plain_byte : (c : ℕ) → is_plain_char c ≡ true → c < 128
plain_byte c h = grind arith

pub kept_byte : (s : State) (c : ℕ) → keeps s c ≡ true → c < 128
kept_byte Target c h = target_byte c h
kept_byte Name c h = name_byte c h
kept_byte Word c h = plain_byte c h
kept_byte Quotation c h = up_to_tilde c (and_parts _ (is_quoted_char c) h).0
kept_byte Start c h = absurd (false≢true h)
kept_byte Closed c h = absurd (false≢true h)
kept_byte Comma c h = absurd (false≢true h)
kept_byte Semicolon c h = absurd (false≢true h)
kept_byte Equals c h = absurd (false≢true h)
kept_byte Backslash c h = absurd (false≢true h)
kept_byte Stop c h = absurd (false≢true h)

kept_state : (k : Style) (s : State) (c : ℕ) → keeps s c ≡ true → s ≡ next_state k s c
kept_state k Target c h = rw h refl
kept_state k Name c h = rw h refl
kept_state k Word c h = rw h refl
kept_state k Quotation c h = rw (and_parts _ (is_quoted_char c) h).1 refl
kept_state k Start c h = absurd (false≢true h)
kept_state k Closed c h = absurd (false≢true h)
kept_state k Comma c h = absurd (false≢true h)
kept_state k Semicolon c h = absurd (false≢true h)
kept_state k Equals c h = absurd (false≢true h)
kept_state k Backslash c h = absurd (false≢true h)
kept_state k Stop c h = absurd (false≢true h)

kept_opens : (s : State) (c n : ℕ) → keeps s c ≡ true → n ≡ n + opened s c
kept_opens Target c n h = omega arith
kept_opens Name c n h = omega arith
kept_opens Word c n h = omega arith
kept_opens Quotation c n h = omega arith
kept_opens Start c n h = absurd (false≢true h)
kept_opens Closed c n h = absurd (false≢true h)
kept_opens Comma c n h = absurd (false≢true h)
kept_opens Semicolon c n h = absurd (false≢true h)
kept_opens Equals c n h = absurd (false≢true h)
kept_opens Backslash c n h = absurd (false≢true h)
kept_opens Stop c n h = absurd (false≢true h)

-- ---- the bytes at the front

each-snoc : (p : ℕ → Bool) (xs : List ℕ) (x : ℕ) → Each p xs → p x ≡ true → Each p (xs ++ x ∷ [])
each-snoc p [] x h e = (e, tt)
each-snoc p (y ∷ ys) x h e = (h.0, each-snoc p ys x h.1 e)

pub each_more : (p : ℕ → Bool) (xs : List ℕ) (n : ℕ) → n < length xs → p (slice_index xs n) ≡ true → Each p (take n xs) → Each p (take (n + 1) xs)
each_more p xs n lt h each = subst (Each p) (sym (take_more xs n 0 lt)) (each-snoc p (take n xs) (slice_index xs n) each h)

ascii-cons : (x : ℕ) (xs : List ℕ) → x < 128 → IsAscii xs → IsAscii (x ∷ xs)
ascii-cons x xs lt h = λ i. elim i as (λ k. slice_index (x ∷ xs) k < 128) [ zero ↦ lt | suc j ↦ h j ]

kept_ascii : (s : State) (xs : List ℕ) → Each (keeps s) xs → IsAscii xs
kept_ascii s [] h = λ i. omega arith
kept_ascii s (x ∷ xs) h = ascii-cons x xs (kept_byte s x h.0) (kept_ascii s xs h.1)

pub cut : (s : State) (text : List ℕ) (n : ℕ) → IsUtf8 text → n ≤ length text → Each (keeps s) (take n text) → IsCharBoundary text n
cut s text n u le h = IsCharBoundary-from_take text n u le (IsUtf8-from_ascii (take n text) (kept_ascii s (take n text) h))

pub passes : (s : State) (text : List ℕ) (n : ℕ) → n ≤ length text → Each (keeps s) (take n text) → Passes s (chars text) (chars (drop n text)) n
passes s text n le h =
    let ascii : IsAscii (take n text) = kept_ascii s (take n text) h in
    record {
      run = take n text;
      old_is = ap chars (sym (take-append-drop n text)) ∙ chars-append (take n text) (drop n text) (IsUtf8-from_ascii (take n text) ascii) ∙ ap (λ (x : List ℕ). x ++ chars (drop n text)) (chars-IsAscii (take n text) ascii);
      count_is = sym (length-take-le n text le);
      kept = h;
    }

pub link_at : (bytes rest : List ℕ) (n : ℕ) → 3 ≤ length bytes → slice_index bytes 0 ≡ 44 → slice_index bytes 1 ≡ 60 → rest ≡ drop 2 bytes → n < length rest → slice_index rest n ≡ 62
    → Each (keeps Target) (take n rest) → HasLink bytes (n + 3)
link_at [] rest n many first second same within close each = absurd (omega (arith, many))
link_at (x ∷ []) rest n many first second same within close each = absurd (omega (arith, many))
link_at (x ∷ y ∷ ys) rest n many first second same within close each =
    let parts : rest ≡ take n rest ++ slice_index rest n ∷ drop (suc n) rest = split_at rest n 0 within in
    let behind : rest ≡ take n rest ++ 62 ∷ drop (suc n) rest = parts ∙ ap (λ (z : ℕ). take n rest ++ z ∷ drop (suc n) rest) close in
    record {
      target = take n rest;
      rest = drop (suc n) rest;
      chars_are = ap (λ (z : ℕ). z ∷ y ∷ ys) first ∙ ap (λ (z : ℕ). 44 ∷ z ∷ ys) second ∙ ap (λ (z : List ℕ). 44 ∷ 60 ∷ z) (sym same ∙ behind);
      count_is = ap (λ (z : ℕ). z + 3) (sym (length-take-le n rest (omega (arith, within))));
      kept = each;
    }

link_ascii : (target : List ℕ) → Each (keeps Target) target → IsAscii (44 ∷ 60 ∷ (target ++ 62 ∷ []))
link_ascii target h =
    ascii-cons 44 (60 ∷ (target ++ 62 ∷ [])) (omega arith)
    (ascii-cons 60 (target ++ 62 ∷ []) (omega arith) (IsAscii-append target (62 ∷ []) (kept_ascii Target target h) (ascii-cons 62 [] (omega arith) (λ i. omega arith))))

pub link_passes : (text : List ℕ) (n : ℕ) → IsUtf8 text → HasLink text n → IsCharBoundary text n × PassesLink Closed (chars text) (chars (drop n text)) n
link_passes text n u h =
    let front = 44 ∷ 60 ∷ (h.target ++ 62 ∷ []) in
    let ascii : IsAscii front = link_ascii h.target h.kept in
    let parts : text ≡ front ++ h.rest = h.chars_are ∙ ap (λ (x : List ℕ). 44 ∷ 60 ∷ x) (sym (append_assoc h.target (62 ∷ []) h.rest)) in
    let size : length front ≡ n = omega (arith, length-append h.target (62 ∷ []), h.count_is) in
    let taken : take n text ≡ front = ap (take n) parts ∙ take_at front h.rest n size in
    let left : drop n text ≡ h.rest = ap (drop n) parts ∙ drop_at front h.rest n size in
    let within : n ≤ length text = omega (arith, ap length parts, length-append front h.rest, size) in
    let seen : chars text ≡ front ++ chars (drop n text) =
    ap chars parts ∙ chars-append front h.rest (IsUtf8-from_ascii front ascii) ∙ ap (λ (x : List ℕ). x ++ chars h.rest) (chars-IsAscii front ascii) ∙ ap (λ (x : List ℕ). front ++ chars x) (sym left) in (
      IsCharBoundary-from_take text n u within (subst IsUtf8 (sym taken) (IsUtf8-from_ascii front ascii)),
      record {
        state_is = refl;
        target = h.target;
        old_is = seen ∙ ap (λ (x : List ℕ). 44 ∷ 60 ∷ x) (append_assoc h.target (62 ∷ []) (chars (drop n text)));
        count_is = h.count_is;
        kept = h.kept;
      },
    )

-- ---- the walk

passed : (k : Style) (text : List ℕ) (s : State) (links place : ℕ) (old new run : List ℕ) → old ≡ run ++ new → Each (keeps s) run → IsScanned k text s links place old → IsScanned k text s links (place + length run) new
passed k text s links place old new [] e each h =
    let same : place ≡ place + 0 = omega arith in
    subst (λ (n : ℕ). IsScanned k text s links n new) same (subst (IsScanned k text s links place) e h)
passed k text s links place old new (c ∷ run) e each h =
    let byte : place + 1 ≡ place + len_utf8 c = ap (λ (n : ℕ). place + n) (sym (len_utf8_ascii c (kept_byte s c each.0))) in
    let step : IsScanned k text s links (place + 1) (run ++ new) = scanned_next k text s s links links place (place + 1) old (run ++ new) c e (kept_state k s c each.0) h.alive (kept_opens s c links each.0) byte h in
    let sum : place + 1 + length run ≡ place + length (c ∷ run) = omega arith in
    subst (λ (n : ℕ). IsScanned k text s links n new) sum (passed k text s links (place + 1) (run ++ new) new run refl each.1 step)

scanned_run : (k : Style) (text : List ℕ) (s : State) (links place count : ℕ) (old new : List ℕ) → Passes s old new count → IsScanned k text s links place old → IsScanned k text s links (place + count) new
scanned_run k text s links place count old new p h =
    subst (λ (n : ℕ). IsScanned k text s links (place + n) new) (sym p.count_is) (passed k text s links place old new p.run p.old_is p.kept h)

-- a character, and the run behind it
pub scanned_turn : (k : Style) (text : List ℕ) (s next : State) (links links_next place len count : ℕ) (old mid new : List ℕ) (c : ℕ) → old ≡ c ∷ mid
    → next ≡ next_state k s c → next ≢ Stop → links_next ≡ links + opened s c → len ≡ len_utf8 c → Passes next mid new count → IsScanned k text s links place old
    → IsScanned k text next links_next (place + len + count) new
scanned_turn k text s next links links_next place len count old mid new c e n live l width p h =
    scanned_run k text next links_next (place + len) count mid new p
    (scanned_next k text s next links links_next place (place + len) old mid c e n live l (ap (λ (n : ℕ). place + n) width) h)

pub turn_fits : (k : Style) (text : List ℕ) (s next : State) (links place len count : ℕ) (old mid new : List ℕ) (c : ℕ) → old ≡ c ∷ mid
    → next ≡ next_state k s c → next ≢ Stop → len ≡ len_utf8 c → Passes next mid new count → IsScanned k text s links place old
    → place + len + count ≤ length text
turn_fits k text s next links place len count old mid new c e n live width p h =
    let walked : IsScanned k text next (links + opened s c) (place + len + count) new = scanned_turn k text s next links (links + opened s c) place len count old mid new c e n live refl width p h in
    omega (arith, walked.room)

-- ---- a whole link

link_walked : (k : Style) (text : List ℕ) (links place : ℕ) (old new target : List ℕ) → old ≡ 44 ∷ 60 ∷ (target ++ 62 ∷ new) → Each (keeps Target) target → IsScanned k text Closed links place old
    → IsScanned k text Closed (links + 1) (place + 2 + length target + 1) new
link_walked k text links place old new target e each h =
    let rest = target ++ 62 ∷ new in
    let comma : IsScanned k text Comma links (place + 1) (60 ∷ rest) =
    scanned_next k text Closed Comma links links place (place + 1) old (60 ∷ rest) 44 e refl (λ f. absurd cc) (omega arith) (omega arith) h in
    let opened : IsScanned k text Target (links + 1) (place + 2) rest =
    scanned_next k text Comma Target links (links + 1) (place + 1) (place + 2) (60 ∷ rest) rest 60 refl refl (λ f. absurd cc) (omega arith) (omega arith) comma in
    let named : IsScanned k text Target (links + 1) (place + 2 + length target) (62 ∷ new) = passed k text Target (links + 1) (place + 2) rest (62 ∷ new) target refl each opened in
    scanned_next k text Target Closed (links + 1) (links + 1) (place + 2 + length target) (place + 2 + length target + 1) (62 ∷ new) new 62 refl refl (λ f. absurd cc) (omega arith) (omega arith) named

pub scanned_link : (k : Style) (text : List ℕ) (s : State) (links place count : ℕ) (old new : List ℕ) → PassesLink s old new count → IsScanned k text s links place old
    → IsScanned k text s (links + 1) (place + count) new
scanned_link k text s links place count old new p h =
    let sum : place + 2 + length p.target + 1 ≡ place + count = omega (arith, p.count_is) in
    let start : IsScanned k text Closed links place old = subst (λ (x : State). IsScanned k text x links place old) p.state_is h in
    let end : IsScanned k text Closed (links + 1) (place + count) new = subst (λ (n : ℕ). IsScanned k text Closed (links + 1) n new) sum (link_walked k text links place old new p.target p.old_is p.kept start) in
    subst (λ (x : State). IsScanned k text x (links + 1) (place + count) new) (sym p.state_is) end

pub link_fits : (k : Style) (text : List ℕ) (s : State) (links place count : ℕ) (old new : List ℕ) → PassesLink s old new count → IsScanned k text s links place old → (links + 1 ≤ length text) × (place + count ≤ length text)
link_fits k text s links place count old new p h =
    let walked : IsScanned k text s (links + 1) (place + count) new = scanned_link k text s links place count old new p h in
    (omega (arith, walked.room, walked.few), omega (arith, walked.room))

pub link_shorter : (s : State) (old new : List ℕ) (count : ℕ) → PassesLink s old new count → length new < length old
link_shorter s old new count p =
    omega (arith, ap length p.old_is, length-append p.target (62 ∷ new))
