-- Replies to TIME.
use Rattle.std.proofs.Common.{◌≡◌, ◌≢◌, ℕ, Bool, true, false, ◌==◌, ◌+◌, ◌*◌, ◌/◌, ◌<◌, ◌≤◌, ◌^◌, List, [], ◌∷◌, ◌++◌, length, Option, Some, None, Result, Ok, Bor, refl, sym, ap, ◌∙◌, subst, arith}
use Rattle.std.specs.Prelude.{IfSome, IfNone, IsSomeAnd}
use Rattle.std.specs.Fmt.{decimal}
use Rattle.std.specs.Str.{IsUtf8}
use Rattle.std.specs.Str.Parse.{ParsesUnsigned}
use Rattle.std.proofs.lemmas.Bool.{eqb-true}
use Rattle.std.proofs.lemmas.Fmt.{parse-decimal, IsAscii-decimal, decimal_injective, length-decimal-le}
use Rattle.std.proofs.lemmas.List.{append-nil}
use Rattle.std.proofs.lemmas.Str.{IsUtf8-from_ascii}
use Rattle.lw_resp.specs.Bytes.{bulk_bytes, command_bytes, count_line}
use Rattle.lw_resp.specs.Reading.{Begins}
use Rattle.lw_resp.specs.Words.{IsBulk, IsWord, word_bytes, word_content}
use Rattle.lw_resp.specs.Words.WordContent.{Array, Bulk, Error}
use Rattle.lw_resp.specs.declared.words.Word.{Word}
use Rattle.lw_resp.specs.declared.words.Word.TheVariants.{Status as StatusWord, Error as ErrorWord, Number as NumberWord, Bulk as BulkWord, Array as ArrayWord, Null as NullWord, NullArray as NullArrayWord}
use Rattle.lw_redis_log.specs.Errors.{Passes}
use Rattle.lw_redis_log.specs.Outcomes.{IsFaultOf}
use Rattle.lw_redis_log.specs.Times.{IsTime, IsError, IsTimeFault}
use Rattle.lw_redis_log.specs.declared.outcomes.RedisFault.{RedisFault}
use Rattle.lw_redis_log.specs.declared.outcomes.RedisFault.TheVariants.{Unavailable, Refused, Lost}
use Rattle.lw_redis_log.specs.inner.Times.{ArePair, AreTexts, IsLastBulk, IsMoment}

-- ---- numbers in decimal
pub no_text : (digits : List ℕ) → (IsUtf8 digits → ⊥) → (n : ℕ) → n < 2 ^ 64 → digits ≢ decimal n
no_text digits h n lt e = h (subst IsUtf8 (sym e) (IsUtf8-from_ascii (decimal n) (IsAscii-decimal n lt)))

pub parsed : {E : Type 0} (digits text : List ℕ) (r : Result ℕ E) → text ≡ digits → ParsesUnsigned 64 10 text r
    → (n : ℕ) → n < 2 ^ 64 → digits ≡ decimal n → r ≡ Ok n
parsed {E} digits text r same h n lt e = parse-decimal {E = E} 64 n text r lt lt (same ∙ e) h

pub same_value : {E : Type 0} (r : Result ℕ E) (m n : ℕ) → r ≡ Ok m → r ≡ Ok n → m ≡ n
same_value r m n e f = cc

pub is_short : (n : ℕ) → n < 2 ^ 64 → IsBulk (decimal n)
is_short n lt = omega (arith, length-decimal-le 20 n (omega arith) (omega (arith, lt)) lt)

-- ---- the moment
abbrev Reckoned : ℕ → ℕ → ℕ → Type 0
Reckoned whole part told = (part < 1000000) × (told ≡ whole * 1000 + part / 1000) × (told < 2 ^ 64)

pub moment_found : (first last : List ℕ) (whole part : ℕ) (r : Option ℕ) → first ≡ decimal whole → last ≡ decimal part
    → IfSome r (λ told. Reckoned whole part told) → IfSome r (λ told. IsMoment first last told)
moment_found first last whole part (Some told) f l h = record {
  seconds = whole;
  microseconds = part;
  are_seconds = f;
  are_microseconds = l;
  below = h.0;
  is = h.1;
  fits = h.2;
}
moment_found first last whole part None f l h = tt

moment_same : (first last : List ℕ) (whole part told : ℕ) → whole < 2 ^ 64 → part < 2 ^ 64 → first ≡ decimal whole → last ≡ decimal part
    → IsMoment first last told → Reckoned whole part told
moment_same first last whole part told fits_whole fits_part f l x =
    let fits_seconds : x.seconds < 2 ^ 64 = omega (arith, x.is, x.fits) in
    let fits_microseconds : x.microseconds < 2 ^ 64 = omega (arith, x.below) in
    let same_seconds : x.seconds ≡ whole = decimal_injective x.seconds whole fits_seconds fits_whole (sym x.are_seconds ∙ f) in
    let same_microseconds : x.microseconds ≡ part = decimal_injective x.microseconds part fits_microseconds fits_part (sym x.are_microseconds ∙ l) in
    (subst (λ n. n < 1000000) same_microseconds x.below, x.is ∙ ap (λ n. n * 1000 + x.microseconds / 1000) same_seconds ∙ ap (λ n. whole * 1000 + n / 1000) same_microseconds, x.fits)

pub moment_none : (first last : List ℕ) (whole part : ℕ) (r : Option ℕ) → whole < 2 ^ 64 → part < 2 ^ 64 → first ≡ decimal whole → last ≡ decimal part
    → IfNone r (part < 1000000 → 2 ^ 64 ≤ whole * 1000 + part / 1000) → IfNone r ((told : ℕ) → ¬ IsMoment first last told)
moment_none first last whole part (Some told) fw fp f l h = tt
moment_none first last whole part None fw fp f l h = λ told x.
    let same = moment_same first last whole part told fw fp f l x in
    let most = h same.0 in
    omega (arith, most, same.1, same.2)

pub no_seconds : (first last : List ℕ) → ((n : ℕ) → n < 2 ^ 64 → first ≢ decimal n) → (told : ℕ) → ¬ IsMoment first last told
no_seconds first last never told x = never x.seconds (omega (arith, x.is, x.fits)) x.are_seconds

pub no_microseconds : (first last : List ℕ) → ((n : ℕ) → n < 2 ^ 64 → last ≢ decimal n) → (told : ℕ) → ¬ IsMoment first last told
no_microseconds first last never told x = never x.microseconds (omega (arith, x.below)) x.are_microseconds

-- ---- words
pub no_bulk : (w : Word) → ((t : Bor (List ℕ)) → w ≢ BulkWord t) → (t : List ℕ) → word_content w ≢ Bulk t
no_bulk (StatusWord s) never t e = absurd cc
no_bulk (ErrorWord s) never t e = absurd cc
no_bulk (NumberWord m) never t e = absurd cc
no_bulk (BulkWord s) never t e = never s refl
no_bulk (ArrayWord m) never t e = absurd cc
no_bulk NullWord never t e = absurd cc
no_bulk NullArrayWord never t e = absurd cc

pub no_error : (w : Word) → ((t : Bor (List ℕ)) → w ≢ ErrorWord t) → (t : List ℕ) → word_content w ≢ Error t
no_error (StatusWord s) never t e = absurd cc
no_error (ErrorWord s) never t e = never s refl
no_error (NumberWord m) never t e = absurd cc
no_error (BulkWord s) never t e = absurd cc
no_error (ArrayWord m) never t e = absurd cc
no_error NullWord never t e = absurd cc
no_error NullArrayWord never t e = absurd cc

pub bulk_begins : (bytes content rest : List ℕ) → Begins IsBulk bulk_bytes bytes content rest → Begins IsWord word_bytes bytes (Bulk content) rest
bulk_begins bytes content rest b = record { valid = b.valid; written = b.written }

pub last_begins : (bytes content : List ℕ) → IsLastBulk bytes content → Begins IsBulk bulk_bytes bytes content []
last_begins bytes content l = record { valid = l.valid; written = l.written ∙ sym (append-nil (bulk_bytes content)) }

pub error_begins : (bytes text : List ℕ) → IsError bytes text → Begins IsWord word_bytes bytes (Error text) []
error_begins bytes text x = record { valid = x.valid; written = x.written ∙ sym (append-nil (word_bytes (Error text))) }

pub pair_begins : (bytes first last : List ℕ) → AreTexts bytes first last → Begins IsWord word_bytes bytes (Array 2) (bulk_bytes first ++ bulk_bytes last)
pair_begins bytes first last x = record {
  valid = omega arith;
  written = x.written ∙ ap (λ (s : List ℕ). count_line 42 2 ++ (bulk_bytes first ++ s)) (append-nil (bulk_bytes last));
}

pub pair_behind : (behind first last : List ℕ) (bytes : List ℕ) → AreTexts bytes first last → behind ≡ bulk_bytes first ++ bulk_bytes last → ArePair behind first last
pair_behind behind first last bytes x e = record { is_first = x.is_first; is_last = x.is_last; written = e }

pub texts_of : (bytes behind first last : List ℕ) → bytes ≡ count_line 42 2 ++ behind → ArePair behind first last → AreTexts bytes first last
texts_of bytes behind first last e p = record {
  is_first = p.is_first;
  is_last = p.is_last;
  written = e ∙ ap (λ (s : List ℕ). count_line 42 2 ++ s) (p.written ∙ ap (λ (s : List ℕ). bulk_bytes first ++ s) (sym (append-nil (bulk_bytes last))));
}

-- ---- times
pub time_texts : (bytes : List ℕ) (told : ℕ) (x : IsTime bytes told) → AreTexts bytes (decimal x.seconds) (decimal x.microseconds)
time_texts bytes told x = record {
  is_first = is_short x.seconds (omega (arith, x.is, x.fits));
  is_last = is_short x.microseconds (omega (arith, x.below));
  written = x.written;
}

pub time_found : (bytes first last : List ℕ) (told : ℕ) → AreTexts bytes first last → IsMoment first last told → IsTime bytes told
time_found bytes first last told t m = record {
  seconds = m.seconds;
  microseconds = m.microseconds;
  written = t.written ∙ ap (λ (s : List ℕ). command_bytes (s ∷ last ∷ [])) m.are_seconds ∙ ap (λ (s : List ℕ). command_bytes (decimal m.seconds ∷ s ∷ [])) m.are_microseconds;
  below = m.below;
  is = m.is;
  fits = m.fits;
}

pub time_moment : (bytes first last : List ℕ) (told : ℕ) (x : IsTime bytes told) → first ≡ decimal x.seconds → last ≡ decimal x.microseconds → IsMoment first last told
time_moment bytes first last told x f l = record {
  seconds = x.seconds;
  microseconds = x.microseconds;
  are_seconds = f;
  are_microseconds = l;
  below = x.below;
  is = x.is;
  fits = x.fits;
}

other_kind : (xs ys : List ℕ) → 42 ∷ xs ≡ 45 ∷ ys → ⊥
other_kind xs ys e = absurd cc

pub no_both : (bytes first last text : List ℕ) → AreTexts bytes first last → IsError bytes text → ⊥
no_both bytes first last text t x = other_kind _ _ (sym t.written ∙ x.written)

pub error_fault : (bytes text : List ℕ) (fault : RedisFault) → IsError bytes text
    → ((t : List ℕ) → IsError bytes t → text ≡ t) → ((told : ℕ) → ¬ IsTime bytes told) → IsFaultOf text fault → IsTimeFault bytes fault
error_fault bytes text Unavailable x only never h = (never, λ t y. subst Passes (only t y) h)
error_fault bytes text (Refused t) x only never h = (subst (IsError bytes) (sym h.1) x, λ p. h.0 (subst Passes h.1 p))
error_fault bytes text Lost x only never h = h

-- ---- paths
pub bulk_same : (xs ys : List ℕ) → Bulk xs ≡ Bulk ys → xs ≡ ys
bulk_same xs ys e = cc

pub error_same : (xs ys : List ℕ) → Error xs ≡ Error ys → xs ≡ ys
error_same xs ys e = cc

pub not_empty : (b : Bool) (xs : List ℕ) → b ≡ (length xs == 0) → b ≡ false → xs ≡ [] → ⊥
not_empty b [] h f e = absurd cc
not_empty b (x ∷ xs) h f e = absurd cc

empty_list : (b : Bool) (xs : List ℕ) → b ≡ (length xs == 0) → b ≡ true → xs ≡ []
empty_list b [] h f = refl
empty_list b (x ∷ xs) h f = absurd (omega (arith, eqb-true (length (x ∷ xs)) 0 (sym h ∙ f)))

-- ---- errors
pub error_found : (bytes : List ℕ) (w : Word) (behind : List ℕ) (b : Bool) → b ≡ (length behind == 0) → b ≡ true → Begins IsWord word_bytes bytes (word_content w) behind
    → (r : Option (Bor (List ℕ))) → IfSome r (λ text. word_content w ≡ Error text.now) → IfSome r (λ text. IsError bytes text.now)
error_found bytes w behind b h f begins None e = tt
error_found bytes w behind b h f begins (Some text) e = record {
  valid = subst IsWord e begins.valid;
  written = begins.written ∙ ap (λ (s : List ℕ). word_bytes (word_content w) ++ s) (empty_list b behind h f) ∙ append-nil (word_bytes (word_content w)) ∙ ap word_bytes e;
}

pub error_only : (w : Word) (text : List ℕ) (r : Option (Bor (List ℕ))) → IfSome r (λ found. word_content w ≡ Error found.now)
    → IfNone r ((t : List ℕ) → word_content w ≢ Error t) → word_content w ≡ Error text → IsSomeAnd r (λ found. found.now ≡ text)
error_only w text (Some found) f never e = error_same found.now text (sym f ∙ e)
error_only w text None f never e = never text e
