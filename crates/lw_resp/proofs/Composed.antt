-- Values that are spelled by parts, one behind the other.
use Rattle.std.proofs.Common.{◌≡◌, ℕ, ◌<◌, List, [], ◌∷◌, ◌++◌, length, Option, Some, None, Result, Ok, Err, refl, sym, ap, ◌∙◌, subst, arith}
use Rattle.std.specs.Option.{MatchOption}
use Rattle.std.proofs.lemmas.List.{append_assoc, length-append}
use Rattle.lw_resp.specs.Reading.{Begins, IsCut, IsMalformed}
use Rattle.lw_resp.specs.inner.Reads.{Reads}

-- ---- what was read
pub read_some : {A R : Type 0} (Is : A → Type 0) (spell : A → List ℕ) (bytes : List ℕ) (value : R → A) (rest : R → List ℕ) (o : Option R) (x : R) → o ≡ Some x
    → MatchOption o (IsCut Is spell bytes) (λ x. Begins Is spell bytes (value x) (rest x)) → Begins Is spell bytes (value x) (rest x)
read_some {R = R} Is spell bytes value rest o x e h =
    subst (λ (o : Option R). MatchOption o (IsCut Is spell bytes) (λ x. Begins Is spell bytes (value x) (rest x))) e h

pub read_none : {A R : Type 0} (Is : A → Type 0) (spell : A → List ℕ) (bytes : List ℕ) (value : R → A) (rest : R → List ℕ) (o : Option R) → o ≡ None
    → MatchOption o (IsCut Is spell bytes) (λ x. Begins Is spell bytes (value x) (rest x)) → IsCut Is spell bytes
read_none {R = R} Is spell bytes value rest o e h =
    subst (λ (o : Option R). MatchOption o (IsCut Is spell bytes) (λ x. Begins Is spell bytes (value x) (rest x))) e h

-- ---- what was read and told
pub told_some : {A R : Type 0} (Is : A → Type 0) (spell : A → List ℕ) (bytes : List ℕ) (tells : R → A → Type 0) (rest : R → List ℕ) (o : Option R) (x : R) → o ≡ Some x
    → MatchOption o (IsCut Is spell bytes) (λ x. (a : A) × tells x a × Begins Is spell bytes a (rest x)) → (a : A) × tells x a × Begins Is spell bytes a (rest x)
told_some {A = A} {R = R} Is spell bytes tells rest o x e h =
    subst (λ (o : Option R). MatchOption o (IsCut Is spell bytes) (λ x. (a : A) × tells x a × Begins Is spell bytes a (rest x))) e h

pub told_none : {A R : Type 0} (Is : A → Type 0) (spell : A → List ℕ) (bytes : List ℕ) (tells : R → A → Type 0) (rest : R → List ℕ) (o : Option R) → o ≡ None
    → MatchOption o (IsCut Is spell bytes) (λ x. (a : A) × tells x a × Begins Is spell bytes a (rest x)) → IsCut Is spell bytes
told_none {A = A} {R = R} Is spell bytes tells rest o e h =
    subst (λ (o : Option R). MatchOption o (IsCut Is spell bytes) (λ x. (a : A) × tells x a × Begins Is spell bytes a (rest x))) e h

-- ---- a part that stands at the front
pub cut_in_front : {A B : Type 0} (IsA : A → Type 0) (spell_a : A → List ℕ) (IsB : B → Type 0) (spell_b : B → List ℕ) (bytes : List ℕ)
    → (cut : IsCut IsA spell_a bytes) (b : B) (tail : List ℕ) → IsB b → spell_b b ≡ spell_a cut.value ++ tail → IsCut IsB spell_b bytes
cut_in_front IsA spell_a IsB spell_b bytes cut b tail is split = record {
  value = b;
  valid = is;
  more = cut.more ++ tail;
  some = omega (arith, cut.some, length-append cut.more tail);
  written = split ∙ ap (λ (s : List ℕ). s ++ tail) cut.written ∙ append_assoc bytes cut.more tail;
}

pub malformed_in_front : {A B : Type 0} (IsA : A → Type 0) (spell_a : A → List ℕ) (IsB : B → Type 0) (spell_b : B → List ℕ) (bytes : List ℕ)
    → (front : B → A) (tail : B → List ℕ) → ((b : B) → IsB b → IsA (front b)) → ((b : B) → spell_b b ≡ spell_a (front b) ++ tail b)
    → IsMalformed IsA spell_a bytes → IsMalformed IsB spell_b bytes
malformed_in_front IsA spell_a IsB spell_b bytes front tail is split malformed b is_b more rest e =
    malformed (front b) (is b is_b) more (tail b ++ rest) (e ∙ ap (λ (s : List ℕ). s ++ rest) (split b) ∙ append_assoc (spell_a (front b)) (tail b) rest)

-- ---- a part that stands behind others
pub begins_behind : {A B : Type 0} (IsA : A → Type 0) (spell_a : A → List ℕ) (IsB : B → Type 0) (spell_b : B → List ℕ) (bytes front behind : List ℕ)
    → bytes ≡ front ++ behind → (a : A) (rest : List ℕ) → Begins IsA spell_a behind a rest → (b : B) → IsB b → spell_b b ≡ front ++ spell_a a → Begins IsB spell_b bytes b rest
begins_behind IsA spell_a IsB spell_b bytes front behind joined a rest begins b is split = record {
  valid = is;
  written = joined ∙ ap (λ (s : List ℕ). front ++ s) begins.written ∙ sym (append_assoc front (spell_a a) rest) ∙ ap (λ (s : List ℕ). s ++ rest) (sym split);
}

pub cut_behind : {A B : Type 0} (IsA : A → Type 0) (spell_a : A → List ℕ) (IsB : B → Type 0) (spell_b : B → List ℕ) (bytes front behind : List ℕ)
    → bytes ≡ front ++ behind → (cut : IsCut IsA spell_a behind) (b : B) → IsB b → spell_b b ≡ front ++ spell_a cut.value → IsCut IsB spell_b bytes
cut_behind IsA spell_a IsB spell_b bytes front behind joined cut b is split = record {
  value = b;
  valid = is;
  more = cut.more;
  some = cut.some;
  written = split ∙ ap (λ (s : List ℕ). front ++ s) cut.written ∙ sym (append_assoc front behind cut.more) ∙ ap (λ (s : List ℕ). s ++ cut.more) (sym joined);
}

-- ---- a byte before the rest
begun_by : (kind : ℕ) (bytes behind : List ℕ) {A : Type 0} (Is : A → Type 0) (inner outer : A → List ℕ) → bytes ≡ kind ∷ behind → ((a : A) → outer a ≡ kind ∷ inner a)
    → IsMalformed Is inner behind → IsMalformed Is outer bytes
begun_by kind bytes behind Is inner outer joined same malformed value is more rest e =
    let all : kind ∷ (behind ++ more) ≡ kind ∷ (inner value ++ rest) =
    ap (λ (s : List ℕ). s ++ more) (sym joined) ∙ e ∙ ap (λ (s : List ℕ). s ++ rest) (same value) in
    let others : behind ++ more ≡ inner value ++ rest = cc in
    malformed value is more rest others

pub kinded : {A R E : Type 0} (kind : ℕ) (bytes behind : List ℕ) (Is : A → Type 0) (inner outer : A → List ℕ) (value : R → A) (rest : R → List ℕ)
    → bytes ≡ kind ∷ behind → ((a : A) → outer a ≡ kind ∷ inner a) → (r : Result (Option R) E) → Reads Is inner behind r value rest → Reads Is outer bytes r value rest
kinded kind bytes behind Is inner outer value rest joined same (Ok (Some x)) h =
    begins_behind Is inner Is outer bytes (kind ∷ []) behind joined (value x) (rest x) h (value x) h.valid (same (value x))
kinded kind bytes behind Is inner outer value rest joined same (Ok None) h =
    cut_behind Is inner Is outer bytes (kind ∷ []) behind joined h h.value h.valid (same h.value)
kinded kind bytes behind Is inner outer value rest joined same (Err x) h =
    begun_by kind bytes behind Is inner outer joined same h

-- another byte than that of the kind
pub other_kind : {A : Type 0} (kind first : ℕ) (bytes behind : List ℕ) (Is : A → Type 0) (inner outer : A → List ℕ)
    → bytes ≡ first ∷ behind → (first ≡ kind → ⊥) → ((a : A) → outer a ≡ kind ∷ inner a) → IsMalformed Is outer bytes
other_kind kind first bytes behind Is inner outer joined other same value is more rest e =
    let all : first ∷ (behind ++ more) ≡ kind ∷ (inner value ++ rest) =
    ap (λ (s : List ℕ). s ++ more) (sym joined) ∙ e ∙ ap (λ (s : List ℕ). s ++ rest) (same value) in
    let first_is : first ≡ kind = cc in
    other first_is

pub none_come : {A : Type 0} (Is : A → Type 0) (spell : A → List ℕ) (bytes : List ℕ) (a : A) → Is a → 0 < length (spell a) → length bytes ≡ 0 → IsCut Is spell bytes
none_come Is spell [] a is long none = record { value = a; valid = is; more = spell a; some = long; written = refl }
none_come Is spell (x ∷ bytes) a is long none = absurd (omega (arith, none))

-- ---- two parts
-- each value of the third kind is one of the first and one of the second, in this order
pub record IsPair {A B C : Type 0} (IsA : A → Type 0) (spell_a : A → List ℕ) (IsB : B → Type 0) (spell_b : B → List ℕ) (IsC : C → Type 0) (spell_c : C → List ℕ)
    (first : C → A) (second : C → B) (pair : A → B → C) : Type 0 where
  pub parts : (c : C) → IsC c → IsA (first c) × IsB (second c)
  pub split : (c : C) → spell_c c ≡ spell_a (first c) ++ spell_b (second c)
  pub joined : (a : A) (b : B) → IsA a → IsB b → IsC (pair a b)
  pub spelled : (a : A) (b : B) → IsA a → spell_c (pair a b) ≡ spell_a a ++ spell_b b

abbrev pub IsDecided : {A : Type 0} → (A → Type 0) → (A → List ℕ) → Type 0
IsDecided {A = A} Is spell = (a b : A) → Is a → Is b → (x y : List ℕ) → spell a ++ x ≡ spell b ++ y → (a ≡ b) × (x ≡ y)

pub pair_found : {A B C : Type 0} (IsA : A → Type 0) (spell_a : A → List ℕ) (IsB : B → Type 0) (spell_b : B → List ℕ) (IsC : C → Type 0) (spell_c : C → List ℕ)
    (first : C → A) (second : C → B) (pair : A → B → C) → IsPair IsA spell_a IsB spell_b IsC spell_c first second pair
    → (bytes behind rest : List ℕ) (a : A) (b : B) → Begins IsA spell_a bytes a behind → Begins IsB spell_b behind b rest → Begins IsC spell_c bytes (pair a b) rest
pair_found IsA spell_a IsB spell_b IsC spell_c first second pair is bytes behind rest a b begins next =
    begins_behind IsB spell_b IsC spell_c bytes (spell_a a) behind begins.written b rest next (pair a b) (is.joined a b begins.valid next.valid) (is.spelled a b begins.valid)

pub pair_cut_first : {A B C : Type 0} (IsA : A → Type 0) (spell_a : A → List ℕ) (IsB : B → Type 0) (spell_b : B → List ℕ) (IsC : C → Type 0) (spell_c : C → List ℕ)
    (first : C → A) (second : C → B) (pair : A → B → C) → IsPair IsA spell_a IsB spell_b IsC spell_c first second pair
    → (bytes : List ℕ) (b : B) → IsB b → IsCut IsA spell_a bytes → IsCut IsC spell_c bytes
pair_cut_first IsA spell_a IsB spell_b IsC spell_c first second pair is bytes b is_b cut =
    cut_in_front IsA spell_a IsC spell_c bytes cut (pair cut.value b) (spell_b b) (is.joined cut.value b cut.valid is_b) (is.spelled cut.value b cut.valid)

pub pair_cut : {A B C : Type 0} (IsA : A → Type 0) (spell_a : A → List ℕ) (IsB : B → Type 0) (spell_b : B → List ℕ) (IsC : C → Type 0) (spell_c : C → List ℕ)
    (first : C → A) (second : C → B) (pair : A → B → C) → IsPair IsA spell_a IsB spell_b IsC spell_c first second pair
    → (bytes behind : List ℕ) (a : A) → Begins IsA spell_a bytes a behind → IsCut IsB spell_b behind → IsCut IsC spell_c bytes
pair_cut IsA spell_a IsB spell_b IsC spell_c first second pair is bytes behind a begins cut =
    cut_behind IsB spell_b IsC spell_c bytes (spell_a a) behind begins.written cut (pair a cut.value) (is.joined a cut.value begins.valid cut.valid) (is.spelled a cut.value begins.valid)

pub pair_malformed_first : {A B C : Type 0} (IsA : A → Type 0) (spell_a : A → List ℕ) (IsB : B → Type 0) (spell_b : B → List ℕ) (IsC : C → Type 0) (spell_c : C → List ℕ)
    (first : C → A) (second : C → B) (pair : A → B → C) → IsPair IsA spell_a IsB spell_b IsC spell_c first second pair
    → (bytes : List ℕ) → IsMalformed IsA spell_a bytes → IsMalformed IsC spell_c bytes
pair_malformed_first IsA spell_a IsB spell_b IsC spell_c first second pair is bytes malformed =
    malformed_in_front IsA spell_a IsC spell_c bytes first (λ c. spell_b (second c)) (λ c is_c. (is.parts c is_c).0) is.split malformed

pub pair_malformed : {A B C : Type 0} (IsA : A → Type 0) (spell_a : A → List ℕ) (IsB : B → Type 0) (spell_b : B → List ℕ) (IsC : C → Type 0) (spell_c : C → List ℕ)
    (first : C → A) (second : C → B) (pair : A → B → C) → IsPair IsA spell_a IsB spell_b IsC spell_c first second pair → IsDecided IsA spell_a
    → (bytes behind : List ℕ) (a : A) → Begins IsA spell_a bytes a behind → IsMalformed IsB spell_b behind → IsMalformed IsC spell_c bytes
pair_malformed IsA spell_a IsB spell_b IsC spell_c first second pair is free bytes behind a begins malformed c is_c more rest e =
    let parts = is.parts c is_c in
    let all : spell_a a ++ (behind ++ more) ≡ spell_a (first c) ++ (spell_b (second c) ++ rest) =
    sym (append_assoc (spell_a a) behind more) ∙ ap (λ (s : List ℕ). s ++ more) (sym begins.written) ∙ e
    ∙ ap (λ (s : List ℕ). s ++ rest) (is.split c) ∙ append_assoc (spell_a (first c)) (spell_b (second c)) rest in
    let same = free a (first c) begins.valid parts.0 (behind ++ more) (spell_b (second c) ++ rest) all in
    malformed (second c) parts.1 more rest same.1
