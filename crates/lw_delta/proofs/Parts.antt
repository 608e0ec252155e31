-- What is found, or fails, in a part that is put together from others.
use Rattle.std.proofs.Common.{◌≡◌, ℕ, zero, suc, ◌-◌, ◌<◌, ◌≤◌, Bool, true, false, List, [], ◌∷◌, ◌++◌, length, slice_index, take, drop, Option, Some, None, Result, Ok, Err, IsErrAnd, IfErr, refl, sym, ap, subst, inl, inr, arith}
use Rattle.std.proofs.lemmas.List.{take_rest, take-append-drop, length-take-le}
use mathlib.Core.Bool.{true≢false}
use Rattle.lw_delta.specs.declared.fault.DeltaFault.{DeltaFault}
use Rattle.lw_delta.specs.declared.fault.DeltaFault.TheVariants.{Truncated}
use Rattle.lw_delta.specs.Part.{Part, Found, Fails, byte, bytes_of, means, gives, must, followed, when, tag, optional, last_key, Walks, repeated}

pub byte_found : (bytes : List ℕ) (b : ℕ) (rest : List ℕ) → bytes ≡ b ∷ rest → b < 256 → Found byte bytes b rest
unfolding byte
byte_found bytes b rest e fits = record { is = (e, fits) }

pub byte_cut : (bytes : List ℕ) → bytes ≡ [] → Fails byte bytes Truncated
unfolding byte
byte_cut bytes e = record { is = (e, refl) }

pub bytes_found : (count : ℕ) (bytes value rest : List ℕ) → bytes ≡ value ++ rest → length value ≡ count → ((i : ℕ) → slice_index value i < 256) → Found (bytes_of count) bytes value rest
unfolding bytes_of
bytes_found count bytes value rest e n fits = record { is = (e, n, fits) }

pub bytes_cut : (count : ℕ) (bytes : List ℕ) → length bytes < count → Fails (bytes_of count) bytes Truncated
unfolding bytes_of
bytes_cut count bytes lt = record { is = (lt, refl) }

pub meant : {A : Type 0} (holds : A → Type 0) {bytes : List ℕ} {value : A} → holds value → Found (means holds) bytes value bytes
unfolding means
meant holds h = record { is = (refl, h) }

pub given : {A : Type 0} {bytes : List ℕ} {value : A} → Found (gives value) bytes value bytes
given = meant _ refl

pub held : {A : Type 0} {holds : Type 0} (fault : DeltaFault) {part : Part A} {bytes : List ℕ} {value : A} {rest : List ℕ}
    → holds → Found part bytes value rest → Found (must holds fault part) bytes value rest
unfolding must
held fault h f = record { is = (h, f) }

pub broken : {A : Type 0} {holds : Type 0} {fault : DeltaFault} (part : Part A) {bytes : List ℕ} → (holds → ⊥) → Fails (must holds fault part) bytes fault
unfolding must
broken part h = record { is = inl (h, refl) }

pub held_fails : {A : Type 0} {holds : Type 0} (fault : DeltaFault) {first : DeltaFault} {part : Part A} {bytes : List ℕ} → holds → Fails part bytes first → Fails (must holds fault part) bytes first
unfolding must
held_fails fault h f = record { is = inr (h, f) }

pub both : {A B : Type 0} {part : Part A} (next : A → Part B) {bytes : List ℕ} {first : A} {behind : List ℕ} {value : B} {rest : List ℕ}
    → Found part bytes first behind → Found (next first) behind value rest → Found (followed part next) bytes value rest
unfolding followed
both next {first} {behind} f g = record { is = (first, behind, f, g) }

pub first_fails : {A B : Type 0} {part : Part A} (next : A → Part B) {bytes : List ℕ} {fault : DeltaFault} → Fails part bytes fault → Fails (followed part next) bytes fault
unfolding followed
first_fails next f = record { is = inl f }

pub later_fails : {A B : Type 0} {part : Part A} (next : A → Part B) {bytes : List ℕ} {first : A} {behind : List ℕ} {fault : DeltaFault}
    → Found part bytes first behind → Fails (next first) behind fault → Fails (followed part next) bytes fault
unfolding followed
later_fails next {first} {behind} f g = record { is = inr (first, behind, f, g) }

pub not_there : {A : Type 0} (part : Part A) {flag : Bool} {bytes : List ℕ} → flag ≡ false → Found (when flag part) bytes None bytes
not_there part {bytes} e = subst (λ (b : Bool). Found (when b part) bytes None bytes) (sym e) given

pub there : {A : Type 0} {part : Part A} {flag : Bool} {bytes : List ℕ} {value : A} {rest : List ℕ} → flag ≡ true → Found part bytes value rest → Found (when flag part) bytes (Some value) rest
there {part} {bytes} {value} {rest} e f = subst (λ (b : Bool). Found (when b part) bytes (Some value) rest) (sym e) (both _ f given)

pub there_fails : {A : Type 0} {part : Part A} {flag : Bool} {bytes : List ℕ} {fault : DeltaFault} → flag ≡ true → Fails part bytes fault → Fails (when flag part) bytes fault
there_fails {part} {bytes} {fault} e f = subst (λ (b : Bool). Fails (when b part) bytes fault) (sym e) (first_fails _ f)

pub optional_none : {A : Type 0} (part : Part A) {present : Bool} {bytes rest : List ℕ} → present ≡ false → Found tag bytes present rest → Found (optional part) bytes None rest
optional_none part e f = both _ f (not_there part e)

pub optional_some : {A : Type 0} {part : Part A} {present : Bool} {bytes behind : List ℕ} {value : A} {rest : List ℕ}
    → present ≡ true → Found tag bytes present behind → Found part behind value rest → Found (optional part) bytes (Some value) rest
optional_some e f g = both _ f (there e g)

pub optional_fails : {A : Type 0} {part : Part A} {present : Bool} {bytes behind : List ℕ} {fault : DeltaFault}
    → present ≡ true → Found tag bytes present behind → Fails part behind fault → Fails (optional part) bytes fault
optional_fails e f g = later_fails _ f (there_fails e g)

-- what the exit of a `?` answers
pub raised : {T : Type 0} (P : DeltaFault → Type 0) (r : Result T DeltaFault) {fault : DeltaFault} → IsErrAnd r (λ y. y ≡ fault) → P fault → IfErr r P
raised P (Ok x) h p = absurd h
raised P (Err y) h p = subst P (sym h) p

-- ---- parts one after another
pub last_key-push : {K A : Type 0} (key : A → K) (after : Option K) (xs : List A) (x : A) → last_key key after (xs ++ x ∷ []) ≡ Some (key x)
last_key-push key after [] x = refl
last_key-push key after (y ∷ ys) x = last_key-push key (Some (key y)) ys x

pub walks_push : {K A : Type 0} (item : Option K → Part A) (key : A → K) (after : Option K) (xs : List A) (x : A) (bytes behind rest : List ℕ)
    → Walks item key after bytes xs behind → Found (optional (item (last_key key after xs))) behind (Some x) rest → Walks item key after bytes (xs ++ x ∷ []) rest
walks_push item key after [] x bytes behind rest w f = (rest, subst (λ (b : List ℕ). Found (optional (item after)) b (Some x) rest) (sym w) f, refl)
walks_push item key after (y ∷ ys) x bytes behind rest w f = (w.0, w.1, walks_push item key (Some (key y)) ys x w.0 behind rest w.2 f)

-- these stand at the front of the bytes, and the last of them has this key
pub record Walked {K A : Type 0} (item : Option K → Part A) (key : A → K) (bytes : List ℕ) (xs : List A) (last : Option K) (rest : List ℕ) : Type 0 where
  pub walks : Walks item key None bytes xs rest
  pub last_is : last ≡ last_key key None xs

pub none_walked : {K A : Type 0} (item : Option K → Part A) (key : A → K) (bytes : List ℕ) → Walked item key bytes [] None bytes
none_walked item key bytes = record { walks = refl; last_is = refl }

pub walked_more : {K A : Type 0} {item : Option K → Part A} {key : A → K} {bytes : List ℕ} {xs : List A} {last : Option K} {behind : List ℕ} {x : A} {rest : List ℕ}
    → Walked item key bytes xs last behind → Found (optional (item last)) behind (Some x) rest → Walked item key bytes (xs ++ x ∷ []) (Some (key x)) rest
walked_more {item} {key} {bytes} {xs} {last} {behind} {x} {rest} w f = record {
  walks = walks_push item key None xs x bytes behind rest w.walks (subst (λ k. Found (optional (item k)) behind (Some x) rest) w.last_is f);
  last_is = sym (last_key-push key None xs x);
}

pub walked_end : {K A : Type 0} {item : Option K → Part A} {key : A → K} {bytes : List ℕ} {xs : List A} {last : Option K} {behind rest : List ℕ}
    → Walked item key bytes xs last behind → Found (optional (item last)) behind None rest → Found (repeated item key None) bytes xs rest
unfolding repeated
walked_end {item} {key} {bytes} {xs} {last} {behind} {rest} w f = record { is = (behind, w.walks, subst (λ k. Found (optional (item k)) behind None rest) w.last_is f) }

pub walked_fails : {K A : Type 0} {item : Option K → Part A} {key : A → K} {bytes : List ℕ} {xs : List A} {last : Option K} {behind : List ℕ} {fault : DeltaFault}
    → Walked item key bytes xs last behind → Fails (optional (item last)) behind fault → Fails (repeated item key None) bytes fault
unfolding repeated
walked_fails {item} {key} {bytes} {xs} {last} {behind} {fault} w f = record { is = (xs, behind, w.walks, subst (λ k. Fails (optional (item k)) behind fault) w.last_is f) }

-- ---- fronts of bytes
abbrev pub IsBytes : List ℕ → Type 0
IsBytes bytes = (i : ℕ) → slice_index bytes i < 256

pub first_found : (bytes : List ℕ) → IsBytes bytes → 1 ≤ length bytes → Found byte bytes (slice_index bytes 0) (take (length bytes - 1) (drop 1 bytes))
first_found [] fits some = absurd (omega arith)
first_found (b ∷ bytes) fits some = byte_found (b ∷ bytes) b (take (length (b ∷ bytes) - 1) (drop 1 (b ∷ bytes))) (ap (λ (x : List ℕ). b ∷ x) (sym (take_rest (b ∷ bytes) 1))) (fits 0)

pub none_found : (bytes : List ℕ) → length bytes < 1 → Fails byte bytes Truncated
none_found [] cut = byte_cut [] refl
none_found (b ∷ bytes) cut = absurd (omega arith)

fits_take : (count : ℕ) (bytes : List ℕ) → IsBytes bytes → IsBytes (take count bytes)
fits_take zero bytes fits i = omega arith
fits_take (suc count) [] fits i = omega arith
fits_take (suc count) (b ∷ bytes) fits zero = fits 0
fits_take (suc count) (b ∷ bytes) fits (suc i) = fits_take count bytes (λ k. fits (suc k)) i

pub front_found : (count : ℕ) (bytes value rest : List ℕ) → IsBytes bytes → value ≡ take count bytes → rest ≡ drop count bytes → count ≤ length bytes → Found (bytes_of count) bytes value rest
front_found count bytes value rest fits v r within =
    rw (v, r) (bytes_found count bytes (take count bytes) (drop count bytes) (sym (take-append-drop count bytes)) (length-take-le count bytes within) (fits_take count bytes fits))

-- ---- tests that failed
pub refuted : {P : Type 0} → (false ≡ true → P) × (P → false ≡ true) → P → ⊥
refuted h p = true≢false (sym (h.1 p))

-- ---- a flag that is known by another name
pub when_is : {A : Type 0} (part : Part A) {flag known : Bool} {bytes : List ℕ} {value : Option A} {rest : List ℕ} → known ≡ flag → Found (when known part) bytes value rest → Found (when flag part) bytes value rest
when_is part {bytes} {value} {rest} e f = subst (λ (b : Bool). Found (when b part) bytes value rest) e f

pub when_fails_is : {A : Type 0} (part : Part A) {flag known : Bool} {bytes : List ℕ} {fault : DeltaFault} → known ≡ flag → Fails (when known part) bytes fault → Fails (when flag part) bytes fault
when_fails_is part {bytes} {fault} e f = subst (λ (b : Bool). Fails (when b part) bytes fault) e f
