-- What bytes begin with, behind a part that was found in them.
use Rattle.std.proofs.Common.{◌≡◌, ℕ, Bool, true, List, [], ◌∷◌, Option, Some, None, sym, subst}
use Rattle.lw_delta.specs.declared.fault.DeltaFault.{DeltaFault}
use Rattle.lw_delta.specs.Part.{Part, Found, must, followed, when, tag, optional, last_key, Walks, repeated}
use Rattle.lw_delta.specs.inner.Part.{IsFound}
use Rattle.lw_delta.proofs.Decided.{Decided, tag_decided}

pub behind : {A B : Type 0} {part : Part A} (next : A → Part B) → Decided part → {bytes : List ℕ} {first : A} {rest : List ℕ}
    → Found part bytes first rest → IsFound (followed part next) bytes → IsFound (next first) rest
unfolding followed
behind next d {bytes} {first} {rest} f g =
    let x = g.found.is in
    let e = d.one bytes x.0 first x.1 rest x.2 f in
    let here : Found (next x.0) rest g.value g.rest = subst (λ (b : List ℕ). Found (next x.0) b g.value g.rest) e.1 x.3 in
    record { value = g.value; rest = g.rest; found = subst (λ a. Found (next a) rest g.value g.rest) e.0 here }

pub past : {A : Type 0} (holds : Type 0) (fault : DeltaFault) {part : Part A} {bytes : List ℕ} → IsFound (must holds fault part) bytes → IsFound part bytes
unfolding must
past holds fault g = record { value = g.value; rest = g.rest; found = g.found.is.1 }

pub must_hold : {A : Type 0} {holds : Type 0} (fault : DeltaFault) (part : Part A) {bytes : List ℕ} → IsFound (must holds fault part) bytes → holds
unfolding must
must_hold fault part g = g.found.is.0

pub front : {A B : Type 0} {part : Part A} (next : A → Part B) {bytes : List ℕ} → IsFound (followed part next) bytes → IsFound part bytes
unfolding followed
front next g = record { value = g.found.is.0; rest = g.found.is.1; found = g.found.is.2 }

pub set_found : {A : Type 0} {part : Part A} {flag : Bool} {bytes : List ℕ} → flag ≡ true → IsFound (when flag part) bytes → IsFound part bytes
set_found {part} {bytes} e g = front _ (subst (λ (b : Bool). IsFound (when b part) bytes) e g)

pub flag_is : {A : Type 0} (part : Part A) {flag known : Bool} {bytes : List ℕ} → known ≡ flag → IsFound (when flag part) bytes → IsFound (when known part) bytes
flag_is part {bytes} e g = subst (λ (b : Bool). IsFound (when b part) bytes) (sym e) g

pub behind_tag : {A : Type 0} (part : Part A) {bytes : List ℕ} {present : Bool} {rest : List ℕ} → Found tag bytes present rest → IsFound (optional part) bytes → IsFound (when present part) rest
behind_tag part f g = behind _ tag_decided f g

-- ---- parts one after another
next_of : {K A : Type 0} (item : Option K → Part A) (key : A → K) (after : Option K) (xs : List A) (bytes behind rest : List ℕ)
    → Walks item key after bytes xs behind → Found (optional (item (last_key key after xs))) behind None rest → IsFound (optional (item after)) bytes
next_of item key after [] bytes behind rest w f = record { value = None; rest = rest; found = subst (λ (b : List ℕ). Found (optional (item after)) b None rest) (sym w) f }
next_of item key after (x ∷ xs) bytes behind rest w f = record { value = Some x; rest = w.0; found = w.1 }

pub next_found : {K A : Type 0} (item : Option K → Part A) (key : A → K) (after : Option K) {bytes : List ℕ} → IsFound (repeated item key after) bytes → IsFound (optional (item after)) bytes
unfolding repeated
next_found item key after {bytes} g = let f = g.found.is in next_of item key after g.value bytes f.0 g.rest f.1 f.2
