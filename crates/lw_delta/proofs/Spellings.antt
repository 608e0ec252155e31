-- The bytes that spell a value of a part are those that are written of it.
use Rattle.std.proofs.Common.{◌≡◌, ℕ, zero, suc, ◌==◌, ◌<◌, ◌≤◌, ◌⊎◌, Bool, true, false, List, [], ◌∷◌, ◌++◌, length, slice_index, drop, Option, Some, None, is_some, refl, sym, ap, ◌∙◌, subst, arith, inl, inr, append_assoc}
use Rattle.std.specs.Int.{w64, to_be_bytes}
use Rattle.std.proofs.lemmas.List.{append-nil}
use Rattle.std.proofs.lemmas.Nat.{be_bytes_2, be_bytes_4, be_bytes_8}
use mathlib.Core.Bool.{true≢false}
use Rattle.lw_stamp.specs.declared.stamp.Stamp.{Stamp}
use Rattle.lw_stamp.specs.Stamp.{stamp_bytes}
use Rattle.lw_join.specs.declared.last.Last.{Last}
use Rattle.lw_reg.specs.declared.addr.Addr.{Addr}
use Rattle.lw_reg.specs.declared.base.Base.{Base}
use Rattle.lw_reg.specs.declared.path.Path.{Path}
use Rattle.lw_reg.specs.Binding.{binding_text}
use Rattle.lw_reg.specs.Path.{path_numbers}
use Rattle.lw_delta.specs.Part.{Part, Found, byte, bytes_of, means, must, followed, when, tag, optional, Walks, repeated}
use Rattle.lw_delta.specs.Format.{number16, number32, number48, stamp, written, base, v4, v6, host, address, moment, binding, text, sms_number, objects, path_number, numbers, path, attribute_name, attribute_value, attribute, attributes, ended, endpoint}
use Rattle.lw_delta.specs.Values.{base_in, list_or_none, end_from}
use Rattle.lw_delta.specs.Writing.{number16_bytes, number32_bytes, number48_bytes, optional_bytes, written_bytes, base_byte, addr_bytes, moment_bytes, text_bytes, binding_bytes, objects_bytes, numbers_bytes, path_bytes, repeated_bytes, attribute_bytes, attributes_bytes, ended_bytes}
use Rattle.lw_delta.proofs.Paths.{numbers_are}

abbrev pub Spells : {A : Type 0} → Part A → (A → List ℕ) → Type 0
Spells {A} part write = (bytes : List ℕ) (value : A) (rest : List ℕ) → Found part bytes value rest → bytes ≡ write value ++ rest

pub chain : {bytes behind : List ℕ} (rest a b : List ℕ) → bytes ≡ a ++ behind → behind ≡ b ++ rest → bytes ≡ (a ++ b) ++ rest
chain rest a b e f = e ∙ ap (λ (x : List ℕ). a ++ x) f ∙ sym (append_assoc a b rest)

pub ending : {bytes behind rest : List ℕ} (a : List ℕ) → bytes ≡ a ++ behind → behind ≡ rest → bytes ≡ a ++ rest
ending a e f = e ∙ ap (λ (x : List ℕ). a ++ x) f

other_front : {bytes : List ℕ} (rest a b : List ℕ) → bytes ≡ a ++ rest → a ≡ b → bytes ≡ b ++ rest
other_front rest a b e f = e ∙ ap (λ (x : List ℕ). x ++ rest) f

-- ---- numbers
pub spells_number16 : Spells number16 number16_bytes
unfolding followed means bytes_of
spells_number16 bytes n rest f =
    let b = f.is.2.is in
    let g = f.is.3.is in
    other_front rest f.is.0 (number16_bytes n) (ending f.is.0 b.0 g.0) (sym (be_bytes_2 f.is.0 n b.1 b.2 g.1))

pub spells_number32 : Spells number32 number32_bytes
unfolding followed means bytes_of
spells_number32 bytes n rest f =
    let b = f.is.2.is in
    let g = f.is.3.is in
    other_front rest f.is.0 (number32_bytes n) (ending f.is.0 b.0 g.0) (sym (be_bytes_4 f.is.0 n b.1 b.2 g.1))

wide_fits : (b : List ℕ) → ((i : ℕ) → slice_index b i < 256) → (i : ℕ) → slice_index (0 ∷ 0 ∷ b) i < 256
wide_fits b fits zero = omega arith
wide_fits b fits (suc zero) = omega arith
wide_fits b fits (suc (suc i)) = fits i

pub spells_number48 : Spells number48 number48_bytes
unfolding followed means bytes_of
spells_number48 bytes n rest f =
    let b = f.is.2.is in
    let g = f.is.3.is in
    let wide : to_be_bytes w64 n ≡ 0 ∷ 0 ∷ f.is.0 = be_bytes_8 (0 ∷ 0 ∷ f.is.0) n (omega (arith, b.1)) (wide_fits f.is.0 b.2) g.1 in
    other_front rest f.is.0 (number48_bytes n) (ending f.is.0 b.0 g.0) (sym (ap (λ (x : List ℕ). drop 2 x) wide))

-- ---- stamps
pub spells_stamp : (clock : ℕ) → Spells (stamp clock) stamp_bytes
unfolding followed must means bytes_of
spells_stamp clock bytes s rest f =
    let b = f.is.2.is in
    let m = f.is.3.is.1.is.1.is in
    other_front rest f.is.0 (stamp_bytes s) (ending f.is.0 b.0 m.0) (sym m.1)

spells_written : {A : Type 0} (clock : ℕ) (part : Part A) (write : A → List ℕ) → Spells part write → Spells (written clock part) (λ w. stamp_bytes w.0 ++ write w.1)
unfolding followed means
spells_written {A} clock part write spells bytes w rest f =
    let v = f.is.3.is in
    let last = v.3.is in
    subst (λ (x : Stamp × A). bytes ≡ (stamp_bytes x.0 ++ write x.1) ++ rest) (sym last.1)
    (chain rest (stamp_bytes f.is.0) (write v.0) (spells_stamp clock bytes f.is.0 f.is.1 f.is.2) (ending (write v.0) (spells f.is.1 v.0 v.1 v.2) last.0))

-- ---- what is there
one_is : (n : ℕ) → n ≤ 1 → true ≡ (n == 1) → n ≡ 1
one_is zero small e = absurd (true≢false e)
one_is (suc zero) small e = refl
one_is (suc (suc n)) small e = absurd (omega (arith, small))

zero_is : (n : ℕ) → n ≤ 1 → false ≡ (n == 1) → n ≡ 0
zero_is zero small e = refl
zero_is (suc zero) small e = absurd (true≢false (sym e))
zero_is (suc (suc n)) small e = absurd (omega (arith, small))

tag_one : (bytes rest : List ℕ) → Found tag bytes true rest → bytes ≡ 1 ∷ rest
unfolding followed must means byte
tag_one bytes rest f =
    let m = f.is.3.is in
    ending (f.is.0 ∷ []) f.is.2.is.0 m.1.is.0 ∙ ap (λ (n : ℕ). n ∷ rest) (one_is f.is.0 m.0 m.1.is.1)

tag_zero : (bytes rest : List ℕ) → Found tag bytes false rest → bytes ≡ 0 ∷ rest
unfolding followed must means byte
tag_zero bytes rest f =
    let m = f.is.3.is in
    ending (f.is.0 ∷ []) f.is.2.is.0 m.1.is.0 ∙ ap (λ (n : ℕ). n ∷ rest) (zero_is f.is.0 m.0 m.1.is.1)

none_is : {A : Type 0} (o : Option A) (x : A) → o ≡ None → o ≡ Some x → ⊥
none_is o x e f = cc

some_one : {A : Type 0} (x y : A) → Some x ≡ Some y → x ≡ y
some_one x y e = cc

-- the bytes begin with 01, and the part stands behind it
pub record SomeSpelled {A : Type 0} (part : Part A) (bytes : List ℕ) (x : A) (rest : List ℕ) : Type 0 where
  pub behind : List ℕ
  pub tagged : bytes ≡ 1 ∷ behind
  pub found : Found part behind x rest

some_there : {A : Type 0} (part : Part A) (flag : Bool) (bytes behind : List ℕ) (x : A) (rest : List ℕ) → Found tag bytes flag behind → Found (when flag part) behind (Some x) rest → SomeSpelled part bytes x rest
unfolding followed means
some_there part true bytes behind x rest t f =
    let last = f.is.3.is in
    let same : Found part behind x rest = subst (λ (r : List ℕ). Found part behind x r) last.0 (subst (λ y. Found part behind y f.is.1) (sym (some_one x f.is.0 last.1)) f.is.2) in
    record { behind = behind; tagged = tag_one bytes behind t; found = same }
some_there part false bytes behind x rest t f = absurd (none_is (Some x) x f.is.1 refl)

pub some_spelled : {A : Type 0} (part : Part A) (bytes : List ℕ) (x : A) (rest : List ℕ) → Found (optional part) bytes (Some x) rest → SomeSpelled part bytes x rest
unfolding followed
some_spelled part bytes x rest f = some_there part f.is.0 bytes f.is.1 x rest f.is.2 f.is.3

none_there : {A : Type 0} (part : Part A) (flag : Bool) (bytes behind : List ℕ) (rest : List ℕ) → Found tag bytes flag behind → Found (when flag part) behind None rest → bytes ≡ 0 ∷ rest
unfolding followed means
none_there part true bytes behind rest t f = absurd (none_is None f.is.0 refl f.is.3.is.1)
none_there part false bytes behind rest t f = ending (0 ∷ []) (tag_zero bytes behind t) f.is.0

pub none_spelled : {A : Type 0} (part : Part A) (bytes : List ℕ) (rest : List ℕ) → Found (optional part) bytes None rest → bytes ≡ 0 ∷ rest
unfolding followed
none_spelled part bytes rest f = none_there part f.is.0 bytes f.is.1 rest f.is.2 f.is.3

pub spells_optional : {A : Type 0} (part : Part A) (write : A → List ℕ) → Spells part write → Spells (optional part) (optional_bytes write)
spells_optional part write spells bytes None rest f = none_spelled part bytes rest f
spells_optional part write spells bytes (Some x) rest f =
    let s = some_spelled part bytes x rest f in
    chain rest (1 ∷ []) (write x) s.tagged (spells s.behind x rest s.found)

-- what a flag tells is there, and what is written of it
pub record FlagSpelled {A : Type 0} (write : Option A → List ℕ) (flag : Bool) (bytes : List ℕ) (o : Option A) (rest : List ℕ) : Type 0 where
  pub spelled : bytes ≡ write o ++ rest
  pub told : is_some o ≡ flag

pub spells_when : {A : Type 0} (part : Part A) (write : Option A → List ℕ) → write None ≡ [] → Spells part (λ x. write (Some x)) → (flag : Bool) (bytes : List ℕ) (o : Option A) (rest : List ℕ)
    → Found (when flag part) bytes o rest → FlagSpelled write flag bytes o rest
unfolding followed means
spells_when part write none spells true bytes o rest f =
    let last = f.is.3.is in
    subst (λ x. FlagSpelled write true bytes x rest) (sym last.1) (record { spelled = ending (write (Some f.is.0)) (spells bytes f.is.0 f.is.1 f.is.2) last.0; told = refl })
spells_when part write none spells false bytes o rest f =
    subst (λ x. FlagSpelled write false bytes x rest) (sym f.is.1) (record { spelled = f.is.0 ∙ ap (λ (x : List ℕ). x ++ rest) (sym none); told = refl })

pub spells_when_written : {A : Type 0} (clock : ℕ) (part : Part A) (write : A → List ℕ) → Spells part write → (flag : Bool) (bytes : List ℕ) (o : Option (Stamp × A)) (rest : List ℕ)
    → Found (when flag (written clock part)) bytes o rest → FlagSpelled (written_bytes write) flag bytes o rest
spells_when_written clock part write spells flag bytes o rest f = spells_when (written clock part) (written_bytes write) refl (spells_written clock part write spells) flag bytes o rest f

-- ---- values
base_again : (bits : ℕ) → bits ≤ 3 → base_byte (base_in bits) ≡ bits
base_again zero small = refl
base_again (suc zero) small = refl
base_again (suc (suc zero)) small = refl
base_again (suc (suc (suc zero))) small = refl
base_again (suc (suc (suc (suc n)))) small = absurd (omega (arith, small))

pub spells_base : Spells base (λ b. base_byte b ∷ [])
unfolding followed must means byte
spells_base bytes b rest f =
    let m = f.is.3.is in
    other_front rest (f.is.0 ∷ []) (base_byte b ∷ []) (ending (f.is.0 ∷ []) f.is.2.is.0 m.1.is.0) (ap (λ (n : ℕ). n ∷ []) (sym (ap (λ (x : Base). base_byte x) m.1.is.1 ∙ base_again f.is.0 m.0)))

spells_v4 : (bytes : List ℕ) (a : Addr) (rest : List ℕ) → Found v4 bytes a rest → 4 ∷ bytes ≡ addr_bytes a ++ rest
unfolding followed means bytes_of
spells_v4 bytes a rest f =
    let p = f.is.3.is in
    let last = p.3.is in
    let e : bytes ≡ (f.is.0 ++ number16_bytes p.0) ++ rest = chain rest f.is.0 (number16_bytes p.0) f.is.2.is.0 (ending (number16_bytes p.0) (spells_number16 f.is.1 p.0 p.1 p.2) last.0) in
    subst (λ (x : Addr). 4 ∷ bytes ≡ addr_bytes x ++ rest) (sym last.1) (ap (λ (x : List ℕ). 4 ∷ x) e)

spells_v6 : (bytes : List ℕ) (a : Addr) (rest : List ℕ) → Found v6 bytes a rest → 6 ∷ bytes ≡ addr_bytes a ++ rest
unfolding followed means bytes_of
spells_v6 bytes a rest f =
    let p = f.is.3.is in
    let last = p.3.is in
    let e : bytes ≡ (f.is.0 ++ number16_bytes p.0) ++ rest = chain rest f.is.0 (number16_bytes p.0) f.is.2.is.0 (ending (number16_bytes p.0) (spells_number16 f.is.1 p.0 p.1 p.2) last.0) in
    subst (λ (x : Addr). 6 ∷ bytes ≡ addr_bytes x ++ rest) (sym last.1) (ap (λ (x : List ℕ). 6 ∷ x) e)

spells_host : (family : ℕ) (bytes : List ℕ) (a : Addr) (rest : List ℕ) → (family ≡ 4) ⊎ (family ≡ 6) → Found (host (family == 4)) bytes a rest → family ∷ bytes ≡ addr_bytes a ++ rest
spells_host family bytes a rest (inl e) f = ap (λ (n : ℕ). n ∷ bytes) e ∙ spells_v4 bytes a rest (subst (λ (n : ℕ). Found (host (n == 4)) bytes a rest) e f)
spells_host family bytes a rest (inr e) f = ap (λ (n : ℕ). n ∷ bytes) e ∙ spells_v6 bytes a rest (subst (λ (n : ℕ). Found (host (n == 4)) bytes a rest) e f)

pub spells_address : Spells address addr_bytes
unfolding followed must byte
spells_address bytes a rest f = f.is.2.is.0 ∙ spells_host f.is.0 f.is.1 a rest f.is.3.is.0 f.is.3.is.1

pub spells_moment : Spells moment moment_bytes
unfolding followed means
spells_moment bytes m rest f =
    let last = f.is.3.is in
    other_front rest (number48_bytes f.is.0) (moment_bytes m) (ending (number48_bytes f.is.0) (spells_number48 bytes f.is.0 f.is.1 f.is.2) last.0) (ap (λ (n : ℕ). number48_bytes n) (sym last.1))

-- the text behind its length, which is known by another name
counted : {bytes behind : List ℕ} (rest : List ℕ) (count : ℕ) (t known : List ℕ) → bytes ≡ count ∷ behind → behind ≡ t ++ rest → length t ≡ count → t ≡ known → bytes ≡ text_bytes known ++ rest
counted {behind} rest count t known e f l same = e ∙ ap (λ (n : ℕ). n ∷ behind) (sym l) ∙ ap (λ (x : List ℕ). length t ∷ x) f ∙ ap (λ (x : List ℕ). text_bytes x ++ rest) same

pub spells_binding : Spells binding binding_bytes
unfolding followed must means byte bytes_of
spells_binding bytes b rest f =
    let t = f.is.3.is.1.is in
    let last = t.3.is.1.is in
    counted rest f.is.0 t.0 (binding_text b) f.is.2.is.0 (ending t.0 t.2.is.0 last.0) t.2.is.1 (sym last.1)

-- the text stands at the front, and has that many bytes
record TextSpelled (count : ℕ) (bytes t rest : List ℕ) : Type 0 where
  pub spelled : bytes ≡ t ++ rest
  pub long : length t ≡ count

spells_text : (count : ℕ) (bytes t rest : List ℕ) → Found (text count) bytes t rest → TextSpelled count bytes t rest
unfolding followed must means bytes_of
spells_text count bytes t rest f =
    let last = f.is.3.is.1.is in
    subst (λ (x : List ℕ). TextSpelled count bytes x rest) (sym last.1) (record { spelled = ending f.is.0 f.is.2.is.0 last.0; long = f.is.2.is.1 })

pub spells_sms : Spells sms_number text_bytes
unfolding followed must byte
spells_sms bytes t rest f =
    let s = spells_text f.is.0 f.is.1 t rest f.is.3.is.1 in
    counted rest f.is.0 t t f.is.2.is.0 s.spelled s.long refl

pub spells_objects : Spells objects objects_bytes
unfolding followed must means bytes_of
spells_objects bytes t rest f =
    let b = f.is.3.is.1.is in
    let last = b.3.is.1.is in
    let e : bytes ≡ (number16_bytes f.is.0 ++ b.0) ++ rest = chain rest (number16_bytes f.is.0) b.0 (spells_number16 bytes f.is.0 f.is.1 f.is.2) (ending b.0 b.2.is.0 last.0) in
    let long : (number16_bytes f.is.0 ++ b.0) ≡ objects_bytes b.0 = ap (λ (n : ℕ). number16_bytes n ++ b.0) (sym b.2.is.1) in
    other_front rest (number16_bytes f.is.0 ++ b.0) (objects_bytes t) e (long ∙ ap (λ (x : List ℕ). objects_bytes x) (sym last.1))

-- ---- parts one after another
spells_walk : {K A : Type 0} (item : Option K → Part A) (key : A → K) (write : A → List ℕ) → ((after : Option K) → Spells (item after) write) → (after : Option K) (bytes : List ℕ) (xs : List A) (behind rest : List ℕ)
    → Walks item key after bytes xs behind → behind ≡ 0 ∷ rest → bytes ≡ repeated_bytes write xs ++ rest
spells_walk item key write spells after bytes [] behind rest w e = w ∙ e
spells_walk item key write spells after bytes (x ∷ xs) behind rest w e =
    let s = some_spelled (item after) bytes x w.0 w.1 in
    let more = spells_walk item key write spells (Some (key x)) w.0 xs behind rest w.2 e in
    chain rest (1 ∷ []) (write x ++ repeated_bytes write xs) s.tagged (chain rest (write x) (repeated_bytes write xs) (spells after s.behind x w.0 s.found) more)

spells_repeated : {K A : Type 0} (item : Option K → Part A) (key : A → K) (write : A → List ℕ) → ((after : Option K) → Spells (item after) write) → Spells (repeated item key None) (repeated_bytes write)
unfolding repeated
spells_repeated item key write spells bytes xs rest f = spells_walk item key write spells None bytes xs f.is.0 rest f.is.1 (none_spelled _ f.is.0 rest f.is.2)

-- ---- attributes
spells_name : (after : Option (List ℕ)) → Spells (attribute_name after) text_bytes
unfolding followed must means byte
spells_name after bytes e rest f =
    let t = f.is.3.is.1.is in
    let last = t.3.is.1.is.1.is in
    let s = spells_text f.is.0 f.is.1 t.0 t.1 t.2 in
    counted rest f.is.0 t.0 e f.is.2.is.0 (ending t.0 s.spelled last.0) s.long (sym last.1)

spells_value : (name : List ℕ) → Spells (attribute_value name) text_bytes
unfolding followed must byte
spells_value name bytes t rest f =
    let s = spells_text f.is.0 f.is.1 t rest f.is.3.is.1 in
    counted rest f.is.0 t t f.is.2.is.0 s.spelled s.long refl

spells_attribute : (clock : ℕ) (after : Option (List ℕ)) → Spells (attribute clock after) attribute_bytes
unfolding followed means
spells_attribute clock after bytes a rest f =
    let w = f.is.3.is in
    let last = w.3.is in
    let write = stamp_bytes w.0.0 ++ text_bytes w.0.1 in
    subst (λ (x : List ℕ × Last (List ℕ)). bytes ≡ attribute_bytes x ++ rest) (sym last.1)
    (chain rest (text_bytes f.is.0) write (spells_name after bytes f.is.0 f.is.1 f.is.2) (ending write (spells_written clock (attribute_value f.is.0) text_bytes (spells_value f.is.0) f.is.1 w.0 w.1 w.2) last.0))

-- the attributes, where the format has them
pub spells_attributes : (clock : ℕ) (flag : Bool) (bytes : List ℕ) (o : Option (List (List ℕ × Last (List ℕ)))) (rest : List ℕ) → Found (when flag (attributes clock)) bytes o rest → bytes ≡ attributes_bytes flag (list_or_none o) ++ rest
unfolding followed means
spells_attributes clock true bytes o rest f =
    let last = f.is.3.is in
    let all = spells_repeated (attribute clock) (λ a. a.0) attribute_bytes (spells_attribute clock) bytes f.is.0 f.is.1 f.is.2 in
    subst (λ x. bytes ≡ attributes_bytes true (list_or_none x) ++ rest) (sym last.1) (ending (repeated_bytes attribute_bytes f.is.0) all last.0)
spells_attributes clock false bytes o rest f = f.is.0

-- ---- ends
-- the end, where the format has one
pub spells_ended : (clock : ℕ) (flag : Bool) (bytes : List ℕ) (o : Option (Option Stamp)) (rest : List ℕ) → Found (when flag (ended clock)) bytes o rest → bytes ≡ ended_bytes flag (end_from o) ++ rest
unfolding followed means
spells_ended clock true bytes o rest f =
    let last = f.is.3.is in
    let said = spells_optional (stamp clock) stamp_bytes (spells_stamp clock) bytes f.is.0 f.is.1 f.is.2 in
    subst (λ x. bytes ≡ ended_bytes true (end_from x) ++ rest) (sym last.1) (ending (optional_bytes stamp_bytes f.is.0) said last.0)
spells_ended clock false bytes o rest f = f.is.0

-- ---- paths
numbers_push : (ns : List ℕ) (n : ℕ) → numbers_bytes ns ++ number16_bytes n ≡ numbers_bytes (ns ++ n ∷ [])
numbers_push [] n = sym (append-nil (number16_bytes n))
numbers_push (m ∷ ns) n = append_assoc (number16_bytes m) (numbers_bytes ns) (number16_bytes n) ∙ ap (λ (x : List ℕ). number16_bytes m ++ x) (numbers_push ns n)

spells_path_number : Spells path_number number16_bytes
unfolding followed must means
spells_path_number bytes n rest f =
    let last = f.is.3.is.1.is in
    other_front rest (number16_bytes f.is.0) (number16_bytes n) (ending (number16_bytes f.is.0) (spells_number16 bytes f.is.0 f.is.1 f.is.2) last.0) (ap (λ (x : ℕ). number16_bytes x) (sym last.1))

spells_numbers : (count : ℕ) → Spells (numbers count) numbers_bytes
unfolding followed means
spells_numbers zero bytes ns rest f = subst (λ (x : List ℕ). bytes ≡ numbers_bytes x ++ rest) (sym f.is.1) f.is.0
spells_numbers (suc count) bytes ns rest f =
    let l = f.is.3.is in
    let last = l.3.is in
    let e : bytes ≡ (numbers_bytes f.is.0 ++ number16_bytes l.0) ++ rest =
    chain rest (numbers_bytes f.is.0) (number16_bytes l.0) (spells_numbers count bytes f.is.0 f.is.1 f.is.2) (ending (number16_bytes l.0) (spells_path_number f.is.1 l.0 l.1 l.2) last.0) in
    other_front rest (numbers_bytes f.is.0 ++ number16_bytes l.0) (numbers_bytes ns) e (numbers_push f.is.0 l.0 ∙ ap (λ (x : List ℕ). numbers_bytes x) (sym last.1))

pub spells_path : (after : Option Path) → Spells (path after) path_bytes
unfolding followed must means byte
spells_path after bytes p rest f =
    let g = f.is.3.is.1.is in
    let h = g.3.is in
    let last = h.3.is.1.is in
    let long : length g.0 ≡ f.is.0 = (numbers_are f.is.0 f.is.1 g.0 g.1 g.2).0 in
    let same : g.0 ≡ path_numbers p = sym (ap (λ (x : Path). path_numbers x) last.1 ∙ h.2.is.1) in
    let e : bytes ≡ (f.is.0 ∷ numbers_bytes g.0) ++ rest = chain rest (f.is.0 ∷ []) (numbers_bytes g.0) f.is.2.is.0 (ending (numbers_bytes g.0) (spells_numbers f.is.0 f.is.1 g.0 g.1 g.2) (h.2.is.0 ∙ last.0)) in
    other_front rest (f.is.0 ∷ numbers_bytes g.0) (path_bytes p) e (ap (λ (n : ℕ). n ∷ numbers_bytes g.0) (sym long) ∙ ap (λ (ns : List ℕ). length ns ∷ numbers_bytes ns) same)

pub spells_endpoint : (after : Option (List ℕ)) → Spells (endpoint after) text_bytes
unfolding followed must means byte
spells_endpoint after bytes e rest f =
    let t = f.is.3.is.1.is in
    let last = t.3.is.1.is in
    let s = spells_text f.is.0 f.is.1 t.0 t.1 t.2 in
    counted rest f.is.0 t.0 e f.is.2.is.0 (ending t.0 s.spelled last.0) s.long (sym last.1)
