-- Bytes begin with a part in one way or have one fault, never both.
use Rattle.std.proofs.Common.{◌≡◌, ℕ, ◌<◌, ◌≤◌, ◌⊎◌, Bool, true, false, List, [], ◌∷◌, ◌++◌, length, Option, Some, None, refl, sym, subst, ap, ◌∙◌, arith, inl, inr}
use Rattle.lw_delta.specs.declared.fault.DeltaFault.{DeltaFault}
use Rattle.lw_delta.specs.declared.fault.DeltaFault.TheVariants.{Truncated, Range, NoMemory}
use Rattle.lw_delta.specs.Part.{Part, Found, Fails, byte, bytes_of, means, gives, must, followed, when, tag, optional, last_key, Walks, repeated}

pub record Decided {A : Type 0} (part : Part A) : Type 0 where
  pub one : (bytes : List ℕ) (a b : A) (r s : List ℕ) → Found part bytes a r → Found part bytes b s → (a ≡ b) × (r ≡ s)
  pub apart : (bytes : List ℕ) (a : A) (r : List ℕ) (f : DeltaFault) → Found part bytes a r → Fails part bytes f → ⊥
  pub one_fault : (bytes : List ℕ) (f g : DeltaFault) → Fails part bytes f → Fails part bytes g → f ≡ g
  pub no_want : (bytes : List ℕ) → Fails part bytes NoMemory → ⊥
  pub shorter : (bytes : List ℕ) (a : A) (r : List ℕ) → Found part bytes a r → length r ≤ length bytes

cons_one : (a b : ℕ) (x y : List ℕ) → a ∷ x ≡ b ∷ y → (a ≡ b) × (x ≡ y)
cons_one a b x y e = (cc, cc)

-- parts of one length at the front are one
front_one : (a b x y : List ℕ) → length a ≡ length b → a ++ x ≡ b ++ y → (a ≡ b) × (x ≡ y)
front_one [] [] x y l e = (refl, e)
front_one [] (b ∷ right) x y l e = absurd (omega arith)
front_one (a ∷ left) [] x y l e = absurd (omega arith)
front_one (a ∷ left) (b ∷ right) x y l e =
    let h = cons_one a b (left ++ x) (right ++ y) e in
    let k = front_one left right x y (omega arith) h.1 in
    (rw (h.0, k.0) refl, k.1)

pub byte_decided : Decided byte
unfolding byte
byte_decided = record {
  one = λ bytes a b r s f g. cons_one a b r s (sym f.is.0 ∙ g.is.0);
  apart = λ bytes a r f x y. let e : a ∷ r ≡ [] = sym x.is.0 ∙ y.is.0 in cc;
  one_fault = λ bytes f g x y. x.is.1 ∙ sym y.is.1;
  no_want = λ bytes x. let e : NoMemory ≡ Truncated = x.is.1 in cc;
  shorter = λ bytes a r x. omega (arith, ap length x.is.0);
}

longer : (front rest : List ℕ) → length front ≤ length (front ++ rest)
longer [] rest = omega arith
longer (a ∷ front) rest = omega (arith, longer front rest)

behind_within : (front rest : List ℕ) → length rest ≤ length (front ++ rest)
behind_within [] rest = omega arith
behind_within (a ∷ front) rest = omega (arith, behind_within front rest)

pub bytes_decided : (count : ℕ) → Decided (bytes_of count)
unfolding bytes_of
bytes_decided count = record {
  one = λ bytes a b r s f g. front_one a b r s (f.is.1 ∙ sym g.is.1) (sym f.is.0 ∙ g.is.0);
  apart = λ bytes a r f x y. absurd (omega (arith, x.is.1, y.is.0, ap length x.is.0, longer a r));
  one_fault = λ bytes f g x y. x.is.1 ∙ sym y.is.1;
  no_want = λ bytes x. let e : NoMemory ≡ Truncated = x.is.1 in cc;
  shorter = λ bytes a r x. omega (arith, ap length x.is.0, behind_within a r);
}

pub means_decided : {A : Type 0} (holds : A → Type 0) → ((a b : A) → holds a → holds b → a ≡ b) → Decided (means holds)
unfolding means
means_decided holds one = record {
  one = λ bytes a b r s f g. (one a b f.is.1 g.is.1, sym f.is.0 ∙ g.is.0);
  apart = λ bytes a r f x y. y.is;
  one_fault = λ bytes f g x y. absurd x.is;
  no_want = λ bytes x. x.is;
  shorter = λ bytes a r x. omega (arith, ap length x.is.0);
}

pub gives_decided : {A : Type 0} (value : A) → Decided (gives value)
gives_decided value = means_decided _ (λ a b h k. h ∙ sym k)

must_one_fault : {A : Type 0} {holds : Type 0} {fault : DeltaFault} {part : Part A} (d : Decided part) (bytes : List ℕ) (f g : DeltaFault)
    → ((holds → ⊥) × (f ≡ fault)) ⊎ (holds × Fails part bytes f) → ((holds → ⊥) × (g ≡ fault)) ⊎ (holds × Fails part bytes g) → f ≡ g
must_one_fault d bytes f g (inl x) (inl y) = x.1 ∙ sym y.1
must_one_fault d bytes f g (inl x) (inr y) = absurd (x.0 y.0)
must_one_fault d bytes f g (inr x) (inl y) = absurd (y.0 x.0)
must_one_fault d bytes f g (inr x) (inr y) = d.one_fault bytes f g x.1 y.1

must_apart : {A : Type 0} {holds : Type 0} {fault : DeltaFault} {part : Part A} (d : Decided part) (bytes : List ℕ) (a : A) (r : List ℕ) (f : DeltaFault)
    → holds × Found part bytes a r → ((holds → ⊥) × (f ≡ fault)) ⊎ (holds × Fails part bytes f) → ⊥
must_apart d bytes a r f x (inl y) = y.0 x.0
must_apart d bytes a r f x (inr y) = d.apart bytes a r f x.1 y.1

must_no_want : {A : Type 0} {holds : Type 0} {fault : DeltaFault} {part : Part A} (d : Decided part) → (NoMemory ≡ fault → ⊥) → (bytes : List ℕ)
    → ((holds → ⊥) × (NoMemory ≡ fault)) ⊎ (holds × Fails part bytes NoMemory) → ⊥
must_no_want d other bytes (inl x) = other x.1
must_no_want d other bytes (inr x) = d.no_want bytes x.1

pub must_decided : {A : Type 0} (holds : Type 0) {fault : DeltaFault} {part : Part A} → (NoMemory ≡ fault → ⊥) → Decided part → Decided (must holds fault part)
unfolding must
must_decided holds other d = record {
  one = λ bytes a b r s f g. d.one bytes a b r s f.is.1 g.is.1;
  apart = λ bytes a r f x y. must_apart d bytes a r f x.is y.is;
  one_fault = λ bytes f g x y. must_one_fault d bytes f g x.is y.is;
  no_want = λ bytes x. must_no_want d other bytes x.is;
  shorter = λ bytes a r x. d.shorter bytes a r x.is.1;
}

record Leads {A B : Type 0} (part : Part A) (next : A → Part B) (bytes : List ℕ) (value : B) (rest : List ℕ) : Type 0 where
  pub first : A
  pub behind : List ℕ
  pub found : Found part bytes first behind
  pub then_found : Found (next first) behind value rest

-- what stands behind a part that was found is what the other finding has
moved : {A B : Type 0} {part : Part A} (next : A → Part B) (d : Decided part) (bytes : List ℕ) (a b : A) (r s : List ℕ) (value : B) (rest : List ℕ)
    → Found part bytes a r → Found part bytes b s → Found (next b) s value rest → Found (next a) r value rest
moved next d bytes a b r s value rest f g h =
    let e = d.one bytes a b r s f g in
    subst (λ (x : List ℕ). Found (next a) x value rest) (sym e.1) (subst (λ x. Found (next x) s value rest) (sym e.0) h)

moved_fault : {A B : Type 0} {part : Part A} (next : A → Part B) (d : Decided part) (bytes : List ℕ) (a b : A) (r s : List ℕ) (fault : DeltaFault)
    → Found part bytes a r → Found part bytes b s → Fails (next b) s fault → Fails (next a) r fault
moved_fault next d bytes a b r s fault f g h =
    let e = d.one bytes a b r s f g in
    subst (λ (x : List ℕ). Fails (next a) x fault) (sym e.1) (subst (λ x. Fails (next x) s fault) (sym e.0) h)

abbrev LeadsFault : {A B : Type 0} → Part A → (A → Part B) → List ℕ → DeltaFault → Type 0
LeadsFault {A} part next bytes fault = Fails part bytes fault ⊎ ((first : A) × (behind : List ℕ) × Found part bytes first behind × Fails (next first) behind fault)

followed_apart : {A B : Type 0} {part : Part A} (next : A → Part B) (d : Decided part) (n : (a : A) → Decided (next a)) (bytes : List ℕ) (a : A) (r : List ℕ) (value : B) (rest : List ℕ) (f : DeltaFault)
    → Found part bytes a r → Found (next a) r value rest → LeadsFault part next bytes f → ⊥
followed_apart next d n bytes a r value rest f x y (inl z) = d.apart bytes a r f x z
followed_apart next d n bytes a r value rest f x y (inr z) = (n a).apart r value rest f y (moved_fault next d bytes a z.0 r z.1 f x z.2 z.3)

followed_one_fault : {A B : Type 0} {part : Part A} (next : A → Part B) (d : Decided part) (n : (a : A) → Decided (next a)) (bytes : List ℕ) (f g : DeltaFault)
    → LeadsFault part next bytes f → LeadsFault part next bytes g → f ≡ g
followed_one_fault next d n bytes f g (inl x) (inl y) = d.one_fault bytes f g x y
followed_one_fault next d n bytes f g (inl x) (inr y) = absurd (d.apart bytes y.0 y.1 f y.2 x)
followed_one_fault next d n bytes f g (inr x) (inl y) = absurd (d.apart bytes x.0 x.1 g x.2 y)
followed_one_fault next d n bytes f g (inr x) (inr y) = (n x.0).one_fault x.1 f g x.3 (moved_fault next d bytes x.0 y.0 x.1 y.1 g x.2 y.2 y.3)

followed_no_want : {A B : Type 0} {part : Part A} (next : A → Part B) (d : Decided part) (n : (a : A) → Decided (next a)) (bytes : List ℕ) → LeadsFault part next bytes NoMemory → ⊥
followed_no_want next d n bytes (inl x) = d.no_want bytes x
followed_no_want next d n bytes (inr x) = (n x.0).no_want x.1 x.3

pub followed_decided : {A B : Type 0} {part : Part A} {next : A → Part B} → Decided part → ((a : A) → Decided (next a)) → Decided (followed part next)
unfolding followed
followed_decided {part} {next} d n = record {
  one = λ bytes a b r s f g. (n f.is.0).one f.is.1 a b r s f.is.3 (moved next d bytes f.is.0 g.is.0 f.is.1 g.is.1 b s f.is.2 g.is.2 g.is.3);
  apart = λ bytes a r f x y. followed_apart next d n bytes x.is.0 x.is.1 a r f x.is.2 x.is.3 y.is;
  one_fault = λ bytes f g x y. followed_one_fault next d n bytes f g x.is y.is;
  no_want = λ bytes x. followed_no_want next d n bytes x.is;
  shorter = λ bytes b r x. omega (arith, d.shorter bytes x.is.0 x.is.1 x.is.2, (n x.is.0).shorter x.is.1 b r x.is.3);
}

pub when_decided : {A : Type 0} {part : Part A} (flag : Bool) → Decided part → Decided (when flag part)
when_decided true d = followed_decided d (λ value. gives_decided _)
when_decided false d = gives_decided _

pub tag_decided : Decided tag
tag_decided = followed_decided byte_decided (λ value. must_decided _ (λ (e : NoMemory ≡ Range). cc) (gives_decided _))

pub optional_decided : {A : Type 0} {part : Part A} → Decided part → Decided (optional part)
optional_decided d = followed_decided tag_decided (λ present. when_decided present d)

-- ---- parts one after another
tag_takes : (bytes : List ℕ) (t : Bool) (r : List ℕ) → Found tag bytes t r → length r < length bytes
unfolding followed byte must means
tag_takes bytes t r f = omega (arith, ap length f.is.2.is.0, ap length f.is.3.is.1.is.0)

pub optional_takes : {A : Type 0} {part : Part A} (d : Decided part) (bytes : List ℕ) (value : Option A) (r : List ℕ) → Found (optional part) bytes value r → length r < length bytes
unfolding followed
optional_takes d bytes value r f = omega (arith, tag_takes bytes f.is.0 f.is.1 f.is.2, (when_decided f.is.0 d).shorter f.is.1 value r f.is.3)

abbrev NoMore : {A : Type 0} → Part A → List ℕ → Type 0
NoMore {A} part bytes = (x : A) (rest : List ℕ) → Found (optional part) bytes (Some x) rest → ⊥

none_is : {A : Type 0} (o : Option A) (x : A) → o ≡ None → o ≡ Some x → ⊥
none_is o x e f = cc

ended : {A : Type 0} {part : Part A} (d : Decided part) (bytes rest : List ℕ) → Found (optional part) bytes None rest → NoMore part bytes
ended d bytes rest f x r g = none_is None x refl ((optional_decided d).one bytes None (Some x) rest r f g).0

failed : {A : Type 0} {part : Part A} (d : Decided part) (bytes : List ℕ) (fault : DeltaFault) → Fails (optional part) bytes fault → NoMore part bytes
failed d bytes fault f x r g = (optional_decided d).apart bytes (Some x) r fault g f

some_one : {A : Type 0} (x y : A) → Some x ≡ Some y → x ≡ y
some_one x y e = cc

walks_agree : {K A : Type 0} (item : Option K → Part A) (key : A → K) (d : (k : Option K) → Decided (item k)) (after : Option K) (xs ys : List A) (bytes r s : List ℕ)
    → Walks item key after bytes xs r → Walks item key after bytes ys s → NoMore (item (last_key key after xs)) r → NoMore (item (last_key key after ys)) s → (xs ≡ ys) × (r ≡ s)
walks_agree item key d after [] [] bytes r s w v ends too = (refl, sym w ∙ v)
walks_agree item key d after [] (y ∷ ys) bytes r s w v ends too =
    absurd (ends y v.0 (subst (λ (b : List ℕ). Found (optional (item after)) b (Some y) v.0) w v.1))
walks_agree item key d after (x ∷ xs) [] bytes r s w v ends too =
    absurd (too x w.0 (subst (λ (b : List ℕ). Found (optional (item after)) b (Some x) w.0) v w.1))
walks_agree item key d after (x ∷ xs) (y ∷ ys) bytes r s w v ends too =
    let e = (optional_decided (d after)).one bytes (Some x) (Some y) w.0 v.0 w.1 v.1 in
    let k : x ≡ y = some_one x y e.0 in
    let v' : Walks item key (Some (key x)) w.0 ys s = subst (λ (b : List ℕ). Walks item key (Some (key x)) b ys s) (sym e.1) (subst (λ z. Walks item key (Some (key z)) v.0 ys s) (sym k) v.2) in
    let too' : NoMore (item (last_key key (Some (key x)) ys)) s = subst (λ z. NoMore (item (last_key key (Some (key z)) ys)) s) (sym k) too in
    let others = walks_agree item key d (Some (key x)) xs ys w.0 r s w.2 v' ends too' in
    (rw (k, others.0) refl, others.1)

walks_shorter : {K A : Type 0} (item : Option K → Part A) (key : A → K) (d : (k : Option K) → Decided (item k)) (after : Option K) (xs : List A) (bytes r : List ℕ) → Walks item key after bytes xs r → length r ≤ length bytes
walks_shorter item key d after [] bytes r w = omega (arith, ap length w)
walks_shorter item key d after (x ∷ xs) bytes r w = omega (arith, (optional_decided (d after)).shorter bytes (Some x) w.0 w.1, walks_shorter item key d (Some (key x)) xs w.0 r w.2)

pub repeated_decided : {K A : Type 0} (item : Option K → Part A) (key : A → K) → ((k : Option K) → Decided (item k)) → (after : Option K) → Decided (repeated item key after)
unfolding repeated
repeated_decided item key d after = record {
  one = λ bytes a b r s f g.
      let e = walks_agree item key d after a b bytes f.is.0 g.is.0 f.is.1 g.is.1 (ended (d _) f.is.0 r f.is.2) (ended (d _) g.is.0 s g.is.2) in
      let g' : Found (optional (item (last_key key after a))) f.is.0 None s = subst (λ (x : List ℕ). Found (optional (item (last_key key after a))) x None s) (sym e.1) (subst (λ xs. Found (optional (item (last_key key after xs))) g.is.0 None s) (sym e.0) g.is.2) in
      (e.0, ((optional_decided (d (last_key key after a))).one f.is.0 None None r s f.is.2 g').1);
  apart = λ bytes a r fault f g.
      let e = walks_agree item key d after a g.is.0 bytes f.is.0 g.is.1 f.is.1 g.is.2 (ended (d _) f.is.0 r f.is.2) (failed (d _) g.is.1 fault g.is.3) in
      let g' : Fails (optional (item (last_key key after a))) f.is.0 fault = subst (λ (x : List ℕ). Fails (optional (item (last_key key after a))) x fault) (sym e.1) (subst (λ xs. Fails (optional (item (last_key key after xs))) g.is.1 fault) (sym e.0) g.is.3) in
      (optional_decided (d (last_key key after a))).apart f.is.0 None r fault f.is.2 g';
  one_fault = λ bytes fault other f g.
      let e = walks_agree item key d after f.is.0 g.is.0 bytes f.is.1 g.is.1 f.is.2 g.is.2 (failed (d _) f.is.1 fault f.is.3) (failed (d _) g.is.1 other g.is.3) in
      let g' : Fails (optional (item (last_key key after f.is.0))) f.is.1 other = subst (λ (x : List ℕ). Fails (optional (item (last_key key after f.is.0))) x other) (sym e.1) (subst (λ xs. Fails (optional (item (last_key key after xs))) g.is.1 other) (sym e.0) g.is.3) in
      (optional_decided (d (last_key key after f.is.0))).one_fault f.is.1 fault other f.is.3 g';
  no_want = λ bytes f. (optional_decided (d _)).no_want f.is.1 f.is.3;
  shorter = λ bytes a r f. omega (arith, walks_shorter item key d after a bytes f.is.0 f.is.1, (optional_decided (d _)).shorter f.is.0 None r f.is.2);
}
