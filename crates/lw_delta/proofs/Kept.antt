-- What the texts that were found keep.
use Rattle.std.proofs.Common.{◌≡◌, ℕ, Bool, true, false, List, [], ◌∷◌, length, Option, Some, None, IfSome, subst, sym, ap, ◌∙◌, arith}
use Rattle.std.specs.List.{AllByRecursion}
use Rattle.lw_reg.specs.Endpoint.{IsEndpoint}
use Rattle.lw_delta.specs.Part.{Part, Found, bytes_of, means, must, followed, when, optional, Walks, repeated}
use Rattle.lw_delta.specs.Format.{written, text, endpoint}

-- what holds of each value of a part holds of the one that is there
abbrev pub Each : {A : Type 0} → Part A → (A → Type 0) → Type 0
Each {A} part Q = (bytes : List ℕ) (value : A) (rest : List ℕ) → Found part bytes value rest → Q value

pub when_each : {A : Type 0} (part : Part A) (Q : A → Type 0) → Each part Q → (flag : Bool) (bytes : List ℕ) (o : Option A) (rest : List ℕ) → Found (when flag part) bytes o rest → IfSome o Q
unfolding followed means
when_each part Q each true bytes o rest f = subst (λ x. IfSome x Q) (sym f.is.3.is.1) (each bytes f.is.0 f.is.1 f.is.2)
when_each part Q each false bytes o rest f = subst (λ x. IfSome x Q) (sym f.is.1) tt

pub optional_each : {A : Type 0} (part : Part A) (Q : A → Type 0) → Each part Q → Each (optional part) (λ o. IfSome o Q)
unfolding followed
optional_each part Q each bytes o rest f = when_each part Q each f.is.0 f.is.1 o rest f.is.3

there_is : {A : Type 0} (part : Part A) (Q : A → Type 0) → Each part Q → (flag : Bool) (bytes : List ℕ) (x : A) (rest : List ℕ) → Found (when flag part) bytes (Some x) rest → Q x
there_is part Q each flag bytes x rest f = when_each part Q each flag bytes (Some x) rest f

pub some_each : {A : Type 0} (part : Part A) (Q : A → Type 0) → Each part Q → (bytes : List ℕ) (x : A) (rest : List ℕ) → Found (optional part) bytes (Some x) rest → Q x
unfolding followed
some_each part Q each bytes x rest f = there_is part Q each f.is.0 f.is.1 x rest f.is.3

walks_each : {K A : Type 0} (item : Option K → Part A) (key : A → K) (Q : A → Type 0) → ((after : Option K) → Each (item after) Q) → (after : Option K) (bytes : List ℕ) (xs : List A) (rest : List ℕ)
    → Walks item key after bytes xs rest → AllByRecursion Q xs
walks_each item key Q each after bytes [] rest w = tt
walks_each item key Q each after bytes (x ∷ xs) rest w = (some_each (item after) Q (each after) bytes x w.0 w.1, walks_each item key Q each (Some (key x)) w.0 xs rest w.2)

pub repeated_each : {K A : Type 0} (item : Option K → Part A) (key : A → K) (Q : A → Type 0) → ((after : Option K) → Each (item after) Q) → Each (repeated item key None) (λ xs. AllByRecursion Q xs)
unfolding repeated
repeated_each item key Q each bytes xs rest f = walks_each item key Q each None bytes xs f.is.0 f.is.1

pub written_each : {A : Type 0} (clock : ℕ) (part : Part A) (Q : A → Type 0) → Each part Q → Each (written clock part) (λ w. Q w.1)
unfolding followed means
written_each clock part Q each bytes w rest f = subst (λ x. Q x.1) (sym f.is.3.is.3.is.1) (each f.is.1 f.is.3.is.0 f.is.3.is.1 f.is.3.is.2)

pub bytes_length : (count : ℕ) → Each (bytes_of count) (λ b. length b ≡ count)
unfolding bytes_of
bytes_length count bytes b rest f = f.is.1

pub text_length : (count : ℕ) → Each (text count) (λ t. length t ≡ count)
unfolding followed must means
text_length count bytes t rest f = ap length f.is.3.is.1.is.1 ∙ bytes_length count bytes f.is.0 f.is.1 f.is.2

pub endpoint_named : (after : Option (List ℕ)) → Each (endpoint after) IsEndpoint
unfolding followed must means
endpoint_named after bytes e rest f =
    let t = f.is.3.is.1.is in
    let same : e ≡ t.0 = t.3.is.1.is.1 in
    let long : length t.0 ≡ f.is.0 = text_length _ _ _ _ t.2 in
    record { some = omega (arith, f.is.3.is.0.0, ap length same, long); most = omega (arith, f.is.3.is.0.1, ap length same, long) }
