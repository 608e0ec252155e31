-- The faults of `one`, each at its place.
use Rattle.std.proofs.Common.{◌≡◌, ℕ, ◌⊎◌, List, Option, Some, None, Result, Ok, Err, sym, subst, ◌∙◌, inl, inr}
use Rattle.std.specs.Prelude.{IfErr, IfSome, OnErr, OnOk, IsErrAnd, IsOkUnless}
use Rattle.lw_fleet.specs.declared.fault.Fault.{Fault}
use Rattle.lw_fleet.specs.declared.fault.Fault.TheVariants.{AddressRefused, ReadFailed, TooLong, HexRefused, WriteFailed, NoMemory}
use Rattle.lw_fleet.specs.One.{IsAddressText}

-- what holds of each value holds of the one that is there
pub if_some : {T : Type 0} (o : Option T) (P Q : T → Type 0) → IfSome o P → ((t : T) → P t → Q t) → IfSome o Q
if_some (Some t) P Q h f = f t h
if_some None P Q h f = tt

abbrev failed : Fault → Result Unit Fault
failed e = Err e

error_is : (a b : Fault) → failed a ≡ failed b → a ≡ b
error_is a b h = cc

-- another fault comes, of a good address
pub another_fault : (r : Result Unit Fault) (e : Fault) (text : List ℕ) → IsAddressText text → r ≡ Err e → (e ≡ AddressRefused → ⊥)
    → (r ≡ Err AddressRefused → IsAddressText text → ⊥) × ((IsAddressText text → ⊥) → r ≡ Err AddressRefused)
another_fault r e text address is other = (λ refused _. other (error_is e AddressRefused (sym is ∙ refused)), λ none. absurd (none address))

pub no_fault : (r : Result Unit Fault) (text : List ℕ) → IsAddressText text → (r ≡ Err AddressRefused → ⊥)
    → (r ≡ Err AddressRefused → IsAddressText text → ⊥) × ((IsAddressText text → ⊥) → r ≡ Err AddressRefused)
no_fault r text address other = (λ refused _. other refused, λ none. absurd (none address))

pub of_line : (e : Fault) → (e ≡ ReadFailed) ⊎ ((e ≡ TooLong) ⊎ (e ≡ NoMemory)) → e ≡ AddressRefused → ⊥
of_line e (inl h) k = cc
of_line e (inr (inl h)) k = cc
of_line e (inr (inr h)) k = cc

pub of_hex : (e : Fault) → (e ≡ HexRefused) ⊎ (e ≡ NoMemory) → e ≡ AddressRefused → ⊥
of_hex e (inl h) k = cc
of_hex e (inr h) k = cc

pub of_memory : (e : Fault) → e ≡ NoMemory → e ≡ AddressRefused → ⊥
of_memory e h k = cc

pub of_writing : (r : Result Unit Fault) → IsOkUnless r WriteFailed → r ≡ Err AddressRefused → ⊥
of_writing (Ok x) h k = cc
of_writing (Err e) h k = let same = error_is e AddressRefused k in cc

-- a writer that failed may have taken a front of the text
pub failed_front : (r : Result Unit Fault) (e : Fault) (P : Type 0) → OnErr r P → r ≡ Err e → P
failed_front (Ok x) e P h k = absurd cc
failed_front (Err f) e P h k = h

pub on_ok : {T E : Type 0} (r : Result T E) (P Q : Type 0) → OnOk r P → (P → Q) → OnOk r Q
on_ok (Ok x) P Q h f = f h
on_ok (Err e) P Q h f = h

-- what holds anyway holds at an error
pub on_err : {T E : Type 0} (r : Result T E) (P : Type 0) → P → OnErr r P
on_err (Ok x) P h = tt
on_err (Err e) P h = h

pub err_then : {T E : Type 0} (r : Result T E) (P Q : Type 0) → OnErr r P → (P → Q) → OnErr r Q
err_then (Ok x) P Q h f = tt
err_then (Err e) P Q h f = f h

pub if_err_is : {T E : Type 0} (r : Result T E) (x : E) (P : E → Type 0) → IsErrAnd r (λ e. e ≡ x) → P x → IfErr r P
if_err_is (Ok y) x P h p = tt
if_err_is (Err e) x P h p = subst P (sym h) p

pub if_err_then : {T E : Type 0} (r : Result T E) (P : E → Type 0) (Q : Type 0) (S : E → Type 0) → IfErr r P → OnErr r Q → ((e : E) → P e → Q → S e) → IfErr r S
if_err_then (Ok y) P Q S h k f = tt
if_err_then (Err e) P Q S h k f = f e h k
