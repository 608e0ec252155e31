-- What is answered of bytes, from what is known of the answer.
use Rattle.std.proofs.Common.{◌≡◌, ◌↔◌, ◌==◌, true, false, length, arith, ℕ, ◌⊎◌, List, [], ◌∷◌, Result, Ok, Err, IfOk, refl, sym, ap, ◌∙◌, subst, inl, inr}
use mathlib.Core.Bool.{true≢false}
use Rattle.std.proofs.lemmas.Bool.{ne_eqb}
use Rattle.lw_reg.specs.declared.slot.Slot.{Slot}
use Rattle.lw_delta.specs.declared.fault.DeltaFault.{DeltaFault}
use Rattle.lw_delta.specs.declared.fault.DeltaFault.TheVariants.{Trailing, NoMemory}
use Rattle.lw_delta.specs.declared.checking.Walked.{Walked}
use Rattle.lw_delta.specs.inner.Lent.{WalkedAs}
use Rattle.lw_delta.specs.Part.{Found}
use Rattle.lw_delta.specs.Format.{slots, delta}
use Rattle.lw_delta.specs.Delta.{DeltaContent, IsSpelling, HasTrailing, IsFault}
use Rattle.lw_delta.specs.inner.Delta.{Checks, Reads}
use Rattle.lw_delta.proofs.Grammar.{slots_decided, delta_decided}
use Rattle.lw_delta.proofs.Parts.{both, given}

nothing_behind : (b : ℕ) (rest : List ℕ) → [] ≡ b ∷ rest → ⊥
nothing_behind b rest e = cc

pub no_want : (bytes : List ℕ) → IsFault bytes NoMemory → ⊥
no_want bytes (inl f) = delta_decided.no_want bytes f
no_want bytes (inr f) = let e : NoMemory ≡ Trailing = f.0 in cc

pub apart : (bytes : List ℕ) (d : DeltaContent) (f : DeltaFault) → IsSpelling bytes d → IsFault bytes f → ⊥
apart bytes d f s (inl x) = delta_decided.apart bytes (d.clock, d.slots) [] f s x
apart bytes d f s (inr x) = nothing_behind x.1.1 x.1.2 (delta_decided.one bytes (d.clock, d.slots) x.1.0 [] (x.1.1 ∷ x.1.2) s x.1.3).1

pub one_fault : (bytes : List ℕ) (f g : DeltaFault) → IsFault bytes f → IsFault bytes g → f ≡ g
one_fault bytes f g (inl x) (inl y) = delta_decided.one_fault bytes f g x y
one_fault bytes f g (inl x) (inr y) = absurd (delta_decided.apart bytes y.1.0 (y.1.1 ∷ y.1.2) f y.1.3 x)
one_fault bytes f g (inr x) (inl y) = absurd (delta_decided.apart bytes x.1.0 (x.1.1 ∷ x.1.2) g x.1.3 y)
one_fault bytes f g (inr x) (inr y) = x.0 ∙ sym y.0

pub one_delta : (bytes : List ℕ) (d e : DeltaContent) → IsSpelling bytes d → IsSpelling bytes e → d ≡ e
one_delta bytes d e s t =
    let same = (delta_decided.one bytes (d.clock, d.slots) (e.clock, e.slots) [] [] s t).0 in
    ap (λ (p : ℕ × List (List ℕ × Slot)). let x : DeltaContent = record { clock = p.0; slots = p.1 } in x) same

pub has_trailing : (bytes : List ℕ) (d : ℕ × List (List ℕ × Slot)) (rest : List ℕ) → Found delta bytes d rest → false ≡ (length rest == 0) → HasTrailing bytes
has_trailing bytes d [] f e = absurd (true≢false (sym e))
has_trailing bytes d (b ∷ rest) f e = (d, b, rest, f)

pub none_left : (rest : List ℕ) → true ≡ (length rest == 0) → rest ≡ []
none_left [] e = refl
none_left (b ∷ rest) e = absurd (true≢false (e ∙ ne_eqb (length (b ∷ rest)) 0 (λ h. omega (arith, h))))

-- ---- check
pub only_clock : (bytes : List ℕ) (r : Result ℕ DeltaFault) → Checks bytes r → (d : DeltaContent) → IsSpelling bytes d → r ≡ Ok d.clock
only_clock bytes (Ok clock) h d s = ap (λ (e : DeltaContent). let x : Result ℕ DeltaFault = Ok e.clock in x) (one_delta bytes (record { clock = clock; slots = h.0 }) d h.1 s)
only_clock bytes (Err f) h d s = absurd (apart bytes d f s h)

err_is : {A : Type 0} (r : Result A DeltaFault) (f g : DeltaFault) → r ≡ Err f → r ≡ Err g → f ≡ g
err_is r f g h k = cc

ok_is_no_err : {A : Type 0} (r : Result A DeltaFault) (a : A) (f : DeltaFault) → r ≡ Ok a → r ≡ Err f → ⊥
ok_is_no_err r a f h k = cc

-- what is answered is the first fault, or there is none
pub fault_answered : {A : Type 0} (bytes : List ℕ) (g : DeltaFault) → IsFault bytes g → (f : DeltaFault) → (◌≡◌ {A = Result A DeltaFault} (Err g) (Err f)) ↔ IsFault bytes f
fault_answered {A} bytes g first f = (λ e. subst (IsFault bytes) (err_is (Err g) g f refl e) first, λ h. ap (λ y. let r : Result A DeltaFault = Err y in r) (one_fault bytes g f first h))

pub no_fault_answered : {A : Type 0} (bytes : List ℕ) (a : A) (d : DeltaContent) → IsSpelling bytes d → (f : DeltaFault) → (◌≡◌ {A = Result A DeltaFault} (Ok a) (Err f)) ↔ IsFault bytes f
no_fault_answered bytes a d s f = (λ e. absurd (ok_is_no_err (Ok a) a f refl e), λ h. absurd (apart bytes d f s h))

pub checked_fault : (bytes : List ℕ) (r : Result ℕ DeltaFault) → Checks bytes r → (f : DeltaFault) → r ≡ Err f → IsFault bytes f
checked_fault bytes (Ok clock) h f e = absurd (ok_is_no_err (Ok clock) clock f refl e)
checked_fault bytes (Err g) h f e = subst (λ x. IsFault bytes x) (err_is (Err g) g f refl e) h

pub fault_checked : (bytes : List ℕ) (r : Result ℕ DeltaFault) → Checks bytes r → (f : DeltaFault) → IsFault bytes f → r ≡ Err f
fault_checked bytes (Ok clock) h f x = absurd (apart bytes (record { clock = clock; slots = h.0 }) f h.1 x)
fault_checked bytes (Err g) h f x = ap (λ y. let r : Result ℕ DeltaFault = Err y in r) (one_fault bytes g f h x)

pub match_ok : (bytes : List ℕ) (r : Result ℕ DeltaFault) → Checks bytes r → IfOk r (λ clock. (slots : List (List ℕ × Slot)) × IsSpelling bytes (record { clock = clock; slots = slots }))
match_ok bytes (Ok clock) h = h
match_ok bytes (Err f) h = tt

-- ---- read
pub only_delta : (bytes : List ℕ) (r : Result DeltaContent DeltaFault) → Reads bytes r → (d : DeltaContent) → IsSpelling bytes d → (r ≡ Ok d) ⊎ (r ≡ Err NoMemory)
only_delta bytes (Ok e) h d s = inl (ap (λ x. let r : Result DeltaContent DeltaFault = Ok x in r) (one_delta bytes e d h s))
only_delta bytes (Err f) (inl h) d s = inr (ap (λ y. let r : Result DeltaContent DeltaFault = Err y in r) h.0)
only_delta bytes (Err f) (inr h) d s = absurd (apart bytes d f s h)

read_fault_of : (bytes : List ℕ) (g f : DeltaFault) → (f ≡ NoMemory → ⊥) → g ≡ f → ((g ≡ NoMemory) × (d : DeltaContent) × IsSpelling bytes d) ⊎ IsFault bytes g → IsFault bytes f
read_fault_of bytes g f other e (inl h) = absurd (other (sym e ∙ h.0))
read_fault_of bytes g f other e (inr h) = subst (λ x. IsFault bytes x) e h

pub read_fault : (bytes : List ℕ) (r : Result DeltaContent DeltaFault) → Reads bytes r → (f : DeltaFault) → (f ≡ NoMemory → ⊥) → r ≡ Err f → IsFault bytes f
read_fault bytes (Ok d) h f other e = absurd (ok_is_no_err (Ok d) d f refl e)
read_fault bytes (Err g) h f other e = read_fault_of bytes g f other (err_is (Err g) g f refl e) h

pub fault_read : (bytes : List ℕ) (r : Result DeltaContent DeltaFault) → Reads bytes r → (f : DeltaFault) → IsFault bytes f → r ≡ Err f
fault_read bytes (Ok d) h f x = absurd (apart bytes d f h x)
fault_read bytes (Err g) (inl h) f x = absurd (apart bytes h.1 f h.2 x)
fault_read bytes (Err g) (inr h) f x = ap (λ y. let r : Result DeltaContent DeltaFault = Err y in r) (one_fault bytes g f h x)

want_of : (bytes : List ℕ) (g : DeltaFault) → g ≡ NoMemory → ((g ≡ NoMemory) × (d : DeltaContent) × IsSpelling bytes d) ⊎ IsFault bytes g → (d : DeltaContent) × IsSpelling bytes d
want_of bytes g e (inl h) = (h.1, h.2)
want_of bytes g e (inr h) = absurd (no_want bytes (subst (λ x. IsFault bytes x) e h))

pub want_read : (bytes : List ℕ) (r : Result DeltaContent DeltaFault) → Reads bytes r → r ≡ Err NoMemory → (d : DeltaContent) × IsSpelling bytes d
want_read bytes (Ok d) h e = absurd (ok_is_no_err (Ok d) d NoMemory refl e)
want_read bytes (Err g) h e = want_of bytes g (err_is (Err g) g NoMemory refl e) h

pub read_found : (bytes : List ℕ) (r : Result DeltaContent DeltaFault) → Reads bytes r → IfOk r (λ d. IsSpelling bytes d)
read_found bytes (Ok d) h = h
read_found bytes (Err f) h = tt

-- ---- a delta that was walked
pub walked_spelled : (bytes : List ℕ) (w : Walked) (h : WalkedAs bytes w) → IsSpelling bytes (record { clock = w.clock; slots = h.ss })
walked_spelled bytes w h = both _ h.begun (both _ h.found given)

pub walked_again : (bytes : List ℕ) (w : Walked) → WalkedAs bytes w → (ss : List (List ℕ × Slot)) (rest : List ℕ) → Found (slots w.form w.clock) w.slots.now ss rest → IsSpelling bytes (record { clock = w.clock; slots = ss })
walked_again bytes w h ss rest f =
    let e = ((slots_decided w.form w.clock).one w.slots.now ss h.ss rest [] f h.found).0 in
    subst (λ xs. IsSpelling bytes (record { clock = w.clock; slots = xs })) (sym e) (walked_spelled bytes w h)

no_items : {A : Type 0} (xs : List A) → length xs ≡ 0 → xs ≡ []
no_items [] e = refl
no_items (x ∷ xs) e = absurd (omega (arith, e))

pub none_spelled : (bytes : List ℕ) (w : Walked) → WalkedAs bytes w → w.slot_count ≡ 0 → IsSpelling bytes (record { clock = w.clock; slots = [] })
none_spelled bytes w h e = subst (λ xs. IsSpelling bytes (record { clock = w.clock; slots = xs })) (no_items h.ss (sym h.counted ∙ e)) (walked_spelled bytes w h)

pub some_spelled : (bytes : List ℕ) (w : Walked) → WalkedAs bytes w → (w.slot_count ≡ 0 → ⊥) → (d : DeltaContent) → IsSpelling bytes d → d.slots ≡ [] → ⊥
some_spelled bytes w h some d s none =
    let e = one_delta bytes (record { clock = w.clock; slots = h.ss }) d (walked_spelled bytes w h) s in
    let same : h.ss ≡ [] = ap (λ (x : DeltaContent). x.slots) e ∙ none in
    some (h.counted ∙ ap length same)
