-- What reading answers, and what the bytes are.
use Rattle.std.proofs.Common.{◌≡◌, ◌≢◌, ℕ, ◌≤◌, ◌↔◌, List, length, refl, ap, subst, sym, ◌∙◌, inl, inr, arith, chars, IsUtf8, Result, Ok, Err, MatchResult, IfOk, IfErr, true}
use Rattle.std.proofs.lemmas.Bool.{cases_order}
use Rattle.lw_link.specs.declared.fault.LinkFault.{LinkFault}
use Rattle.lw_link.specs.declared.fault.LinkFault.TheVariants.{NotText, Grammar, TooMany, NoMemory}
use Rattle.lw_link.specs.declared.style.Style.TheVariants.{Any}
use Rattle.lw_link.specs.Link.{LinkContent}
use Rattle.lw_link.specs.Spelling.{Spells}
use Rattle.lw_link.specs.Faults.{IsPlace, IsFault, IsRead}
use Rattle.lw_link.specs.inner.Faults.{IsRefused}
use Rattle.lw_link.specs.declared.state.State.TheVariants.{Start}
use Rattle.lw_link.specs.inner.Machine.{read_on}
use Rattle.lw_link.proofs.Complete.{one_list}
use Rattle.lw_link.proofs.Sound.{whole_are}

pub one_spelled : (bytes : List ℕ) (a b : List LinkContent) → Spells bytes a → Spells bytes b → a ≡ b
one_spelled bytes a b h k = one_list Any (chars bytes) a b h.1 k.1

pub apart : (bytes : List ℕ) (f : LinkFault) → IsRead bytes → IsFault bytes f → ⊥
apart bytes NotText h k = k h.1.0
apart bytes (Grammar place) h k = k.1 h.0 h.1
apart bytes TooMany (links, h, few) (others, k, many) =
    let same : length links ≡ length others = ap length (one_spelled bytes links others h k) in
    absurd (omega (arith, same, few, many))
apart bytes NoMemory h k = k

one_place : (bytes : List ℕ) (p q : ℕ) → IsPlace bytes p → IsPlace bytes q → p ≡ q
one_place bytes p q h k =
    elim (cases_order p q) [
      | inl e ↦ e
      | inr other ↦ elim other [
        | inl lt ↦ absurd (h.longest q lt k.within k.whole k.begins)
        | inr lt ↦ absurd (k.longest p lt h.within h.whole h.begins)
      ]
    ]

pub one_fault : (bytes : List ℕ) (f g : LinkFault) → IsFault bytes f → IsFault bytes g → f ≡ g
one_fault bytes NotText NotText h k = refl
one_fault bytes NotText (Grammar q) h k = absurd (h k.0)
one_fault bytes NotText TooMany h k = absurd (h k.1.0)
one_fault bytes NotText NoMemory h k = absurd k
one_fault bytes (Grammar p) NotText h k = absurd (k h.0)
one_fault bytes (Grammar p) (Grammar q) h k = ap (λ (n : ℕ). Grammar n) (one_place bytes p q h.2 k.2)
one_fault bytes (Grammar p) TooMany h k = absurd (h.1 k.0 k.1)
one_fault bytes (Grammar p) NoMemory h k = absurd k
one_fault bytes TooMany NotText h k = absurd (k h.1.0)
one_fault bytes TooMany (Grammar q) h k = absurd (k.1 h.0 h.1)
one_fault bytes TooMany TooMany h k = refl
one_fault bytes TooMany NoMemory h k = absurd k
one_fault bytes NoMemory g h k = absurd h

ok_err : {V : Type 0} (v : V) (f : LinkFault) → (◌≡◌ {A = Result V LinkFault} (Ok v) (Err f)) → ⊥
ok_err v f e = cc

err_is : {V : Type 0} (g f : LinkFault) → (◌≡◌ {A = Result V LinkFault} (Err g) (Err f)) → g ≡ f
err_is g f e = cc

-- a read value, or a refusal
abbrev pub Answers : {V : Type 0} → List ℕ → Result V LinkFault → Type 0
Answers bytes r = MatchResult r (λ _. IsRead bytes) (IsRefused bytes)

fault_of : {V : Type 0} (bytes : List ℕ) (r : Result V LinkFault) (f : LinkFault) → f ≢ NoMemory → Answers bytes r → r ≡ Err f → IsFault bytes f
fault_of {V = V} bytes (Ok v) f other h e = absurd (ok_err v f e)
fault_of {V = V} bytes (Err g) f other (inl (m, read)) e = absurd (other (sym (err_is {V = V} g f e) ∙ m))
fault_of {V = V} bytes (Err g) f other (inr h) e = subst (IsFault bytes) (err_is {V = V} g f e) h

answer_of : {V : Type 0} (bytes : List ℕ) (r : Result V LinkFault) (f : LinkFault) → Answers bytes r → IsFault bytes f → r ≡ Err f
answer_of bytes (Ok v) f h k = absurd (apart bytes f h k)
answer_of bytes (Err g) f (inl (m, read)) k = absurd (apart bytes f read k)
answer_of bytes (Err g) f (inr h) k = ap (λ (x : LinkFault). Err x) (one_fault bytes g f h k)

pub faults : {V : Type 0} (bytes : List ℕ) (r : Result V LinkFault) → Answers bytes r → (f : LinkFault) → f ≢ NoMemory → (r ≡ Err f) ↔ IsFault bytes f
faults bytes r h f other = (fault_of bytes r f other h, answer_of bytes r f h)

pub memory : {V : Type 0} (bytes : List ℕ) (r : Result V LinkFault) → Answers bytes r → r ≡ Err NoMemory → IsRead bytes
memory {V = V} bytes (Ok v) h e = absurd (ok_err v NoMemory e)
memory {V = V} bytes (Err g) (inl (m, read)) e = read
memory {V = V} bytes (Err g) (inr h) e = absurd (subst (IsFault bytes) (err_is {V = V} g NoMemory e) h)

-- what is spelled is not refused for another cause
pub only_memory : (bytes : List ℕ) (f : LinkFault) → IsRead bytes → IsRefused bytes f → f ≡ NoMemory
only_memory bytes f h (inl (m, read)) = m
only_memory bytes f h (inr k) = absurd (apart bytes f h k)

pub read_is : (bytes : List ℕ) → IsUtf8 bytes → (read_on Any Start (chars bytes)).whole ≡ true → length (read_on Any Start (chars bytes)).links ≤ 256
    → Spells bytes (read_on Any Start (chars bytes)).links × (length (read_on Any Start (chars bytes)).links ≤ 256)
read_is bytes u whole few = ((u, whole_are Any (chars bytes) Start whole), few)

pub answers : {V : Type 0} (bytes : List ℕ) (r : Result V LinkFault) (P : V → Type 0) → ((v : V) → P v → IsRead bytes) → IfOk r P → IfErr r (IsRefused bytes) → Answers bytes r
answers bytes (Ok v) P f h k = f v h
answers bytes (Err g) P f h k = k

pub only : {V : Type 0} (bytes : List ℕ) (r : Result V LinkFault) (P : V → Type 0) (Q : V → Type 0) → IsRead bytes → ((v : V) → P v → Q v) → IfOk r P → IfErr r (IsRefused bytes)
    → MatchResult r Q (λ f. f ≡ NoMemory)
only bytes (Ok v) P Q read f h k = f v h
only bytes (Err g) P Q read f h k = only_memory bytes g read k
