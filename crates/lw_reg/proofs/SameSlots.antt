-- Whether two slots are one, by the numbers that they are written as.
use Rattle.std.proofs.Common.{◌≡◌, ◌≢◌, ℕ, zero, suc, Option, refl, ap, arith}
use Rattle.std.specs.Coded.{Coded, coded_option}
use base.Stored.{Gv, gnil, gnum, gcons}
use Rattle.lw_reg.specs.declared.slot.Slot.{Slot}
use Rattle.lw_reg.specs.contracts.slot.Slot as slots

same_number : {G : Type 0} (m n : ℕ) → (m ≡ n → G) → (m ≢ n → G) → G
same_number zero zero same other = same refl
same_number zero (suc n) same other = other (λ e. omega (arith, e))
same_number (suc m) zero same other = other (λ e. omega (arith, e))
same_number (suc m) (suc n) same other = same_number m n (λ e. same (ap suc e)) (λ no. other (λ e. no (omega (arith, e))))

same_code : {G : Type 0} (a b : Gv) → (a ≡ b → G) → (a ≢ b → G) → G
same_code gnil gnil same other = same refl
same_code gnil (gnum n) same other = other (λ e. cc)
same_code gnil (gcons c d) same other = other (λ e. cc)
same_code (gnum m) gnil same other = other (λ e. cc)
same_code (gnum m) (gnum n) same other = same_number m n (λ e. same (ap gnum e)) (λ no. other (λ e. no (let f : m ≡ n = cc in f)))
same_code (gnum m) (gcons c d) same other = other (λ e. cc)
same_code (gcons a b) gnil same other = other (λ e. cc)
same_code (gcons a b) (gnum n) same other = other (λ e. cc)
same_code (gcons a b) (gcons c d) same other =
    same_code a c
    (λ e. same_code b d (λ f. same (λ i. gcons (e i) (f i))) (λ no. other (λ g. no (let f : b ≡ d = cc in f))))
    (λ no. other (λ g. no (let f : a ≡ c = cc in f)))

maybe_slot : Coded (Option Slot)
maybe_slot = coded_option (slots.the_row).coded

pub same_slot : {G : Type 0} (a b : Option Slot) → (a ≡ b → G) → (a ≢ b → G) → G
same_slot a b same other = same_code (maybe_slot.code a) (maybe_slot.code b) (λ e. same (maybe_slot.inj a b e)) (λ no. other (λ e. no (ap maybe_slot.code e)))
