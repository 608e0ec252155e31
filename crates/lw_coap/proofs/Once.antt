-- Bytes are read in one way: whole options, and then what is no option.
use Rattle.std.proofs.Common.{◌≡◌, ℕ, ◌+◌, ◌*◌, ◌≤◌, List, [], ◌∷◌, ◌++◌, length, refl, ap, sym, subst, ◌∙◌, arith, append_assoc}
use Rattle.lw_coap.specs.Message.{OptionContent}
use Rattle.lw_coap.specs.Grammar.{IsExtended, IsOptionHead, IsOption, AreOptions, number_after, IsPayload}

pub cons_one : (a b : ℕ) (x y : List ℕ) → a ∷ x ≡ b ∷ y → (a ≡ b) × (x ≡ y)
cons_one a b x y e = (cc, cc)

-- parts of one length at the front are one
pub front_one : (a b x y : List ℕ) → length a ≡ length b → a ++ x ≡ b ++ y → (a ≡ b) × (x ≡ y)
front_one [] [] x y l e = (refl, e)
front_one [] (b ∷ right) x y l e = absurd (omega arith)
front_one (a ∷ left) [] x y l e = absurd (omega arith)
front_one (a ∷ left) (b ∷ right) x y l e =
    let h = cons_one a b (left ++ x) (right ++ y) e in
    let k = front_one left right x y (omega arith) h.1 in
    (rw (h.0, k.0) refl, k.1)

pub extended_small : (n : ℕ) (bytes : List ℕ) (v : ℕ) → IsExtended n bytes v → n ≤ 14
extended_small n [] v h = omega (arith, h.0)
extended_small n (a ∷ []) v h = omega (arith, h.0)
extended_small n (a ∷ b ∷ []) v h = omega (arith, h.0)
extended_small n (a ∷ b ∷ c ∷ more) v h = absurd h

pub extended_one : (n : ℕ) (a b x y : List ℕ) (v w : ℕ) → IsExtended n a v → IsExtended n b w → a ++ x ≡ b ++ y → (a ≡ b) × (v ≡ w) × (x ≡ y)
extended_one n [] [] x y v w h k e = (refl, h.1 ∙ sym k.1, e)
extended_one n [] (b ∷ []) x y v w h k e = absurd (omega (arith, h.0, k.0))
extended_one n [] (b ∷ c ∷ []) x y v w h k e = absurd (omega (arith, h.0, k.0))
extended_one n [] (b ∷ c ∷ d ∷ more) x y v w h k e = absurd k
extended_one n (a ∷ []) [] x y v w h k e = absurd (omega (arith, h.0, k.0))
extended_one n (a ∷ []) (b ∷ []) x y v w h k e =
    let p = cons_one a b x y e in
    (rw p.0 refl, h.2 ∙ rw p.0 refl ∙ sym k.2, p.1)
extended_one n (a ∷ []) (b ∷ c ∷ []) x y v w h k e = absurd (omega (arith, h.0, k.0))
extended_one n (a ∷ []) (b ∷ c ∷ d ∷ more) x y v w h k e = absurd k
extended_one n (a ∷ c ∷ []) [] x y v w h k e = absurd (omega (arith, h.0, k.0))
extended_one n (a ∷ c ∷ []) (b ∷ []) x y v w h k e = absurd (omega (arith, h.0, k.0))
extended_one n (a ∷ c ∷ []) (b ∷ d ∷ []) x y v w h k e =
    let p = cons_one a b (c ∷ x) (d ∷ y) e in
    let q = cons_one c d x y p.1 in
    (rw (p.0, q.0) refl, h.3 ∙ rw (p.0, q.0) refl ∙ sym k.3, q.1)
extended_one n (a ∷ c ∷ []) (b ∷ d ∷ f ∷ more) x y v w h k e = absurd k
extended_one n (a ∷ c ∷ d ∷ more) b x y v w h k e = absurd h

-- an option head begins with its nibbles
pub head_one : (a b x y : List ℕ) (delta delta' len len' : ℕ) → IsOptionHead a delta len → IsOptionHead b delta' len' → a ++ x ≡ b ++ y
    → (a ≡ b) × (delta ≡ delta') × (len ≡ len') × (x ≡ y)
head_one a b x y delta delta' len len' h k e =
    let whole : (16 * h.delta_nibble + h.length_nibble) ∷ ((h.delta_bytes ++ h.length_bytes) ++ x) ≡ (16 * k.delta_nibble + k.length_nibble) ∷ ((k.delta_bytes ++ k.length_bytes) ++ y) = sym (ap (λ (s : List ℕ). s ++ x) h.bytes_are) ∙ e ∙ ap (λ (s : List ℕ). s ++ y) k.bytes_are in
    let p = cons_one (16 * h.delta_nibble + h.length_nibble) (16 * k.delta_nibble + k.length_nibble) ((h.delta_bytes ++ h.length_bytes) ++ x) ((k.delta_bytes ++ k.length_bytes) ++ y) whole in
    let d : h.delta_nibble ≡ k.delta_nibble = omega (arith, p.0, extended_small h.length_nibble h.length_bytes len h.length_is, extended_small k.length_nibble k.length_bytes len' k.length_is) in
    let l : h.length_nibble ≡ k.length_nibble = omega (arith, p.0, d) in
    let rest : h.delta_bytes ++ (h.length_bytes ++ x) ≡ k.delta_bytes ++ (k.length_bytes ++ y) = sym (append_assoc h.delta_bytes h.length_bytes x) ∙ p.1 ∙ append_assoc k.delta_bytes k.length_bytes y in
    let kd : IsExtended h.delta_nibble k.delta_bytes delta' = subst (λ (n : ℕ). IsExtended n k.delta_bytes delta') (sym d) k.delta_is in
    let kl : IsExtended h.length_nibble k.length_bytes len' = subst (λ (n : ℕ). IsExtended n k.length_bytes len') (sym l) k.length_is in
    let q = extended_one h.delta_nibble h.delta_bytes k.delta_bytes (h.length_bytes ++ x) (k.length_bytes ++ y) delta delta' h.delta_is kd rest in
    let r = extended_one h.length_nibble h.length_bytes k.length_bytes x y len len' h.length_is kl q.2 in
    (h.bytes_are ∙ rw (d, l, q.0, r.0) refl ∙ sym k.bytes_are, q.1, r.1, r.2)

option_is : (o p : OptionContent) → o.number ≡ p.number → o.value ≡ p.value → o ≡ p
option_is o p n v = ap (λ (x : ℕ). record { number = x; value = o.value }) n ∙ ap (λ (x : List ℕ). record { number = p.number; value = x }) v

pub option_one : (before : ℕ) (a b x y : List ℕ) (o p : OptionContent) → IsOption before a o → IsOption before b p → a ++ x ≡ b ++ y → (a ≡ b) × (o ≡ p) × (x ≡ y)
option_one before a b x y o p h k e =
    let whole : h.head ++ (o.value ++ x) ≡ k.head ++ (p.value ++ y) =
    sym (append_assoc h.head o.value x) ∙ sym (ap (λ (s : List ℕ). s ++ x) h.bytes_are) ∙ e ∙ ap (λ (s : List ℕ). s ++ y) k.bytes_are ∙ append_assoc k.head p.value y in
    let q = head_one h.head k.head (o.value ++ x) (p.value ++ y) h.delta k.delta (length o.value) (length p.value) h.head_is k.head_is whole in
    let v = front_one o.value p.value x y q.2 q.3 in
    let n : o.number ≡ p.number = omega (arith, h.number_is, k.number_is, q.1) in
    (h.bytes_are ∙ rw (q.0, v.0) refl ∙ sym k.bytes_are, option_is o p n v.0, v.1)

-- no option stands here
abbrev pub NoOption : ℕ → List ℕ → Type 0
NoOption before bytes = (a x : List ℕ) (o : OptionContent) → bytes ≡ a ++ x → IsOption before a o → ⊥

pub options_one : (before : ℕ) (os ps : List OptionContent) (a b x y : List ℕ) → AreOptions before a os → AreOptions before b ps → a ++ x ≡ b ++ y
    → NoOption (number_after before os) x → NoOption (number_after before ps) y → (os ≡ ps) × (a ≡ b) × (x ≡ y)
options_one before [] [] a b x y h k e ends ends_too =
    (refl, h ∙ sym k, sym (ap (λ (s : List ℕ). s ++ x) h) ∙ e ∙ ap (λ (s : List ℕ). s ++ y) k)
options_one before [] (p ∷ ps) a b x y h k e ends ends_too =
    let parts : x ≡ k.0 ++ (k.1 ++ y) = sym (ap (λ (s : List ℕ). s ++ x) h) ∙ e ∙ ap (λ (s : List ℕ). s ++ y) k.2 ∙ append_assoc k.0 k.1 y in
    absurd (ends k.0 (k.1 ++ y) p parts k.3)
options_one before (o ∷ os) [] a b x y h k e ends ends_too =
    let parts : y ≡ h.0 ++ (h.1 ++ x) = sym (ap (λ (s : List ℕ). s ++ y) k) ∙ sym e ∙ ap (λ (s : List ℕ). s ++ x) h.2 ∙ append_assoc h.0 h.1 x in
    absurd (ends_too h.0 (h.1 ++ x) o parts h.3)
options_one before (o ∷ os) (p ∷ ps) a b x y h k e ends ends_too =
    let whole : h.0 ++ (h.1 ++ x) ≡ k.0 ++ (k.1 ++ y) =
    sym (append_assoc h.0 h.1 x) ∙ sym (ap (λ (s : List ℕ). s ++ x) h.2) ∙ e ∙ ap (λ (s : List ℕ). s ++ y) k.2 ∙ append_assoc k.0 k.1 y in
    let first = option_one before h.0 k.0 (h.1 ++ x) (k.1 ++ y) o p h.3 k.3 whole in
    let kk : AreOptions o.number k.1 ps = subst (λ (q : OptionContent). AreOptions q.number k.1 ps) (sym first.1) k.4 in
    let nn : NoOption (number_after o.number ps) y = subst (λ (q : OptionContent). NoOption (number_after q.number ps) y) (sym first.1) ends_too in
    let others = options_one o.number os ps h.1 k.1 x y h.4 kk first.2 ends nn in
    (rw (first.1, others.0) refl, h.2 ∙ rw (first.0, others.1) refl ∙ sym k.2, others.2)

pub payload_one : (bytes p q : List ℕ) → IsPayload bytes p → IsPayload bytes q → p ≡ q
payload_one bytes [] [] h k = refl
payload_one bytes [] (b ∷ q) h k = absurd cc
payload_one bytes (a ∷ p) [] h k = absurd cc
payload_one bytes (a ∷ p) (b ∷ q) h k = cc
