-- What stands behind whole options: a payload, or one fault.
use Rattle.std.proofs.Common.{◌≡◌, ℕ, ◌+◌, ◌*◌, ◌<◌, ◌≤◌, ◌⊎◌, List, [], ◌∷◌, ◌++◌, length, refl, ap, sym, subst, ◌∙◌, arith, inl, inr, append_assoc, length-append}
use Rattle.lw_coap.specs.declared.fault.Fault.{Fault}
use Rattle.lw_coap.specs.declared.fault.Fault.TheVariants.{Short, Version, TokenLength, OptionHead, Truncated, EmptyPayload, EmptyMessage, TooLong, NoMemory}
use Rattle.lw_coap.specs.Message.{OptionContent}
use Rattle.lw_coap.specs.Grammar.{IsOption, AreOptions, number_after, IsPayload}
use Rattle.lw_coap.specs.Faults.{HasExtension, HasReserved, IsCutHead, BeginsOption, IsPartFault, IsOptionsFault}
use Rattle.lw_coap.proofs.Bytes.{extension_counts}
use Rattle.lw_coap.proofs.Once.{cons_one, head_one, options_one, NoOption}

-- Either this is the fault, and P holds; or P does not, and a later one is.
abbrev pub First : Fault → Type 0 → (Fault → Type 0) → Fault → Type 0
First a P Later f = ((f ≡ a) × P) ⊎ ((P → ⊥) × Later f)

pub first_one : (a : Fault) (P : Type 0) (Later Other : Fault → Type 0) (f g : Fault) → ((f g : Fault) → Later f → Other g → f ≡ g) → First a P Later f → First a P Other g → f ≡ g
first_one a P Later Other f g later h k =
    elim h [
      | inl x ↦ elim k [ inl y ↦ x.0 ∙ sym y.0 | inr y ↦ absurd (y.0 x.1) ]
      | inr x ↦ elim k [ inl y ↦ absurd (x.0 y.1) | inr y ↦ later f g x.1 y.1 ]
    ]

count_small : (n count : ℕ) → HasExtension n count → n ≤ 14
count_small n count h = elim h [ inl a ↦ omega (arith, a.0) | inr b ↦ elim b [ inl a ↦ omega (arith, a.0) | inr a ↦ omega (arith, a.0) ] ]

count_one : (n c d : ℕ) → HasExtension n c → HasExtension n d → c ≡ d
count_one n c d h k =
    elim h [
      | inl a ↦ elim k [ inl b ↦ a.1 ∙ sym b.1 | inr x ↦ elim x [ inl b ↦ absurd (omega (arith, a.0, b.0)) | inr b ↦ absurd (omega (arith, a.0, b.0)) ] ]
      | inr y ↦ elim y [
        | inl a ↦ elim k [ inl b ↦ absurd (omega (arith, a.0, b.0)) | inr x ↦ elim x [ inl b ↦ a.1 ∙ sym b.1 | inr b ↦ absurd (omega (arith, a.0, b.0)) ] ]
        | inr a ↦ elim k [ inl b ↦ absurd (omega (arith, a.0, b.0)) | inr x ↦ elim x [ inl b ↦ absurd (omega (arith, a.0, b.0)) | inr b ↦ a.1 ∙ sym b.1 ] ]
      ]
    ]

-- the first byte of what begins with an option head, and that the bytes behind it suffice
record Starts (bytes : List ℕ) : Type 0 where
  pub delta_nibble : ℕ
  pub length_nibble : ℕ
  pub rest : List ℕ
  pub delta_count : ℕ
  pub length_count : ℕ
  pub bytes_are : bytes ≡ (16 * delta_nibble + length_nibble) ∷ rest
  pub delta_has : HasExtension delta_nibble delta_count
  pub length_has : HasExtension length_nibble length_count
  pub enough : delta_count + length_count ≤ length rest

starts : (bytes : List ℕ) (delta len : ℕ) (rest : List ℕ) → BeginsOption bytes delta len rest → Starts bytes
starts bytes delta len rest h = record {
  delta_nibble = h.head_is.delta_nibble;
  length_nibble = h.head_is.length_nibble;
  rest = (h.head_is.delta_bytes ++ h.head_is.length_bytes) ++ rest;
  delta_count = length h.head_is.delta_bytes;
  length_count = length h.head_is.length_bytes;
  bytes_are = h.bytes_are ∙ ap (λ (s : List ℕ). s ++ rest) h.head_is.bytes_are;
  delta_has = extension_counts h.head_is.delta_nibble h.head_is.delta_bytes delta h.head_is.delta_is;
  length_has = extension_counts h.head_is.length_nibble h.head_is.length_bytes len h.head_is.length_is;
  enough = omega (arith, length-append (h.head_is.delta_bytes ++ h.head_is.length_bytes) rest, length-append h.head_is.delta_bytes h.head_is.length_bytes);
}

option_begins : (before : ℕ) (bytes a x : List ℕ) (o : OptionContent) → bytes ≡ a ++ x → (h : IsOption before a o) → BeginsOption bytes h.delta (length o.value) (o.value ++ x)
option_begins before bytes a x o e h = record {
  head = h.head;
  head_is = h.head_is;
  bytes_are = e ∙ ap (λ (s : List ℕ). s ++ x) h.bytes_are ∙ append_assoc h.head o.value x;
}

begins_one : (bytes : List ℕ) (delta len : ℕ) (rest : List ℕ) (delta' len' : ℕ) (rest' : List ℕ) → BeginsOption bytes delta len rest → BeginsOption bytes delta' len' rest'
    → (delta ≡ delta') × (len ≡ len') × (rest ≡ rest')
begins_one bytes delta len rest delta' len' rest' h k =
    let q = head_one h.head k.head rest rest' delta delta' len len' h.head_is k.head_is (sym h.bytes_are ∙ k.bytes_are) in
    (q.1, q.2, q.3)

-- ---- what excludes what

starts_no_marker : (bytes rest : List ℕ) → Starts bytes → bytes ≡ 255 ∷ rest → ⊥
starts_no_marker bytes rest s e =
    let p = cons_one (16 * s.delta_nibble + s.length_nibble) 255 s.rest rest (sym s.bytes_are ∙ e) in
    omega (arith, p.0, count_small s.delta_nibble s.delta_count s.delta_has, count_small s.length_nibble s.length_count s.length_has)

starts_no_reserved : (bytes : List ℕ) → Starts bytes → HasReserved bytes → ⊥
starts_no_reserved bytes s h =
    let p = cons_one (16 * s.delta_nibble + s.length_nibble) (16 * h.delta_nibble + h.length_nibble) s.rest h.rest (sym s.bytes_are ∙ h.bytes_are) in
    let d = count_small s.delta_nibble s.delta_count s.delta_has in
    let l = count_small s.length_nibble s.length_count s.length_has in
    elim h.reserved [ inl x ↦ omega (arith, p.0, d, l, x, h.length_fits) | inr x ↦ omega (arith, p.0, d, l, x, h.delta_fits) ]

starts_no_cut : (bytes : List ℕ) → Starts bytes → IsCutHead bytes → ⊥
starts_no_cut bytes s h =
    let p = cons_one (16 * s.delta_nibble + s.length_nibble) (16 * h.delta_nibble + h.length_nibble) s.rest h.rest (sym s.bytes_are ∙ h.bytes_are) in
    let l = count_small s.length_nibble s.length_count s.length_has in
    let l' = count_small h.length_nibble h.length_count h.length_has in
    let same_delta : s.delta_nibble ≡ h.delta_nibble = omega (arith, p.0, l, l') in
    let same_length : s.length_nibble ≡ h.length_nibble = omega (arith, p.0, same_delta) in
    let c = count_one h.delta_nibble s.delta_count h.delta_count (subst (λ (n : ℕ). HasExtension n s.delta_count) same_delta s.delta_has) h.delta_has in
    let c' = count_one h.length_nibble s.length_count h.length_count (subst (λ (n : ℕ). HasExtension n s.length_count) same_length s.length_has) h.length_has in
    omega (arith, c, c', s.enough, h.cut, ap length p.1)

cut_no_marker : (bytes rest : List ℕ) → IsCutHead bytes → bytes ≡ 255 ∷ rest → ⊥
cut_no_marker bytes rest s e =
    let p = cons_one (16 * s.delta_nibble + s.length_nibble) 255 s.rest rest (sym s.bytes_are ∙ e) in
    omega (arith, p.0, count_small s.delta_nibble s.delta_count s.delta_has, count_small s.length_nibble s.length_count s.length_has)

cut_no_reserved : (bytes : List ℕ) → IsCutHead bytes → HasReserved bytes → ⊥
cut_no_reserved bytes s h =
    let p = cons_one (16 * s.delta_nibble + s.length_nibble) (16 * h.delta_nibble + h.length_nibble) s.rest h.rest (sym s.bytes_are ∙ h.bytes_are) in
    let d = count_small s.delta_nibble s.delta_count s.delta_has in
    let l = count_small s.length_nibble s.length_count s.length_has in
    elim h.reserved [ inl x ↦ omega (arith, p.0, d, l, x, h.length_fits) | inr x ↦ omega (arith, p.0, d, l, x, h.delta_fits) ]

reserved_no_marker : (bytes rest : List ℕ) → HasReserved bytes → bytes ≡ 255 ∷ rest → ⊥
reserved_no_marker bytes rest h e = h.no_marker (cons_one (16 * h.delta_nibble + h.length_nibble) 255 h.rest rest (sym h.bytes_are ∙ e)).0

-- ---- the faults of a part, the first of them first

abbrev Cut : ℕ → List ℕ → Fault → Type 0
Cut len rest f = (f ≡ Truncated) × (length rest < len)

abbrev Last : ℕ → ℕ → List ℕ → Fault → Type 0
Last number len rest = First OptionHead (65536 ≤ number) (Cut len rest)

abbrev Begun : ℕ → List ℕ → Fault → Type 0
Begun before bytes f = (delta len : ℕ) × (rest : List ℕ) × BeginsOption bytes delta len rest × Last (before + delta) len rest f

abbrev NotReserved : ℕ → List ℕ → Fault → Type 0
NotReserved before bytes = First Truncated (IsCutHead bytes) (Begun before bytes)

abbrev NoMarker : ℕ → List ℕ → Fault → Type 0
NoMarker before bytes = First OptionHead (HasReserved bytes) (NotReserved before bytes)

abbrev Staged : ℕ → List ℕ → Fault → Type 0
Staged before bytes = First EmptyPayload (bytes ≡ 255 ∷ []) (NoMarker before bytes)

staged : (before : ℕ) (bytes : List ℕ) (f : Fault) → IsPartFault before bytes f → Staged before bytes f
staged before bytes EmptyPayload h = inl (refl, h)
staged before bytes OptionHead (inl h) = inr (reserved_no_marker bytes [] h, inl (refl, h))
staged before bytes OptionHead (inr h) =
    let s : Starts bytes = starts bytes h.0 h.1 h.2 h.3 in
    inr (starts_no_marker bytes [] s, inr (starts_no_reserved bytes s, inr (starts_no_cut bytes s, (h.0, h.1, h.2, h.3, inl (refl, h.4)))))
staged before bytes Truncated (inl h) = inr (cut_no_marker bytes [] h, inr (cut_no_reserved bytes h, inl (refl, h)))
staged before bytes Truncated (inr h) =
    let s : Starts bytes = starts bytes h.0 h.1 h.2 h.3 in
    let low : 65536 ≤ before + h.0 → ⊥ = λ k. omega (arith, h.4, k) in
    inr (starts_no_marker bytes [] s, inr (starts_no_reserved bytes s, inr (starts_no_cut bytes s, (h.0, h.1, h.2, h.3, inr (low, (refl, h.5))))))
staged before bytes Short h = absurd h
staged before bytes Version h = absurd h
staged before bytes TokenLength h = absurd h
staged before bytes EmptyMessage h = absurd h
staged before bytes TooLong h = absurd h
staged before bytes NoMemory h = absurd h

begun_one : (before : ℕ) (bytes : List ℕ) (f g : Fault) → Begun before bytes f → Begun before bytes g → f ≡ g
begun_one before bytes f g h k =
    let e = begins_one bytes h.0 h.1 h.2 k.0 k.1 k.2 h.3 k.3 in
    let kk : Last (before + h.0) k.1 k.2 g = subst (λ (d : ℕ). Last (before + d) k.1 k.2 g) (sym e.0) k.4 in
    first_one OptionHead (65536 ≤ before + h.0) (Cut h.1 h.2) (Cut k.1 k.2) f g (λ a b x y. x.0 ∙ sym y.0) h.4 kk

pub part_fault_one : (before : ℕ) (bytes : List ℕ) (f g : Fault) → IsPartFault before bytes f → IsPartFault before bytes g → f ≡ g
part_fault_one before bytes f g h k =
    first_one EmptyPayload (bytes ≡ 255 ∷ []) (NoMarker before bytes) (NoMarker before bytes) f g
    (λ a b. first_one OptionHead (HasReserved bytes) (NotReserved before bytes) (NotReserved before bytes) a b
    (λ c d. first_one Truncated (IsCutHead bytes) (Begun before bytes) (Begun before bytes) c d (begun_one before bytes)))
    (staged before bytes f h) (staged before bytes g k)

-- ---- no option, no payload

pub payload_no_option : (before : ℕ) (bytes payload : List ℕ) → IsPayload bytes payload → NoOption before bytes
payload_no_option before bytes [] h a x o e k =
    let s : Starts bytes = starts bytes k.delta (length o.value) (o.value ++ x) (option_begins before bytes a x o e k) in
    absurd (omega (arith, ap length h, ap length s.bytes_are))
payload_no_option before bytes (b ∷ payload) h a x o e k =
    starts_no_marker bytes (b ∷ payload) (starts bytes k.delta (length o.value) (o.value ++ x) (option_begins before bytes a x o e k)) h

begun_no_option : (before : ℕ) (bytes : List ℕ) (f : Fault) (a x : List ℕ) (o : OptionContent) (k : IsOption before a o) (r : Begun before bytes f)
    → (r.0 ≡ k.delta) × (r.1 ≡ length o.value) × (r.2 ≡ o.value ++ x) → ⊥
begun_no_option before bytes f a x o k r e =
    elim r.4 [
      | inl m ↦ omega (arith, m.1, e.0, k.number_is, k.in_range)
      | inr m ↦ omega (arith, m.1.1, e.1, ap length e.2, length-append o.value x)
    ]

pub fault_no_option : (before : ℕ) (bytes : List ℕ) (f : Fault) → IsPartFault before bytes f → NoOption before bytes
fault_no_option before bytes f h a x o e k =
    let b : BeginsOption bytes k.delta (length o.value) (o.value ++ x) = option_begins before bytes a x o e k in
    let s : Starts bytes = starts bytes k.delta (length o.value) (o.value ++ x) b in
    elim (staged before bytes f h) [
      | inl m ↦ starts_no_marker bytes [] s m.1
      | inr p ↦ elim p.1 [
        | inl m ↦ starts_no_reserved bytes s m.1
        | inr q ↦ elim q.1 [
          | inl m ↦ starts_no_cut bytes s m.1
          | inr r ↦ begun_no_option before bytes f a x o k r.1 (begins_one bytes r.1.0 r.1.1 r.1.2 k.delta (length o.value) (o.value ++ x) r.1.3 b)
        ]
      ]
    ]

begins_with : (before : ℕ) (bytes : List ℕ) (f : Fault) → IsPartFault before bytes f → 1 ≤ length bytes
begins_with before bytes f h =
    elim (staged before bytes f h) [
      | inl m ↦ omega (arith, ap length m.1)
      | inr p ↦ elim p.1 [
        | inl m ↦ omega (arith, ap length m.1.bytes_are)
        | inr q ↦ elim q.1 [
          | inl m ↦ omega (arith, ap length m.1.bytes_are)
          | inr r ↦ omega (arith, ap length (starts bytes r.1.0 r.1.1 r.1.2 r.1.3).bytes_are)
        ]
      ]
    ]

pub payload_no_fault : (before : ℕ) (bytes payload : List ℕ) (f : Fault) → IsPayload bytes payload → IsPartFault before bytes f → ⊥
payload_no_fault before bytes [] f h k = omega (arith, ap length h, begins_with before bytes f k)
payload_no_fault before bytes (b ∷ payload) f h k =
    elim (staged before bytes f k) [
      | inl m ↦ absurd (omega (arith, ap length h, ap length m.1))
      | inr p ↦ elim p.1 [
        | inl m ↦ reserved_no_marker bytes (b ∷ payload) m.1 h
        | inr q ↦ elim q.1 [
          | inl m ↦ cut_no_marker bytes (b ∷ payload) m.1 h
          | inr r ↦ starts_no_marker bytes (b ∷ payload) (starts bytes r.1.0 r.1.1 r.1.2 r.1.3) h
        ]
      ]
    ]

-- ---- options and what stands behind them

pub options_fault_one : (body : List ℕ) (f g : Fault) → IsOptionsFault body f → IsOptionsFault body g → f ≡ g
options_fault_one body f g h k =
    let e = options_one 0 h.options k.options h.front k.front h.rest k.rest h.whole k.whole (sym h.bytes_are ∙ k.bytes_are)
    (fault_no_option (number_after 0 h.options) h.rest f h.next) (fault_no_option (number_after 0 k.options) k.rest g k.next) in
    let kk : IsPartFault (number_after 0 h.options) k.rest g = subst (λ (os : List OptionContent). IsPartFault (number_after 0 os) k.rest g) (sym e.0) k.next in
    part_fault_one (number_after 0 h.options) h.rest f g h.next (subst (λ (r : List ℕ). IsPartFault (number_after 0 h.options) r g) (sym e.2) kk)

pub options_no_fault : (body : List ℕ) (os : List OptionContent) (front rest payload : List ℕ) (f : Fault) → body ≡ front ++ rest → AreOptions 0 front os → IsPayload rest payload → IsOptionsFault body f → ⊥
options_no_fault body os front rest payload f parts whole p k =
    let e = options_one 0 os k.options front k.front rest k.rest whole k.whole (sym parts ∙ k.bytes_are)
    (payload_no_option (number_after 0 os) rest payload p) (fault_no_option (number_after 0 k.options) k.rest f k.next) in
    payload_no_fault (number_after 0 k.options) k.rest payload f (subst (λ (r : List ℕ). IsPayload r payload) e.2 p) k.next
