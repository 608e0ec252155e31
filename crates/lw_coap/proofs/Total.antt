-- Bytes have a message or a fault.
use Rattle.std.proofs.Common.{◌≡◌, ◌≢◌, ℕ, zero, suc, ◌+◌, ◌-◌, ◌*◌, ◌/◌, ◌%◌, ◌<◌, ◌≤◌, ◌⊎◌, List, [], ◌∷◌, ◌++◌, length, get_or, take, drop, refl, sym, subst, arith, inl, inr}
use Rattle.std.proofs.lemmas.Bool.{cases_lt}
use Rattle.std.proofs.lemmas.List.{take-append-drop, length-take-le}
use Rattle.lw_coap.specs.declared.fault.Fault.{Fault}
use Rattle.lw_coap.specs.declared.fault.Fault.TheVariants.{Short, Version, TokenLength, OptionHead, Truncated, EmptyPayload, EmptyMessage, TooLong}
use Rattle.lw_coap.specs.declared.message.Kind.{Kind}
use Rattle.lw_coap.specs.declared.message.Kind.TheVariants.{Con, Non, Ack, Rst}
use Rattle.lw_coap.specs.Message.{OptionContent, MessageContent}
use Rattle.lw_coap.specs.Grammar.{IsExtended, IsOption, IsPayload, IsHeader, IsSpelling, kind_number}
use Rattle.lw_coap.specs.Faults.{HasExtension, BeginsOption, IsPartFault, IsOptionsFault, HasHead, IsFault}
use Rattle.lw_coap.specs.inner.Body.{IsBody, IsFrame}
use Rattle.lw_coap.proofs.Bytes.{IsBytes, head_at}
use Rattle.lw_coap.proofs.OptionAt.{reserved, cut_delta, cut_length, begins, found}
use Rattle.lw_coap.proofs.Walk.{IsWalked, none_walked, walked_more, walked_fault, walked_all, option_takes}
use Rattle.lw_coap.proofs.Messages.{whole_message, body_fault}

tail_bytes : (b : ℕ) (bytes : List ℕ) → IsBytes (b ∷ bytes) → IsBytes bytes
tail_bytes b bytes h i = h (suc i)

rest_bytes : (front rest : List ℕ) → IsBytes (front ++ rest) → IsBytes rest
rest_bytes [] rest h = h
rest_bytes (b ∷ front) rest h = rest_bytes front rest (tail_bytes b (front ++ rest) h)

rest_is_bytes : (bytes front rest : List ℕ) → IsBytes bytes → bytes ≡ front ++ rest → IsBytes rest
rest_is_bytes bytes front rest h e = rest_bytes front rest (subst (λ (x : List ℕ). IsBytes x) e h)

-- ---- extended numbers

record Extends (n : ℕ) (bytes : List ℕ) : Type 0 where
  pub value : ℕ
  pub front : List ℕ
  pub rest : List ℕ
  pub is : IsExtended n front value
  pub parts : bytes ≡ front ++ rest

record Cuts (n : ℕ) (bytes : List ℕ) : Type 0 where
  pub count : ℕ
  pub has : HasExtension n count
  pub cut : length bytes < count

one_more : (n : ℕ) (bytes : List ℕ) → n ≡ 13 → IsBytes bytes → Extends n bytes ⊎ Cuts n bytes
one_more n [] e h = inr (record { count = 1; has = inr (inl (e, refl)); cut = omega arith })
one_more n (a ∷ rest) e h = inl (record { value = a + 13; front = a ∷ []; rest = rest; is = (e, h 0, refl); parts = refl })

two_more : (n : ℕ) (bytes : List ℕ) → n ≡ 14 → IsBytes bytes → Extends n bytes ⊎ Cuts n bytes
two_more n [] e h = inr (record { count = 2; has = inr (inr (e, refl)); cut = omega arith })
two_more n (a ∷ []) e h = inr (record { count = 2; has = inr (inr (e, refl)); cut = omega arith })
two_more n (a ∷ b ∷ rest) e h = inl (record { value = 256 * a + b + 269; front = a ∷ b ∷ []; rest = rest; is = (e, h 0, h 1, refl); parts = refl })

extended_total : (n : ℕ) (bytes : List ℕ) → n ≤ 14 → IsBytes bytes → Extends n bytes ⊎ Cuts n bytes
extended_total n bytes le h =
    elim (cases_lt n 13) [
      | inl small ↦ inl (record { value = n; front = []; rest = bytes; is = (omega arith, refl); parts = refl })
      | inr large ↦ elim (cases_lt n 14) [
        | inl small ↦ one_more n bytes (omega arith) h
        | inr last ↦ two_more n bytes (omega arith) h
      ]
    ]

-- ---- one part

record Fails (before : ℕ) (bytes : List ℕ) : Type 0 where
  pub fault : Fault
  pub is : IsPartFault before bytes fault

record Goes (before : ℕ) (bytes : List ℕ) : Type 0 where
  pub option : OptionContent
  pub front : List ℕ
  pub rest : List ℕ
  pub is : IsOption before front option
  pub parts : bytes ≡ front ++ rest

value_total : (before : ℕ) (bytes : List ℕ) (delta len : ℕ) (rest : List ℕ) → BeginsOption bytes delta len rest → Goes before bytes ⊎ Fails before bytes
value_total before bytes delta len rest b =
    elim (cases_lt (before + delta) 65536) [
      | inr high ↦ inr (record { fault = OptionHead; is = inr (delta, len, rest, b, high) })
      | inl fits ↦ elim (cases_lt (length rest) len) [
        | inl short ↦ inr (record { fault = Truncated; is = inr (delta, len, rest, b, fits, short) })
        | inr long ↦
            let f : (front : List ℕ) × IsOption before front (record { number = before + delta; value = take len rest }) × (bytes ≡ front ++ drop len rest) = found bytes before delta len (before + delta) rest b long refl fits in
            inl (record { option = record { number = before + delta; value = take len rest }; front = f.0; rest = drop len rest; is = f.1; parts = f.2 })
      ]
    ]

head_total : (before b : ℕ) (rest : List ℕ) → b < 256 → IsBytes rest → b / 16 ≤ 14 → b % 16 ≤ 14 → Goes before (b ∷ rest) ⊎ Fails before (b ∷ rest)
head_total before b rest fits h dl ll =
    elim (extended_total (b / 16) rest dl h) [
      | inr c ↦ inr (record { fault = Truncated; is = inl (cut_delta (b ∷ rest) b rest c.count fits refl (λ (e : b % 16 ≡ 15). omega (arith, e, ll)) c.has c.cut) })
      | inl d ↦ elim (extended_total (b % 16) d.rest ll (rest_is_bytes rest d.front d.rest h d.parts)) [
        | inr c ↦ inr (record { fault = Truncated; is = inl (cut_length (b ∷ rest) b rest d.front d.rest d.value c.count refl d.is d.parts c.has c.cut) })
        | inl l ↦ value_total before (b ∷ rest) d.value l.value l.rest (begins (b ∷ rest) b rest d.front d.rest l.front l.rest d.value l.value refl d.is d.parts l.is l.parts)
      ]
    ]

option_total : (before b : ℕ) (rest : List ℕ) → b ≢ 255 → b < 256 → IsBytes rest → Goes before (b ∷ rest) ⊎ Fails before (b ∷ rest)
option_total before b rest marker fits h =
    elim (cases_lt (b / 16) 15) [
      | inr high ↦ inr (record { fault = OptionHead; is = inl (reserved (b ∷ rest) b rest fits refl marker (inl (omega arith))) })
      | inl dl ↦ elim (cases_lt (b % 16) 15) [
        | inr high ↦ inr (record { fault = OptionHead; is = inl (reserved (b ∷ rest) b rest fits refl marker (inr (omega arith))) })
        | inl ll ↦ head_total before b rest fits h (omega arith) (omega arith)
      ]
    ]

-- a payload, an option or a fault
record Ends (bytes : List ℕ) : Type 0 where
  pub payload : List ℕ
  pub is : IsPayload bytes payload

marker_total : (before : ℕ) (rest : List ℕ) → Ends (255 ∷ rest) ⊎ Fails before (255 ∷ rest)
marker_total before [] = inr (record { fault = EmptyPayload; is = refl })
marker_total before (a ∷ rest) = inl (record { payload = a ∷ rest; is = refl })

first_total : (before b : ℕ) (rest : List ℕ) → b < 256 → IsBytes rest → (b ≡ 255) ⊎ (b < 255) → Ends (b ∷ rest) ⊎ (Goes before (b ∷ rest) ⊎ Fails before (b ∷ rest))
first_total before b rest fits h (inl e) =
    let m : Ends (b ∷ rest) ⊎ Fails before (b ∷ rest) = subst (λ (x : ℕ). Ends (x ∷ rest) ⊎ Fails before (x ∷ rest)) (sym e) (marker_total before rest) in
    elim m [ inl p ↦ inl p | inr f ↦ inr (inr f) ]
first_total before b rest fits h (inr lt) = inr (option_total before b rest (λ (e : b ≡ 255). omega (arith, e, lt)) fits h)

marker_or_not : (b : ℕ) → b < 256 → (b ≡ 255) ⊎ (b < 255)
marker_or_not b lt = elim (cases_lt b 255) [ inl x ↦ inr x | inr x ↦ inl (omega arith) ]

part_total : (before : ℕ) (bytes : List ℕ) → IsBytes bytes → Ends bytes ⊎ (Goes before bytes ⊎ Fails before bytes)
part_total before [] h = inl (record { payload = []; is = refl })
part_total before (b ∷ rest) h = first_total before b rest (h 0) (tail_bytes b rest h) (marker_or_not b (h 0))

-- ---- the body

record Whole (body : List ℕ) : Type 0 where
  pub options : List OptionContent
  pub payload : List ℕ
  pub is : IsBody body options payload

record Faulty (body : List ℕ) : Type 0 where
  pub fault : Fault
  pub is : IsOptionsFault body fault

-- from some whole options on, of which at most so many bytes are left
walk_total : (fuel : ℕ) (body : List ℕ) (options : List OptionContent) (number : ℕ) (rest : List ℕ) → length rest < fuel → IsBytes rest → IsWalked body options number rest → Whole body ⊎ Faulty body
walk_total zero body options number rest lt h w = absurd (omega (arith, lt))
walk_total (suc fuel) body options number rest lt h w =
    elim (part_total number rest h) [
      | inl e ↦ inl (record { options = options; payload = e.payload; is = walked_all body options number rest e.payload w e.is })
      | inr m ↦ elim m [
        | inr f ↦ inr (record { fault = f.fault; is = walked_fault body options number rest f.fault w f.is })
        | inl g ↦ walk_total fuel body (options ++ g.option ∷ []) g.option.number g.rest (omega (arith, lt, option_takes number g.front rest g.rest g.option g.is g.parts))
            (rest_is_bytes rest g.front g.rest h g.parts) (walked_more body options number rest g.front g.rest g.option w g.is g.parts)
      ]
    ]

body_total : (body : List ℕ) → IsBytes body → Whole body ⊎ Faulty body
body_total body h = walk_total (suc (length body)) body [] 0 body (omega arith) h (none_walked body)

-- ---- the message

record Spells (bytes : List ℕ) : Type 0 where
  pub message : MessageContent
  pub is : IsSpelling bytes message

record HasFault (bytes : List ℕ) : Type 0 where
  pub fault : Fault
  pub is : IsFault bytes fault

kind_of : (n : ℕ) → n < 4 → (k : Kind) × (kind_number k ≡ n)
kind_of zero lt = (Con, refl)
kind_of (suc zero) lt = (Non, refl)
kind_of (suc (suc zero)) lt = (Ack, refl)
kind_of (suc (suc (suc zero))) lt = (Rst, refl)
kind_of (suc (suc (suc (suc n)))) lt = absurd (omega (arith, lt))

framed_total : (bytes : List ℕ) (kind : Kind) (code mid : ℕ) (token body : List ℕ) → IsBytes body → IsFrame bytes kind code mid token body → Spells bytes ⊎ HasFault bytes
framed_total bytes kind code mid token body h f =
    elim (body_total body h) [
      | inl w ↦ inl (record { message = record { kind = kind; code = code; mid = mid; token = token; options = w.options; payload = w.payload }; is = whole_message bytes kind code mid token body w.options w.payload f w.is })
      | inr x ↦ inr (record { fault = x.fault; is = body_fault bytes kind code mid token body x.fault f x.is })
    ]

frame_of : (bytes : List ℕ) (code : ℕ) (token body : List ℕ) → (h : HasHead bytes 1 (length token) code (token ++ body)) → (k : (k : Kind) × (kind_number k ≡ h.kind)) → length token ≤ 8
    → (code ≡ 0 → (token ≡ []) × (body ≡ [])) → IsFrame bytes k.0 code h.mid token body
frame_of bytes code token body h k small empty = record {
  header = subst (λ (n : ℕ). IsHeader bytes 1 n (length token) code h.mid (token ++ body)) (sym k.1) h.header;
  token_fits = small;
  empty = empty;
  within = h.within;
}

coded_total : (bytes : List ℕ) (t c : ℕ) (rest : List ℕ) → IsBytes rest → HasHead bytes 1 t c rest → t ≤ 8 → 0 < c → Spells bytes ⊎ HasFault bytes
coded_total bytes t c rest h head small code =
    let some : c ≢ 0 = λ (e : c ≡ 0). omega (arith, e, code) in
    elim (cases_lt (length rest) t) [
      | inl cut ↦ inr (record { fault = Truncated; is = inl (record { token_length = t; code = c; rest = rest; head = head; token_fits = small; code_is = some; cut = cut }) })
      | inr long ↦
          let e : length (take t rest) ≡ t = length-take-le t rest long in
          let parts : take t rest ++ drop t rest ≡ rest = take-append-drop t rest in
          let split : HasHead bytes 1 (length (take t rest)) c (take t rest ++ drop t rest) = rw (e, parts) head in
          let k : (k : Kind) × (kind_number k ≡ split.kind) = kind_of split.kind split.header.kind_fits in
          framed_total bytes k.0 c split.mid (take t rest) (drop t rest) (rest_is_bytes rest (take t rest) (drop t rest) h (sym parts))
          (frame_of bytes c (take t rest) (drop t rest) split k (omega (arith, e, small)) (λ (z : c ≡ 0). absurd (some z)))
    ]

empty_total : (bytes : List ℕ) (t : ℕ) (rest : List ℕ) → HasHead bytes 1 t 0 rest → t ≤ 8 → (t ≡ 0) ⊎ (0 < t) → Spells bytes ⊎ HasFault bytes
empty_total bytes t rest head small (inr token) = inr (record { fault = EmptyMessage; is = (t, rest, head, small, inl token) })
empty_total bytes t [] head small (inl none) =
    let split : HasHead bytes 1 0 0 [] = subst (λ (n : ℕ). HasHead bytes 1 n 0 []) none head in
    let k : (k : Kind) × (kind_number k ≡ split.kind) = kind_of split.kind split.header.kind_fits in
    framed_total bytes k.0 0 split.mid [] [] (λ i. omega arith) (frame_of bytes 0 [] [] split k (omega arith) (λ z. (refl, refl)))
empty_total bytes t (b ∷ rest) head small (inl none) = inr (record { fault = EmptyMessage; is = (t, b ∷ rest, head, small, inr (omega arith)) })

zero_or_more : (n : ℕ) → (n ≡ 0) ⊎ (0 < n)
zero_or_more n = elim (cases_lt 0 n) [ inl x ↦ inr x | inr x ↦ inl (omega arith) ]

tokened_total : (bytes : List ℕ) (t c : ℕ) (rest : List ℕ) → IsBytes rest → HasHead bytes 1 t c rest → (c ≡ 0) ⊎ (0 < c) → Spells bytes ⊎ HasFault bytes
tokened_total bytes t c rest h head code =
    elim (cases_lt 8 t) [
      | inl large ↦ inr (record { fault = TokenLength; is = (t, c, rest, head, large) })
      | inr small ↦ elim code [
        | inl e ↦ empty_total bytes t rest (subst (λ (n : ℕ). HasHead bytes 1 t n rest) e head) small (zero_or_more t)
        | inr some ↦ coded_total bytes t c rest h head small some
      ]
    ]

one_or_not : (n : ℕ) → (n ≡ 1) ⊎ (n ≢ 1)
one_or_not n =
    elim (cases_lt n 1) [
      | inl x ↦ inr (λ (e : n ≡ 1). omega (arith, e, x))
      | inr x ↦ elim (cases_lt 1 n) [ inl y ↦ inr (λ (e : n ≡ 1). omega (arith, e, y)) | inr y ↦ inl (omega arith) ]
    ]

headed_total : (bytes : List ℕ) (v t c : ℕ) (rest : List ℕ) → IsBytes bytes → HasHead bytes v t c rest → (v ≡ 1) ⊎ (v ≢ 1) → Spells bytes ⊎ HasFault bytes
headed_total bytes v t c rest h head (inr other) = inr (record { fault = Version; is = (v, t, c, rest, head, other) })
headed_total bytes v t c rest h head (inl one) =
    tokened_total bytes t c rest (rest_is_bytes bytes ((64 * v + 16 * head.kind + t) ∷ c ∷ head.header.high ∷ head.header.low ∷ []) rest h head.header.bytes_are)
    (subst (λ (n : ℕ). HasHead bytes n t c rest) one head) (zero_or_more c)

all_total : (bytes : List ℕ) → IsBytes bytes → Spells bytes ⊎ HasFault bytes
all_total bytes h =
    elim (cases_lt 8192 (length bytes)) [
      | inl long ↦ inr (record { fault = TooLong; is = long })
      | inr within ↦ elim (cases_lt (length bytes) 4) [
        | inl short ↦ inr (record { fault = Short; is = short })
        | inr enough ↦ headed_total bytes (get_or bytes 0 0 / 64) (get_or bytes 0 0 % 16) (get_or bytes 1 0) (take (length bytes - 4) (drop 4 bytes)) h
            (head_at bytes (get_or bytes 0 0 / 64) h enough within refl) (one_or_not (get_or bytes 0 0 / 64))
      ]
    ]

pub message_or_fault : (bytes : List ℕ) → IsBytes bytes → ((message : MessageContent) × IsSpelling bytes message) ⊎ ((fault : Fault) × IsFault bytes fault)
message_or_fault bytes h = elim (all_total bytes h) [ inl s ↦ inl (s.message, s.is) | inr f ↦ inr (f.fault, f.is) ]
