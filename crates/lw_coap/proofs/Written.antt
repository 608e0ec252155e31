-- What is written is a spelling, and a spelling is what is written.
use Rattle.std.proofs.Common.{◌≡◌, ℕ, ◌+◌, ◌-◌, ◌*◌, ◌/◌, ◌%◌, ◌<◌, ◌≤◌, List, [], ◌∷◌, ◌++◌, length, refl, ap, sym, ◌∙◌, arith, inl, inr, length-append}
use Rattle.std.proofs.lemmas.Bool.{cases_lt, lt-ltb, le-ltb}
use Rattle.lw_coap.specs.declared.message.Kind.{Kind}
use Rattle.lw_coap.specs.declared.message.Kind.TheVariants.{Con, Non, Ack, Rst}
use Rattle.lw_coap.specs.Message.{OptionContent, MessageContent}
use Rattle.lw_coap.specs.Grammar.{IsExtended, IsOption, AreOptions, IsPayload, IsSpelling, kind_number}
use Rattle.lw_coap.specs.Fits.{extension_length, option_length, options_length, payload_length, printed_length, AreRising, Fits}
use Rattle.lw_coap.specs.inner.Writing.{nibble_of, extension_of, option_bytes, options_bytes, payload_bytes, header_bytes, message_bytes}

-- ---- extended numbers

extended_written : (v : ℕ) → v < 65805 → IsExtended (nibble_of v) (extension_of v) v
extended_written v lt =
    elim (cases_lt v 13) [
      | inl small ↦ rw (lt-ltb v 13 small) (omega arith, refl)
      | inr large ↦ elim (cases_lt v 269) [
        | inl small ↦ rw (le-ltb v 13 large, lt-ltb v 269 small) (refl, omega arith, omega arith)
        | inr more ↦ rw (le-ltb v 13 large, le-ltb v 269 more) (refl, omega arith, omega arith, omega arith)
      ]
    ]

extension_counted : (v : ℕ) → length (extension_of v) ≡ extension_length v
extension_counted v =
    elim (cases_lt v 13) [
      | inl small ↦ rw (lt-ltb v 13 small) refl
      | inr large ↦ elim (cases_lt v 269) [
        | inl small ↦ rw (le-ltb v 13 large, lt-ltb v 269 small) refl
        | inr more ↦ rw (le-ltb v 13 large, le-ltb v 269 more) refl
      ]
    ]

extended_is : (n : ℕ) (bytes : List ℕ) (v : ℕ) → IsExtended n bytes v → (n ≡ nibble_of v) × (bytes ≡ extension_of v)
extended_is n [] v h = rw (lt-ltb v 13 (omega (arith, h.0, h.1))) (sym h.1, refl)
extended_is n (a ∷ []) v h =
    let e : a ≡ v - 13 = omega (arith, h.2) in
    rw (le-ltb v 13 (omega (arith, h.2)), lt-ltb v 269 (omega (arith, h.1, h.2))) (h.0, ap (λ (x : ℕ). x ∷ []) e)
extended_is n (a ∷ b ∷ []) v h =
    let e : a ≡ (v - 269) / 256 = omega (arith, h.1, h.2, h.3) in
    let f : b ≡ (v - 269) % 256 = omega (arith, h.1, h.2, h.3) in
    rw (le-ltb v 13 (omega (arith, h.3)), le-ltb v 269 (omega (arith, h.3))) (h.0, ap (λ (x : ℕ). x ∷ b ∷ []) e ∙ ap (λ (x : ℕ). (v - 269) / 256 ∷ x ∷ []) f)
extended_is n (a ∷ b ∷ c ∷ more) v h = absurd h

-- ---- options

option_written : (before : ℕ) (o : OptionContent) → before ≤ o.number → o.number < 65536 → length o.value < 65536 → IsOption before (option_bytes before o) o
option_written before o rising fits small = record {
  head = (16 * nibble_of (o.number - before) + nibble_of (length o.value)) ∷ (extension_of (o.number - before) ++ extension_of (length o.value));
  delta = o.number - before;
  head_is = record {
    delta_nibble = nibble_of (o.number - before);
    length_nibble = nibble_of (length o.value);
    delta_bytes = extension_of (o.number - before);
    length_bytes = extension_of (length o.value);
    bytes_are = refl;
    delta_is = extended_written (o.number - before) (omega arith);
    length_is = extended_written (length o.value) (omega arith);
  };
  bytes_are = refl;
  number_is = omega arith;
  in_range = fits;
}

option_is : (before : ℕ) (bytes : List ℕ) (o : OptionContent) → IsOption before bytes o → bytes ≡ option_bytes before o
option_is before bytes o h =
    let d : h.delta ≡ o.number - before = omega (arith, h.number_is) in
    let delta = extended_is h.head_is.delta_nibble h.head_is.delta_bytes h.delta h.head_is.delta_is in
    let len = extended_is h.head_is.length_nibble h.head_is.length_bytes (length o.value) h.head_is.length_is in
    let dn : h.head_is.delta_nibble ≡ nibble_of (o.number - before) = delta.0 ∙ ap nibble_of d in
    let db : h.head_is.delta_bytes ≡ extension_of (o.number - before) = delta.1 ∙ ap extension_of d in
    h.bytes_are ∙ ap (λ (x : List ℕ). x ++ o.value) (h.head_is.bytes_are
    ∙ ap (λ (x : ℕ). (16 * x + h.head_is.length_nibble) ∷ (h.head_is.delta_bytes ++ h.head_is.length_bytes)) dn
    ∙ ap (λ (x : ℕ). (16 * nibble_of (o.number - before) + x) ∷ (h.head_is.delta_bytes ++ h.head_is.length_bytes)) len.0
    ∙ ap (λ (x : List ℕ). (16 * nibble_of (o.number - before) + nibble_of (length o.value)) ∷ (x ++ h.head_is.length_bytes)) db
    ∙ ap (λ (x : List ℕ). (16 * nibble_of (o.number - before) + nibble_of (length o.value)) ∷ (extension_of (o.number - before) ++ x)) len.1)

option_counted : (before : ℕ) (o : OptionContent) → length (option_bytes before o) ≡ option_length before o
option_counted before o =
    omega (
      arith,
      length-append ((16 * nibble_of (o.number - before) + nibble_of (length o.value)) ∷ (extension_of (o.number - before) ++ extension_of (length o.value))) o.value,
      length-append (extension_of (o.number - before)) (extension_of (length o.value)),
      extension_counted (o.number - before),
      extension_counted (length o.value),
    )

options_written : (before : ℕ) (os : List OptionContent) → AreRising before os → options_length before os ≤ 8192 → AreOptions before (options_bytes before os) os
options_written before [] rising small = refl
options_written before (o ∷ os) rising small =
    (option_bytes before o, options_bytes o.number os, refl, option_written before o rising.0 rising.1 (omega arith), options_written o.number os rising.2 (omega arith))

options_are : (before : ℕ) (bytes : List ℕ) (os : List OptionContent) → AreOptions before bytes os → bytes ≡ options_bytes before os
options_are before bytes [] h = h
options_are before bytes (o ∷ os) h =
    h.2 ∙ ap (λ (x : List ℕ). x ++ h.1) (option_is before h.0 o h.3) ∙ ap (λ (x : List ℕ). option_bytes before o ++ x) (options_are o.number h.1 os h.4)

options_counted : (before : ℕ) (os : List OptionContent) → length (options_bytes before os) ≡ options_length before os
options_counted before [] = refl
options_counted before (o ∷ os) =
    omega (arith, length-append (option_bytes before o) (options_bytes o.number os), option_counted before o, options_counted o.number os)

options_rise : (before : ℕ) (bytes : List ℕ) (os : List OptionContent) → AreOptions before bytes os → AreRising before os
options_rise before bytes [] h = tt
options_rise before bytes (o ∷ os) h =
    let one : before ≤ o.number = omega (arith, h.3.number_is) in
    (one, h.3.in_range, options_rise o.number h.1 os h.4)

-- ---- payloads

payload_written : (p : List ℕ) → IsPayload (payload_bytes p) p
payload_written [] = refl
payload_written (b ∷ p) = refl

payload_is : (bytes p : List ℕ) → IsPayload bytes p → bytes ≡ payload_bytes p
payload_is bytes [] h = h
payload_is bytes (b ∷ p) h = h

payload_counted : (p : List ℕ) → length (payload_bytes p) ≡ payload_length p
payload_counted [] = refl
payload_counted (b ∷ p) = omega arith

-- ---- messages

kind_small : (k : Kind) → kind_number k < 4
kind_small Con = omega arith
kind_small Non = omega arith
kind_small Ack = omega arith
kind_small Rst = omega arith

message_counted : (m : MessageContent) → length (message_bytes m) ≡ printed_length m
message_counted m =
    omega (
      arith,
      length-append (header_bytes m) (m.token ++ (options_bytes 0 m.options ++ payload_bytes m.payload)),
      length-append m.token (options_bytes 0 m.options ++ payload_bytes m.payload),
      length-append (options_bytes 0 m.options) (payload_bytes m.payload),
      options_counted 0 m.options,
      payload_counted m.payload,
    )

pub written_spells : (m : MessageContent) → Fits m → IsSpelling (message_bytes m) m
written_spells m fits =
    let long = message_counted m in
    let small : options_length 0 m.options ≤ 8192 = omega (arith, fits.within) in
    record {
      option_bytes = options_bytes 0 m.options;
      payload_bytes = payload_bytes m.payload;
      header = record {
        high = m.mid / 256;
        low = m.mid % 256;
        bytes_are = refl;
        mid_is = omega arith;
        kind_fits = kind_small m.kind;
        token_length_fits = omega (arith, fits.token);
        code_fits = fits.code;
        high_fits = omega (arith, fits.mid);
        low_fits = omega arith;
      };
      options = options_written 0 m.options fits.options small;
      payload = payload_written m.payload;
      token = fits.token;
      empty = λ (e : m.code ≡ 0). long ∙ fits.empty e;
      within = omega (arith, long, fits.within);
    }

spelling_is : (bytes : List ℕ) (m : MessageContent) → IsSpelling bytes m → bytes ≡ message_bytes m
spelling_is bytes m h =
    let high : h.header.high ≡ m.mid / 256 = omega (arith, h.header.mid_is, h.header.low_fits) in
    let low : h.header.low ≡ m.mid % 256 = omega (arith, h.header.mid_is, h.header.low_fits) in
    h.header.bytes_are
    ∙ ap (λ (x : ℕ). (64 + 16 * kind_number m.kind + length m.token) ∷ m.code ∷ x ∷ h.header.low ∷ (m.token ++ (h.option_bytes ++ h.payload_bytes))) high
    ∙ ap (λ (x : ℕ). (64 + 16 * kind_number m.kind + length m.token) ∷ m.code ∷ (m.mid / 256) ∷ x ∷ (m.token ++ (h.option_bytes ++ h.payload_bytes))) low
    ∙ ap (λ (x : List ℕ). header_bytes m ++ (m.token ++ (x ++ h.payload_bytes))) (options_are 0 h.option_bytes m.options h.options)
    ∙ ap (λ (x : List ℕ). header_bytes m ++ (m.token ++ (options_bytes 0 m.options ++ x))) (payload_is h.payload_bytes m.payload h.payload)

pub spelling_one : (a b : List ℕ) (m : MessageContent) → IsSpelling a m → IsSpelling b m → a ≡ b
spelling_one a b m h k = spelling_is a m h ∙ sym (spelling_is b m k)

pub spelled_fits : (bytes : List ℕ) (m : MessageContent) → IsSpelling bytes m → Fits m
spelled_fits bytes m h =
    let long : length bytes ≡ printed_length m = ap length (spelling_is bytes m h) ∙ message_counted m in
    record {
      token = h.token;
      code = h.header.code_fits;
      mid = omega (arith, h.header.mid_is, h.header.high_fits, h.header.low_fits);
      options = options_rise 0 h.option_bytes m.options h.options;
      empty = λ (e : m.code ≡ 0). sym long ∙ h.empty e;
      within = omega (arith, long, h.within);
    }
