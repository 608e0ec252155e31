-- The bytes of each part begin with it, whatever stands behind them.
use Rattle.std.proofs.Common.{◌≡◌, ℕ, zero, suc, ◌+◌, ◌/◌, ◌%◌, ◌==◌, ◌<◌, ◌≤◌, ◌^◌, Bool, true, false, List, [], ◌∷◌, ◌++◌, length, slice_index, Option, Some, None, IfSome, refl, sym, ap, ◌∙◌, subst, arith, inl, inr, append_assoc, is_some, leb}
use Rattle.std.specs.Prelude.{IsUtf8}
use Rattle.std.specs.Int.{w16, w32, w64, to_be_bytes, from_be_bytes}
use Rattle.std.specs.Char.{is_ascii_uppercase}
use Rattle.std.specs.List.{list_all}
use Rattle.std.proofs.lemmas.Bool.{and_parts, leb-true}
use Rattle.std.proofs.lemmas.List.{append-nil}
use Rattle.std.proofs.lemmas.Nat.{from_be_bytes-to_be_bytes_2, from_be_bytes-to_be_bytes_4, from_be_bytes-to_be_bytes_8}
use Rattle.lw_stamp.specs.declared.stamp.Stamp.{Stamp}
use Rattle.lw_stamp.specs.declared.moment.Moment.{Moment}
use Rattle.lw_stamp.specs.Moment.{ms_of}
use Rattle.lw_stamp.specs.Stamp.{stamp_bytes}
use Rattle.lw_stamp.specs.StampBytes.{counter_in}
use Rattle.lw_stamp.proofs.StampLemmas.{spelled_counter}
use Rattle.lw_link.specs.WellFormed.{IsPrinting}
use Rattle.lw_reg.specs.declared.addr.Addr.{Addr}
use Rattle.lw_reg.specs.declared.addr.Addr.TheVariants.{V4, V6}
use Rattle.lw_reg.specs.declared.base.Base.{Base}
use Rattle.lw_reg.specs.declared.binding.Binding.{Binding}
use Rattle.lw_reg.specs.declared.version.Version.{Version}
use Rattle.lw_reg.specs.declared.version.Version.TheVariants.{V10, V11}
use Rattle.lw_reg.specs.declared.path.Path.{Path}
use Rattle.lw_reg.specs.Addr.{IsAddr}
use Rattle.lw_reg.specs.Binding.{binding_text}
use Rattle.lw_reg.specs.Orders.{path_cmp}
use Rattle.lw_reg.specs.Path.{path_numbers}
use Rattle.lw_reg.specs.PathNumbers.{is_number}
use Rattle.lw_delta.specs.declared.fault.DeltaFault.{DeltaFault}
use Rattle.lw_delta.specs.Order.{IsAbove}
use Rattle.lw_delta.specs.Part.{Part, Found, byte, bytes_of, means, must, followed, when, tag, optional}
use Rattle.lw_delta.specs.Format.{number16, number32, number48, stamp, written, base, address, moment, binding, text, sms_number, objects, path_number, numbers, path}
use Rattle.lw_delta.specs.Values.{base_in}
use Rattle.lw_delta.specs.Writable.{IsOwnText}
use Rattle.lw_delta.specs.Writing.{number16_bytes, number32_bytes, number48_bytes, optional_bytes, written_bytes, base_byte, addr_bytes, moment_bytes, text_bytes, binding_bytes, sms_bytes, objects_bytes, numbers_bytes, path_bytes}
use Rattle.lw_delta.proofs.Parts.{byte_found, bytes_found, meant, held, both}
use Rattle.lw_delta.proofs.Paths.{numbers_more}

abbrev pub Prints : {A : Type 0} → Part A → List ℕ → A → Type 0
Prints {A} part front value = (rest : List ℕ) → Found part (front ++ rest) value rest

pub prints_both : {A B : Type 0} (part : Part A) (next : A → Part B) (a b : List ℕ) (x : A) (y : B) → Prints part a x → Prints (next x) b y → Prints (followed part next) (a ++ b) y
prints_both part next a b x y f g rest = both next (subst (λ (s : List ℕ). Found part s x (b ++ rest)) (sym (append_assoc a b rest)) (f (b ++ rest))) (g rest)

pub prints_then : {A B : Type 0} (part : Part A) (next : A → Part B) (a : List ℕ) (x : A) (y : B) → Prints part a x → Prints (next x) [] y → Prints (followed part next) a y
prints_then part next a x y f g rest = both next (f rest) (g rest)

pub prints_meant : {A : Type 0} (holds : A → Type 0) (x : A) → holds x → Prints (means holds) [] x
prints_meant holds x h rest = meant holds h

pub prints_held : {A : Type 0} (holds : Type 0) (fault : DeltaFault) (part : Part A) (a : List ℕ) (x : A) → holds → Prints part a x → Prints (must holds fault part) a x
prints_held holds fault part a x h f rest = held fault h (f rest)

pub prints_byte : (n : ℕ) → n < 256 → Prints byte (n ∷ []) n
prints_byte n fits rest = byte_found (n ∷ rest) n rest refl fits

pub prints_bytes : (value : List ℕ) (count : ℕ) → length value ≡ count → ((i : ℕ) → slice_index value i < 256) → Prints (bytes_of count) value value
prints_bytes value count e fits rest = bytes_found count (value ++ rest) value rest refl e fits

-- ---- numbers
two_fit : (n : ℕ) (i : ℕ) → slice_index (to_be_bytes w16 n) i < 256
two_fit n zero = omega arith
two_fit n (suc zero) = omega arith
two_fit n (suc (suc i)) = omega arith

four_fit : (n : ℕ) (i : ℕ) → slice_index (to_be_bytes w32 n) i < 256
four_fit n zero = omega arith
four_fit n (suc zero) = omega arith
four_fit n (suc (suc zero)) = omega arith
four_fit n (suc (suc (suc zero))) = omega arith
four_fit n (suc (suc (suc (suc i)))) = omega arith

six_fit : (n : ℕ) (i : ℕ) → slice_index (number48_bytes n) i < 256
six_fit n zero = omega arith
six_fit n (suc zero) = omega arith
six_fit n (suc (suc zero)) = omega arith
six_fit n (suc (suc (suc zero))) = omega arith
six_fit n (suc (suc (suc (suc zero)))) = omega arith
six_fit n (suc (suc (suc (suc (suc zero))))) = omega arith
six_fit n (suc (suc (suc (suc (suc (suc i)))))) = omega arith

stamp_fits : (s : Stamp) (i : ℕ) → slice_index (stamp_bytes s) i < 256
stamp_fits s zero = omega arith
stamp_fits s (suc zero) = omega arith
stamp_fits s (suc (suc zero)) = omega arith
stamp_fits s (suc (suc (suc zero))) = omega arith
stamp_fits s (suc (suc (suc (suc zero)))) = omega arith
stamp_fits s (suc (suc (suc (suc (suc zero))))) = omega arith
stamp_fits s (suc (suc (suc (suc (suc (suc zero)))))) = omega arith
stamp_fits s (suc (suc (suc (suc (suc (suc (suc zero))))))) = omega arith
stamp_fits s (suc (suc (suc (suc (suc (suc (suc (suc i)))))))) = omega arith

pub prints_number16 : (n : ℕ) → n < 2 ^ 16 → Prints number16 (number16_bytes n) n
prints_number16 n fits = prints_then _ _ (number16_bytes n) (number16_bytes n) n (prints_bytes (number16_bytes n) 2 refl (two_fit n)) (prints_meant _ n (sym (from_be_bytes-to_be_bytes_2 n fits)))

pub prints_number32 : (n : ℕ) → n < 2 ^ 32 → Prints number32 (number32_bytes n) n
prints_number32 n fits = prints_then _ _ (number32_bytes n) (number32_bytes n) n (prints_bytes (number32_bytes n) 4 refl (four_fit n)) (prints_meant _ n (sym (from_be_bytes-to_be_bytes_4 n fits)))

again48 : (n : ℕ) → n < 2 ^ 48 → from_be_bytes w64 (0 ∷ 0 ∷ number48_bytes n) ≡ n
again48 n fits =
    let first : n / 2 ^ 56 % 256 ≡ 0 = omega arith in
    let second : n / 2 ^ 48 % 256 ≡ 0 = omega arith in
    let whole : to_be_bytes w64 n ≡ 0 ∷ 0 ∷ number48_bytes n = λ i. first i ∷ second i ∷ number48_bytes n in
    ap (from_be_bytes w64) (sym whole) ∙ from_be_bytes-to_be_bytes_8 n (omega arith)

pub prints_number48 : (n : ℕ) → n < 2 ^ 48 → Prints number48 (number48_bytes n) n
prints_number48 n fits = prints_then _ _ (number48_bytes n) (number48_bytes n) n (prints_bytes (number48_bytes n) 6 refl (six_fit n)) (prints_meant _ n (sym (again48 n fits)))

pub prints_stamp : (clock : ℕ) (s : Stamp) → s.counter ≤ clock → Prints (stamp clock) (stamp_bytes s) s
prints_stamp clock s within =
    let same : s.counter ≡ counter_in (stamp_bytes s) = spelled_counter s (stamp_bytes s) refl in
    prints_then _ _ (stamp_bytes s) (stamp_bytes s) s (prints_bytes (stamp_bytes s) 8 refl (stamp_fits s))
    (prints_held _ _ _ [] s (omega (arith, same, s.in_range.0)) (prints_held _ _ _ [] s (omega (arith, same, within)) (prints_meant _ s refl)))

-- ---- what is there
pub prints_tag : (n : ℕ) (present : Bool) → n ≤ 1 → present ≡ (n == 1) → Prints tag (n ∷ []) present
prints_tag n present small e = prints_then _ _ (n ∷ []) n present (prints_byte n (omega (arith, small))) (prints_held _ _ _ [] present small (prints_meant _ present e))

pub prints_optional : {A : Type 0} (part : Part A) (bytes : A → List ℕ) (o : Option A) → IfSome o (λ x. Prints part (bytes x) x) → Prints (optional part) (optional_bytes bytes o) o
prints_optional part bytes None h = prints_then _ _ (0 ∷ []) false None (prints_tag 0 false (omega arith) refl) (prints_meant _ None refl)
prints_optional part bytes (Some x) h = prints_both _ _ (1 ∷ []) (bytes x) true (Some x) (prints_tag 1 true (omega arith) refl) (prints_then _ _ (bytes x) x (Some x) h (prints_meant _ (Some x) refl))

pub prints_written : {A : Type 0} (clock : ℕ) (part : Part A) (bytes : A → List ℕ) (o : Option (Stamp × A)) → IfSome o (λ w. w.0.counter ≤ clock) → IfSome o (λ w. Prints part (bytes w.1) w.1)
    → Prints (when (is_some o) (written clock part)) (written_bytes bytes o) o
prints_written clock part bytes None within h = prints_meant _ None refl
prints_written clock part bytes (Some w) within h =
    prints_then _ _ (stamp_bytes w.0 ++ bytes w.1) w (Some w)
    (prints_both _ _ (stamp_bytes w.0) (bytes w.1) w.0 w (prints_stamp clock w.0 within) (prints_then _ _ (bytes w.1) w.1 w h (prints_meant _ w refl)))
    (prints_meant _ (Some w) refl)

-- ---- values
base_again : (version : Version) (queue : Bool) → base_in (base_byte (record { version = version; queue = queue })) ≡ record { version = version; queue = queue }
base_again V10 false = refl
base_again V10 true = refl
base_again V11 false = refl
base_again V11 true = refl

base_small : (version : Version) (queue : Bool) → base_byte (record { version = version; queue = queue }) ≤ 3
base_small V10 false = omega arith
base_small V10 true = omega arith
base_small V11 false = omega arith
base_small V11 true = omega arith

pub prints_base : (b : Base) → Prints base (base_byte b ∷ []) b
prints_base b =
    let small : base_byte b ≤ 3 = base_small b.version b.queue in
    prints_then _ _ (base_byte b ∷ []) (base_byte b) b (prints_byte (base_byte b) (omega (arith, small))) (prints_held _ _ _ [] b small (prints_meant _ b (sym (base_again b.version b.queue))))

pub prints_addr : (a : Addr) → IsAddr a → Prints address (addr_bytes a) a
prints_addr (V4 h port) typed =
    prints_both _ _ (4 ∷ []) (h ++ number16_bytes port) 4 (V4 h port) (prints_byte 4 (omega arith)) (prints_held _ _ _ (h ++ number16_bytes port) (V4 h port) (inl refl)
    (prints_both _ _ h (number16_bytes port) h (V4 h port) (prints_bytes h 4 typed.whole typed.bytes) (prints_then _ _ (number16_bytes port) port (V4 h port) (prints_number16 port typed.port) (prints_meant _ (V4 h port) refl))))
prints_addr (V6 h port) typed =
    prints_both _ _ (6 ∷ []) (h ++ number16_bytes port) 6 (V6 h port) (prints_byte 6 (omega arith)) (prints_held _ _ _ (h ++ number16_bytes port) (V6 h port) (inr refl)
    (prints_both _ _ h (number16_bytes port) h (V6 h port) (prints_bytes h 16 typed.whole typed.bytes) (prints_then _ _ (number16_bytes port) port (V6 h port) (prints_number16 port typed.port) (prints_meant _ (V6 h port) refl))))

pub prints_moment : (m : Moment) → Prints moment (moment_bytes m) m
prints_moment m = prints_then _ _ (moment_bytes m) (ms_of m) m (prints_number48 (ms_of m) m.in_range) (prints_meant _ m refl)

pub prints_text : (t : List ℕ) → IsUtf8 t → ((i : ℕ) → slice_index t i < 256) → Prints (text (length t)) t t
prints_text t utf fits = prints_then _ _ t t t (prints_bytes t (length t) refl fits) (prints_held _ _ _ [] t utf (prints_meant _ t refl))

letters_fit : (t : List ℕ) → list_all is_ascii_uppercase t ≡ true → (i : ℕ) → slice_index t i < 256
letters_fit [] h i = omega arith
letters_fit (c ∷ t) h zero =
    let p = and_parts (is_ascii_uppercase c) (list_all is_ascii_uppercase t) h in
    omega (arith, leb-true c 90 (and_parts (leb 65 c) (leb c 90) p.0).1)
letters_fit (c ∷ t) h (suc i) = letters_fit t (and_parts (is_ascii_uppercase c) (list_all is_ascii_uppercase t) h).1 i

pub prints_binding : (b : Binding) → Prints binding (binding_bytes b) b
prints_binding b =
    let t = binding_text b in
    let p = b.padded.text in
    prints_both _ _ (length t ∷ []) t (length t) b (prints_byte (length t) (omega (arith, p.most))) (prints_held _ _ _ t b (p.some, p.most)
    (prints_then _ _ t t b (prints_bytes t (length t) refl (letters_fit t p.letters)) (prints_held _ _ _ [] b p (prints_meant _ b refl))))

pub prints_sms : (o : Option (List ℕ)) → IfSome o (λ t. IsOwnText t × (length t ≤ 251)) → Prints (optional sms_number) (sms_bytes o) o
prints_sms None h = prints_optional _ text_bytes None tt
prints_sms (Some t) h =
    prints_optional _ text_bytes (Some t) (prints_both _ _ (length t ∷ []) t (length t) t (prints_byte (length t) (omega (arith, h.1))) (prints_held _ _ _ t t h.1 (prints_text t h.0.0 h.0.1)))

pub prints_objects : (t : List ℕ) → IsPrinting t → ((i : ℕ) → slice_index t i < 256) → 1 ≤ length t → length t ≤ 8192 → Prints objects (objects_bytes t) t
prints_objects t p fits some most =
    prints_both _ _ (number16_bytes (length t)) t (length t) t (prints_number16 (length t) (omega (arith, most))) (prints_held _ _ _ t t (some, most)
    (prints_then _ _ t t t (prints_bytes t (length t) refl fits) (prints_held _ _ _ [] t p (prints_meant _ t refl))))

-- ---- paths
prints_path_number : (n : ℕ) → n ≤ 65534 → Prints path_number (number16_bytes n) n
prints_path_number n within = prints_then _ _ (number16_bytes n) n n (prints_number16 n (omega (arith, within))) (prints_held _ _ _ [] n within (prints_meant _ n refl))

numbers_on : (ns : List ℕ) (count : ℕ) (bytes front rest : List ℕ) → list_all is_number ns ≡ true → Found (numbers count) bytes front (numbers_bytes ns ++ rest) → Found (numbers (count + length ns)) bytes (front ++ ns) rest
numbers_on [] count bytes front rest all f =
    let e : count ≡ count + 0 = omega arith in
    subst (λ (k : ℕ). Found (numbers k) bytes (front ++ []) rest) e (subst (λ (x : List ℕ). Found (numbers count) bytes x rest) (sym (append-nil front)) f)
numbers_on (n ∷ ns) count bytes front rest all f =
    let p = and_parts (is_number n) (list_all is_number ns) all in
    let f' : Found (numbers count) bytes front (number16_bytes n ++ (numbers_bytes ns ++ rest)) = subst (λ (x : List ℕ). Found (numbers count) bytes front x) (append_assoc (number16_bytes n) (numbers_bytes ns) rest) f in
    let g = numbers_more count bytes front (number16_bytes n ++ (numbers_bytes ns ++ rest)) n (numbers_bytes ns ++ rest) f' (prints_path_number n (leb-true n 65534 p.0) (numbers_bytes ns ++ rest)) in
    let h = numbers_on ns (suc count) bytes (front ++ n ∷ []) rest p.1 g in
    let e : suc count + length ns ≡ count + length (n ∷ ns) = omega arith in
    subst (λ (k : ℕ). Found (numbers k) bytes (front ++ n ∷ ns) rest) e (subst (λ (x : List ℕ). Found (numbers (suc count + length ns)) bytes x rest) (append_assoc front (n ∷ []) ns) h)

prints_numbers : (ns : List ℕ) → list_all is_number ns ≡ true → Prints (numbers (length ns)) (numbers_bytes ns) ns
prints_numbers ns all rest =
    let h = numbers_on ns 0 (numbers_bytes ns ++ rest) [] rest all (meant _ refl) in
    let e : 0 + length ns ≡ length ns = omega arith in
    subst (λ (k : ℕ). Found (numbers k) (numbers_bytes ns ++ rest) ns rest) e h

pub prints_path : (after : Option Path) (p : Path) → IsAbove path_cmp after p → Prints (path after) (path_bytes p) p
prints_path after p above =
    let ns = path_numbers p in
    let k = p.kept.front in
    prints_both _ _ (length ns ∷ []) (numbers_bytes ns) (length ns) p (prints_byte (length ns) (omega (arith, k.most))) (prints_held _ _ _ (numbers_bytes ns) p (k.some, k.most)
    (prints_then _ _ (numbers_bytes ns) ns p (prints_numbers ns k.each) (prints_then _ _ [] p p (prints_meant _ p refl) (prints_held _ _ _ [] p above (prints_meant _ p refl)))))
