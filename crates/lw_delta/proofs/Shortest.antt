-- A delta is spelled as it is written, or longer, and longer only where something of it is gone.
use Rattle.std.proofs.Common.{◌≡◌, ℕ, zero, suc, ◌+◌, ◌<◌, ◌≤◌, ◌⊎◌, Bool, true, false, List, [], ◌∷◌, ◌++◌, length, Option, Some, None, is_some, refl, sym, ap, ◌∙◌, subst, arith, inl, inr, append_assoc}
use Rattle.std.proofs.lemmas.List.{length-append}
use mathlib.Core.Bool.{true≢false}
use Rattle.lw_stamp.specs.declared.stamp.Stamp.{Stamp}
use Rattle.lw_stamp.specs.Stamp.{stamp_bytes}
use Rattle.lw_join.specs.declared.or_gone.OrGone.TheVariants.{Gone}
use Rattle.lw_join.specs.declared.last.Last.{Last}
use Rattle.lw_reg.specs.declared.base.Base.{Base}
use Rattle.lw_reg.specs.declared.path.Path.{Path}
use Rattle.lw_reg.specs.declared.slot.Slot.{Slot}
use Rattle.lw_reg.specs.Body.{Watching}
use Rattle.lw_delta.specs.declared.form.Form.{Form}
use Rattle.lw_delta.specs.Form.{magic_of, has_attributes, has_end}
use Rattle.lw_delta.specs.Part.{Found, byte, bytes_of, means, must, followed, when, optional, Walks, repeated}
use Rattle.lw_delta.specs.Format.{number16, base, watch, watches, behind, fields, slot, magic, header}
use Rattle.lw_delta.specs.Values.{is_set, FieldContent, Behind, behind_of, slot_from, watching_from}
use Rattle.lw_delta.specs.Delta.{DeltaContent, IsSpelling, IsSpellingIn}
use Rattle.lw_delta.specs.Removals.{HasCancelled, HasRemoval, HaveRemoval}
use Rattle.lw_delta.specs.Writing.{Begins, number16_bytes, number32_bytes, number48_bytes, optional_bytes, written_bytes, base_bytes, addr_bytes, moment_bytes, text_bytes, binding_bytes, sms_bytes, objects_bytes, path_bytes, accept_bytes, watch_bytes, repeated_bytes, attribute_bytes, attributes_bytes, ended_bytes, watches_bytes, behind_bytes, flag_if, flags_byte, fields_bytes, slot_bytes, slots_bytes, begun_bytes_in, delta_bytes_in}
use Rattle.lw_delta.proofs.Decided.{optional_takes}
use Rattle.lw_delta.proofs.FieldParts.{fields_at, behind_at, slot_at}
use Rattle.lw_delta.proofs.FlagBits.{sum7}
use Rattle.lw_delta.proofs.FlagSums.{sum_again}
use Rattle.lw_delta.proofs.Fitting.{token_is}
use Rattle.lw_delta.proofs.Grammar.{number16_decided, one_front}
use Rattle.lw_delta.proofs.Owning.{behind_again}
use Rattle.lw_delta.proofs.Spellings.{Spells, chain, ending, some_spelled, none_spelled, spells_when, spells_when_written, spells_optional, spells_number16, spells_number32, spells_number48, spells_stamp, spells_base, spells_address, spells_moment, spells_binding, spells_sms, spells_objects, spells_path, spells_attributes, spells_ended, spells_endpoint}

-- these bytes and the rest, or more where something is gone
abbrev Spelled : Type 0 → List ℕ → List ℕ → List ℕ → Type 0
Spelled gone front bytes rest = (bytes ≡ front ++ rest) ⊎ (gone × (length (front ++ rest) < length bytes))

at_front : (a b rest : List ℕ) → length ((a ++ b) ++ rest) ≡ length a + length (b ++ rest)
at_front a b rest = ap length (append_assoc a b rest) ∙ length-append a (b ++ rest)

behind_front : {gone : Type 0} (bytes behind rest a b : List ℕ) → bytes ≡ a ++ behind → Spelled gone b behind rest → Spelled gone (a ++ b) bytes rest
behind_front bytes behind rest a b e (inl f) = inl (chain rest a b e f)
behind_front bytes behind rest a b e (inr l) = inr (l.0, omega (arith, ap length e ∙ length-append a behind, at_front a b rest, l.1))

both_spelled : {left right gone : Type 0} (bytes behind rest a b : List ℕ) → (left → gone) → (right → gone) → Spelled left a bytes behind → Spelled right b behind rest → Spelled gone (a ++ b) bytes rest
both_spelled bytes behind rest a b f g (inl e) (inl h) = inl (chain rest a b e h)
both_spelled bytes behind rest a b f g (inl e) (inr l) = inr (g l.0, omega (arith, ap length e ∙ length-append a behind, at_front a b rest, l.1))
both_spelled bytes behind rest a b f g (inr k) (inl h) = inr (f k.0, omega (arith, k.1, length-append a behind, at_front a b rest, ap length h))
both_spelled bytes behind rest a b f g (inr k) (inr l) = inr (f k.0, omega (arith, k.1, length-append a behind, at_front a b rest, l.1))

-- ---- watches
abbrev IsGone : Watching → Type 0
IsGone watching = watching.value ≡ Gone

-- the accept of a cancelled watch is read, and not written
spelled_accept : (token : Stamp) (flags : ℕ) (bytes : List ℕ) (accept : Option (Option ℕ)) (rest : List ℕ) → (1 ≤ flags) × (flags ≤ 3) → Found (when (is_set flags 1) (optional number16)) bytes accept rest
    → Spelled (IsGone (watching_from token (is_set flags 2) accept)) (accept_bytes (watching_from token (is_set flags 2) accept).value) (flags ∷ bytes) rest
unfolding followed means
spelled_accept token zero bytes accept rest range f = absurd (omega (arith, range.0))
spelled_accept token (suc zero) bytes accept rest range f =
    let last = f.is.3.is in
    let e : bytes ≡ optional_bytes number16_bytes f.is.0 ++ rest = ending (optional_bytes number16_bytes f.is.0) (spells_optional number16 number16_bytes spells_number16 bytes f.is.0 f.is.1 f.is.2) last.0 in
    subst (λ a. Spelled (IsGone (watching_from token false a)) (accept_bytes (watching_from token false a).value) (1 ∷ bytes) rest) (sym last.1) (inl (ap (λ (x : List ℕ). 1 ∷ x) e))
spelled_accept token (suc (suc zero)) bytes accept rest range f = inl (ap (λ (x : List ℕ). 2 ∷ x) f.is.0)
spelled_accept token (suc (suc (suc zero))) bytes accept rest range f =
    let last = f.is.3.is in
    inr (refl, omega (arith, optional_takes number16_decided bytes f.is.0 f.is.1 f.is.2, ap length last.0))
spelled_accept token (suc (suc (suc (suc n)))) bytes accept rest range f = absurd (omega (arith, range.1))

spelled_watch : (clock : ℕ) (after : Option Path) (bytes : List ℕ) (w : Path × Watching) (rest : List ℕ) → Found (watch clock after) bytes w rest → Spelled (IsGone w.1) (watch_bytes w) bytes rest
unfolding followed must means byte
spelled_watch clock after bytes w rest f =
    let t = f.is.3.is in
    let flags = t.3.is in
    let m = flags.3.is in
    let a = m.1.is in
    let last = a.3.is in
    let watching = watching_from t.0 (is_set flags.0 2) a.0 in
    let said : Found (when (is_set flags.0 1) (optional number16)) flags.1 a.0 rest = subst (λ (x : List ℕ). Found (when (is_set flags.0 1) (optional number16)) flags.1 a.0 x) last.0 a.2 in
    let value : Spelled (IsGone watching) (accept_bytes watching.value) t.1 rest =
    subst (λ (x : List ℕ). Spelled (IsGone watching) (accept_bytes watching.value) x rest) (sym flags.2.is.0) (spelled_accept t.0 flags.0 flags.1 a.0 rest m.0 said) in
    let stamped : f.is.1 ≡ stamp_bytes watching.stamp ++ t.1 = spells_stamp clock f.is.1 t.0 t.1 t.2 ∙ ap (λ (s : Stamp). stamp_bytes s ++ t.1) (sym (token_is t.0 (is_set flags.0 2) a.0)) in
    let token = behind_front f.is.1 t.1 rest (stamp_bytes watching.stamp) (accept_bytes watching.value) stamped value in
    let whole = behind_front bytes f.is.1 rest (path_bytes f.is.0) (stamp_bytes watching.stamp ++ accept_bytes watching.value) (spells_path after bytes f.is.0 f.is.1 f.is.2) token in
    subst (λ (x : Path × Watching). Spelled (IsGone x.1) (watch_bytes x) bytes rest) (sym last.1) whole

spelled_watches_walk : (clock : ℕ) (after : Option Path) (bytes : List ℕ) (ws : List (Path × Watching)) (behind rest : List ℕ) → Walks (watch clock) (λ w. w.0) after bytes ws behind → behind ≡ 0 ∷ rest
    → Spelled (HasCancelled ws) (watches_bytes ws) bytes rest
spelled_watches_walk clock after bytes [] behind rest w e = inl (w ∙ e)
spelled_watches_walk clock after bytes (x ∷ xs) behind rest w e =
    let s = some_spelled (watch clock after) bytes x w.0 w.1 in
    let more = spelled_watches_walk clock (Some x.0) w.0 xs behind rest w.2 e in
    behind_front bytes s.behind rest (1 ∷ []) (watch_bytes x ++ watches_bytes xs) s.tagged
    (both_spelled s.behind w.0 rest (watch_bytes x) (watches_bytes xs) (λ g. inl g) (λ g. inr g) (spelled_watch clock after s.behind x w.0 s.found) more)

spelled_watches : (clock : ℕ) (bytes : List ℕ) (ws : List (Path × Watching)) (rest : List ℕ) → Found (watches clock) bytes ws rest → Spelled (HasCancelled ws) (watches_bytes ws) bytes rest
unfolding repeated
spelled_watches clock bytes ws rest f = spelled_watches_walk clock None bytes ws f.is.0 rest f.is.1 (none_spelled _ f.is.0 rest f.is.2)

-- ---- what stands behind the fields
spelled_behind : (form : Form) (clock : ℕ) (bytes : List ℕ) (more : Behind) (rest : List ℕ) → Found (behind form clock) bytes more rest → Spelled (HasCancelled more.watches) (behind_bytes form more) bytes rest
spelled_behind form clock bytes more rest f =
    let parts = behind_at form clock bytes more rest f in
    let flag = has_attributes form in
    let attributes : bytes ≡ attributes_bytes flag more.attributes ++ parts.behind_attributes =
    spells_attributes clock flag bytes parts.there parts.behind_attributes parts.attributes ∙ ap (λ (es : List (List ℕ × Last (List ℕ))). attributes_bytes flag es ++ parts.behind_attributes) (sym parts.same) in
    let told = has_end form in
    let ended : parts.behind_attributes ≡ ended_bytes told more.ended ++ parts.behind_end =
    spells_ended clock told parts.behind_attributes parts.said parts.behind_end parts.ended ∙ ap (λ (o : Option Stamp). ended_bytes told o ++ parts.behind_end) (sym parts.same_end) in
    behind_front bytes parts.behind_attributes rest (attributes_bytes flag more.attributes) (ended_bytes told more.ended ++ watches_bytes more.watches) attributes
    (behind_front parts.behind_attributes parts.behind_end rest (ended_bytes told more.ended) (watches_bytes more.watches) ended (spelled_watches clock parts.behind_end more.watches rest parts.watches))

-- these bytes, or more
abbrev Least : List ℕ → List ℕ → Type 0
Least least all = (all ≡ least) ⊎ (length least < length all)

least_both : (a b x y : List ℕ) → Least a x → Least b y → Least (a ++ b) (x ++ y)
least_both a b x y (inl e) (inl h) = inl (ap (λ (z : List ℕ). z ++ y) e ∙ ap (λ (z : List ℕ). a ++ z) h)
least_both a b x y (inl e) (inr l) = inr (omega (arith, ap length e, l, length-append a b, length-append x y))
least_both a b x y (inr k) (inl h) = inr (omega (arith, k, ap length h, length-append a b, length-append x y))
least_both a b x y (inr k) (inr l) = inr (omega (arith, k, l, length-append a b, length-append x y))

-- the end of repeated parts alone is one byte, and any part takes more
repeated_least : {A : Type 0} (write : A → List ℕ) (xs : List A) → Least (0 ∷ []) (repeated_bytes write xs)
repeated_least write [] = inl refl
repeated_least {A} write (x ∷ xs) = inr (omega (arith, length-append (write x) (repeated_bytes write xs), ends xs))
  where
    ends : (ys : List A) → 1 ≤ length (repeated_bytes write ys)
    ends [] = omega arith
    ends (y ∷ ys) = omega arith

attributes_least : (flag : Bool) (es : List (List ℕ × Last (List ℕ))) → Least (attributes_bytes flag []) (attributes_bytes flag es)
attributes_least true es = repeated_least attribute_bytes es
attributes_least false es = inl refl

ended_least : (flag : Bool) (o : Option Stamp) → Least (ended_bytes flag None) (ended_bytes flag o)
ended_least true None = inl refl
ended_least true (Some s) = inr (omega arith)
ended_least false o = inl refl

-- as of a removed registration
abbrev nothing : Behind
nothing = record { attributes = []; ended = None; watches = [] }

behind_least : (form : Form) (more : Behind) → Least (behind_bytes form nothing) (behind_bytes form more)
behind_least form more =
    let flag = has_attributes form in
    let told = has_end form in
    least_both (attributes_bytes flag []) (ended_bytes told None ++ watches_bytes []) (attributes_bytes flag more.attributes) (ended_bytes told more.ended ++ watches_bytes more.watches) (attributes_least flag more.attributes)
    (least_both (ended_bytes told None) (watches_bytes []) (ended_bytes told more.ended) (watches_bytes more.watches) (ended_least told more.ended) (repeated_least watch_bytes more.watches))

nothing_or_longer : {gone : Type 0} (bytes rest least all : List ℕ) → Spelled gone all bytes rest → Least least all → (bytes ≡ least ++ rest) ⊎ (length (least ++ rest) < length bytes)
nothing_or_longer bytes rest least all (inl e) (inl same) = inl (e ∙ ap (λ (x : List ℕ). x ++ rest) same)
nothing_or_longer bytes rest least all (inl e) (inr l) = inr (omega (arith, ap length e ∙ length-append all rest, length-append least rest, l))
nothing_or_longer bytes rest least all (inr k) (inl same) = inr (omega (arith, k.1, ap (λ (x : List ℕ). length (x ++ rest)) same))
nothing_or_longer bytes rest least all (inr k) (inr l) = inr (omega (arith, k.1, length-append all rest, length-append least rest, l))

-- ---- fields
-- the bytes of what the fields keep
abbrev content_bytes : FieldContent → List ℕ
content_bytes k =
    base_bytes k.base ++ (written_bytes addr_bytes k.address ++ (written_bytes moment_bytes k.seen ++ (written_bytes number32_bytes k.lifetime
    ++ (written_bytes binding_bytes k.binding ++ (written_bytes sms_bytes k.sms ++ written_bytes objects_bytes k.objects)))))

-- the flags tell which fields are there
record Told (flags : ℕ) (k : FieldContent) : Type 0 where
  pub base : is_some k.base ≡ is_set flags 1
  pub address : is_some k.address ≡ is_set flags 2
  pub seen : is_some k.seen ≡ is_set flags 4
  pub lifetime : is_some k.lifetime ≡ is_set flags 8
  pub binding : is_some k.binding ≡ is_set flags 16
  pub sms : is_some k.sms ≡ is_set flags 32
  pub objects : is_some k.objects ≡ is_set flags 64

record ContentSpelled (flags : ℕ) (bytes : List ℕ) (k : FieldContent) (rest : List ℕ) : Type 0 where
  pub spelled : bytes ≡ content_bytes k ++ rest
  pub told : Told flags k

spelled_fields : (clock flags : ℕ) (bytes : List ℕ) (k : FieldContent) (rest : List ℕ) → Found (fields clock flags) bytes k rest → ContentSpelled flags bytes k rest
spelled_fields clock flags bytes k rest f =
    let parts = fields_at clock flags bytes k rest f in
    let e1 = spells_when base base_bytes refl spells_base _ _ _ _ parts.base in
    let e2 = spells_when_written clock _ addr_bytes spells_address _ _ _ _ parts.address in
    let e3 = spells_when_written clock _ moment_bytes spells_moment _ _ _ _ parts.seen in
    let e4 = spells_when_written clock _ number32_bytes spells_number32 _ _ _ _ parts.lifetime in
    let e5 = spells_when_written clock _ binding_bytes spells_binding _ _ _ _ parts.binding in
    let e6 = spells_when_written clock _ sms_bytes (spells_optional _ text_bytes spells_sms) _ _ _ _ parts.sms in
    let e7 = spells_when_written clock _ objects_bytes spells_objects _ _ _ _ parts.objects in
    let w7 = written_bytes objects_bytes k.objects in
    let w6 = written_bytes sms_bytes k.sms ++ w7 in
    let w5 = written_bytes binding_bytes k.binding ++ w6 in
    let w4 = written_bytes number32_bytes k.lifetime ++ w5 in
    let w3 = written_bytes moment_bytes k.seen ++ w4 in
    let w2 = written_bytes addr_bytes k.address ++ w3 in
    record {
      spelled = chain rest (base_bytes k.base) w2 e1.spelled (chain rest (written_bytes addr_bytes k.address) w3 e2.spelled (chain rest (written_bytes moment_bytes k.seen) w4 e3.spelled
          (chain rest (written_bytes number32_bytes k.lifetime) w5 e4.spelled (chain rest (written_bytes binding_bytes k.binding) w6 e5.spelled (chain rest (written_bytes sms_bytes k.sms) w7 e6.spelled e7.spelled)))));
      told = record { base = e1.told; address = e2.told; seen = e3.told; lifetime = e4.told; binding = e5.told; sms = e6.told; objects = e7.told };
    }

-- no field is there, or the fields take bytes
none_or_some : {A : Type 0} (write : Option A → List ℕ) → ((x : A) → 1 ≤ length (write (Some x))) → (o : Option A) → (is_some o ≡ false) ⊎ (1 ≤ length (write o))
none_or_some write some None = inl refl
none_or_some write some (Some x) = inr (some x)

base_some : (o : Option Base) → (is_some o ≡ false) ⊎ (1 ≤ length (base_bytes o))
base_some o = none_or_some base_bytes (λ x. omega arith) o

written_some : {A : Type 0} (write : A → List ℕ) (o : Option (Stamp × A)) → (is_some o ≡ false) ⊎ (1 ≤ length (written_bytes write o))
written_some write o = none_or_some (written_bytes write) (λ x. omega arith) o

either : {P Q : Type 0} (n : ℕ) → P ⊎ (1 ≤ n) → (m : ℕ) → Q ⊎ (1 ≤ m) → (P × Q) ⊎ (1 ≤ n + m)
either n (inl p) m (inl q) = inl (p, q)
either n (inl p) m (inr q) = inr (omega (arith, q))
either n (inr p) m (inl q) = inr (omega (arith, p))
either n (inr p) m (inr q) = inr (omega (arith, p))

joined_some : {P Q : Type 0} (a b : List ℕ) → P ⊎ (1 ≤ length a) → Q ⊎ (1 ≤ length b) → (P × Q) ⊎ (1 ≤ length (a ++ b))
joined_some {P} {Q} a b f g = subst (λ (n : ℕ). (P × Q) ⊎ (1 ≤ n)) (sym (length-append a b)) (either (length a) f (length b) g)

record NoFields (k : FieldContent) : Type 0 where
  pub base : is_some k.base ≡ false
  pub address : is_some k.address ≡ false
  pub seen : is_some k.seen ≡ false
  pub lifetime : is_some k.lifetime ≡ false
  pub binding : is_some k.binding ≡ false
  pub sms : is_some k.sms ≡ false
  pub objects : is_some k.objects ≡ false

fields_some : (k : FieldContent) → NoFields k ⊎ (1 ≤ length (content_bytes k))
fields_some k =
    told (joined_some (base_bytes k.base) _ (base_some k.base) (joined_some (written_bytes addr_bytes k.address) _ (written_some addr_bytes k.address) (joined_some (written_bytes moment_bytes k.seen) _ (written_some moment_bytes k.seen)
    (joined_some (written_bytes number32_bytes k.lifetime) _ (written_some number32_bytes k.lifetime) (joined_some (written_bytes binding_bytes k.binding) _ (written_some binding_bytes k.binding)
    (joined_some (written_bytes sms_bytes k.sms) (written_bytes objects_bytes k.objects) (written_some sms_bytes k.sms) (written_some objects_bytes k.objects)))))))
  where
    told : ((is_some k.base ≡ false) × ((is_some k.address ≡ false) × ((is_some k.seen ≡ false) × ((is_some k.lifetime ≡ false) × ((is_some k.binding ≡ false) × ((is_some k.sms ≡ false) × (is_some k.objects ≡ false))))))) ⊎ (1 ≤ length (content_bytes k))
        → NoFields k ⊎ (1 ≤ length (content_bytes k))
    told (inl h) = inl (record { base = h.0; address = h.1.0; seen = h.1.1.0; lifetime = h.1.1.1.0; binding = h.1.1.1.1.0; sms = h.1.1.1.1.1.0; objects = h.1.1.1.1.1.1 })
    told (inr h) = inr h

-- the bytes of fields that are not there are none
none_bytes : {A : Type 0} (write : Option A → List ℕ) → write None ≡ [] → (o : Option A) → is_some o ≡ false → write o ≡ []
none_bytes write none None h = none
none_bytes write none (Some x) h = absurd (true≢false h)

no_bytes : (k : FieldContent) → NoFields k → content_bytes k ≡ []
no_bytes k h = rw (
  none_bytes base_bytes refl k.base h.base,
  none_bytes (written_bytes addr_bytes) refl k.address h.address,
  none_bytes (written_bytes moment_bytes) refl k.seen h.seen,
  none_bytes (written_bytes number32_bytes) refl k.lifetime h.lifetime,
  none_bytes (written_bytes binding_bytes) refl k.binding h.binding,
  none_bytes (written_bytes sms_bytes) refl k.sms h.sms,
  none_bytes (written_bytes objects_bytes) refl k.objects h.objects,
) refl

-- ---- slots
-- a flag byte is the flags that it tells
flags_are : (flags : ℕ) (k : FieldContent) → flags < 256 → Told flags k
    → flags ≡ sum7 (is_some k.base) (is_some k.address) (is_some k.seen) (is_some k.lifetime) (is_some k.binding) (is_some k.sms) (is_some k.objects) + flag_if 128 (is_set flags 128)
flags_are flags k fits told = rw (told.base, told.address, told.seen, told.lifetime, told.binding, told.sms, told.objects) (sum_again flags fits)

removed_flags : (flags : ℕ) (k : FieldContent) → flags < 256 → Told flags k → is_set flags 128 ≡ true → NoFields k → flags ≡ 128
removed_flags flags k fits told gone h =
    flags_are flags k fits told ∙ ap (λ (b : Bool). sum7 (is_some k.base) (is_some k.address) (is_some k.seen) (is_some k.lifetime) (is_some k.binding) (is_some k.sms) (is_some k.objects) + flag_if 128 b) gone
    ∙ rw (h.base, h.address, h.seen, h.lifetime, h.binding, h.sms, h.objects) refl

kept_flags : (flags : ℕ) (k : FieldContent) → flags < 256 → Told flags k → is_set flags 128 ≡ false
    → flags ≡ sum7 (is_some k.base) (is_some k.address) (is_some k.seen) (is_some k.lifetime) (is_some k.binding) (is_some k.sms) (is_some k.objects)
kept_flags flags k fits told here =
    let n = sum7 (is_some k.base) (is_some k.address) (is_some k.seen) (is_some k.lifetime) (is_some k.binding) (is_some k.sms) (is_some k.objects) in
    let e : n + 0 ≡ n = omega arith in
    flags_are flags k fits told ∙ ap (λ (b : Bool). n + flag_if 128 b) here ∙ e

more_gone : {less more : Type 0} (front bytes rest : List ℕ) → (less → more) → Spelled less front bytes rest → Spelled more front bytes rest
more_gone front bytes rest f (inl e) = inl e
more_gone front bytes rest f (inr l) = inr (f l.0, l.1)

-- the flags of a slot and what stands behind them
abbrev told_bytes : Form → Slot → List ℕ
told_bytes form s = flags_byte s ∷ (fields_bytes s ++ behind_bytes form (behind_of s))

-- what a removed registration has is read, and not written
removed_told : (form : Form) (r : Stamp) (flags : ℕ) (bytes : List ℕ) (k : FieldContent) (behind : List ℕ) (more : Behind) (rest : List ℕ) → flags < 256 → is_set flags 128 ≡ true → ContentSpelled flags bytes k behind
    → (behind ≡ behind_bytes form nothing ++ rest) ⊎ (length (behind_bytes form nothing ++ rest) < length behind) → NoFields k ⊎ (1 ≤ length (content_bytes k))
    → Spelled (HasRemoval (slot_from r true k more)) (told_bytes form (slot_from r true k more)) (flags ∷ bytes) rest
removed_told form r flags bytes k behind more rest fits gone c (inl e) (inl none) =
    inl (ap (λ (n : ℕ). n ∷ bytes) (removed_flags flags k fits c.told gone none) ∙ ap (λ (x : List ℕ). 128 ∷ x) (c.spelled ∙ ap (λ (x : List ℕ). x ++ behind) (no_bytes k none) ∙ e))
removed_told form r flags bytes k behind more rest fits gone c (inl e) (inr some) = inr (inl refl, omega (arith, ap length c.spelled ∙ length-append (content_bytes k) behind, ap length e, some))
removed_told form r flags bytes k behind more rest fits gone c (inr l) some = inr (inl refl, omega (arith, ap length c.spelled ∙ length-append (content_bytes k) behind, l))

kept_told : (form : Form) (clock : ℕ) (r : Stamp) (flags : ℕ) (bytes : List ℕ) (k : FieldContent) (behind_fields : List ℕ) (more : Behind) (rest : List ℕ) → flags < 256 → is_set flags 128 ≡ false → ContentSpelled flags bytes k behind_fields
    → Found (behind form clock) behind_fields more rest → Spelled (HasRemoval (slot_from r false k more)) (told_bytes form (slot_from r false k more)) (flags ∷ bytes) rest
kept_told form clock r flags bytes k behind_fields more rest fits here c f =
    let s = slot_from r false k more in
    let w : Spelled (HasCancelled (behind_of s).watches) (behind_bytes form (behind_of s)) behind_fields rest =
    subst (λ (b : Behind). Spelled (HasCancelled b.watches) (behind_bytes form b) behind_fields rest) (sym (behind_again form clock behind_fields more rest f r k)) (spelled_behind form clock behind_fields more rest f) in
    let content : Spelled (HasCancelled (behind_of s).watches) (fields_bytes s ++ behind_bytes form (behind_of s)) bytes rest = behind_front bytes behind_fields rest (fields_bytes s) (behind_bytes form (behind_of s)) c.spelled w in
    let all : Spelled (HasCancelled (behind_of s).watches) (told_bytes form s) (flags ∷ bytes) rest =
    behind_front (flags ∷ bytes) bytes rest (flags_byte s ∷ []) (fields_bytes s ++ behind_bytes form (behind_of s)) (ap (λ (n : ℕ). n ∷ bytes) (kept_flags flags k fits c.told here)) content in
    more_gone (told_bytes form s) (flags ∷ bytes) rest (λ g. inr g) all

spelled_told : (form : Form) (clock : ℕ) (r : Stamp) (flags : ℕ) (bytes : List ℕ) (k : FieldContent) (behind_fields : List ℕ) (more : Behind) (rest : List ℕ) (removed : Bool) → flags < 256 → is_set flags 128 ≡ removed
    → ContentSpelled flags bytes k behind_fields → Found (behind form clock) behind_fields more rest → Spelled (HasRemoval (slot_from r removed k more)) (told_bytes form (slot_from r removed k more)) (flags ∷ bytes) rest
spelled_told form clock r flags bytes k behind_fields more rest true fits e c f =
    removed_told form r flags bytes k behind_fields more rest fits e c (nothing_or_longer behind_fields rest (behind_bytes form nothing) (behind_bytes form more) (spelled_behind form clock behind_fields more rest f) (behind_least form more)) (fields_some k)
spelled_told form clock r flags bytes k behind_fields more rest false fits e c f = kept_told form clock r flags bytes k behind_fields more rest fits e c f

spelled_slot : (form : Form) (clock : ℕ) (after : Option (List ℕ)) (bytes : List ℕ) (s : List ℕ × Slot) (rest : List ℕ) → Found (slot form clock after) bytes s rest → Spelled (HasRemoval s.1) (slot_bytes form s) bytes rest
unfolding byte
spelled_slot form clock after bytes s rest f =
    let parts = slot_at form clock after bytes s rest f in
    let kept = slot_from parts.registration (is_set parts.flags 128) parts.kept parts.more in
    let told : Spelled (HasRemoval kept) (told_bytes form kept) parts.behind_registration rest =
    subst (λ (x : List ℕ). Spelled (HasRemoval kept) (told_bytes form kept) x rest) (sym parts.flagged.is.0)
    (spelled_told form clock parts.registration parts.flags parts.behind_flags parts.kept parts.behind_fields parts.more rest (is_set parts.flags 128) parts.flagged.is.1 refl (spelled_fields clock _ _ _ _ parts.fielded) parts.ended) in
    let stamped = behind_front parts.behind_name parts.behind_registration rest (stamp_bytes parts.registration) (told_bytes form kept) (spells_stamp clock _ _ _ parts.stamped) told in
    let whole = behind_front bytes parts.behind_name rest (text_bytes parts.name) (stamp_bytes parts.registration ++ told_bytes form kept) (spells_endpoint after _ _ _ parts.named) stamped in
    subst (λ (x : List ℕ × Slot). Spelled (HasRemoval x.1) (slot_bytes form x) bytes rest) (sym parts.same) whole

spelled_slots : (form : Form) (clock : ℕ) (after : Option (List ℕ)) (bytes : List ℕ) (ss : List (List ℕ × Slot)) (rest : List ℕ) → Walks (slot form clock) (λ s. s.0) after bytes ss rest → Spelled (HaveRemoval ss) (slots_bytes form ss) bytes rest
spelled_slots form clock after bytes [] rest w = inl w
spelled_slots form clock after bytes (x ∷ xs) rest w =
    let s = some_spelled (slot form clock after) bytes x w.0 w.1 in
    behind_front bytes s.behind rest (1 ∷ []) (slot_bytes form x ++ slots_bytes form xs) s.tagged
    (both_spelled s.behind w.0 rest (slot_bytes form x) (slots_bytes form xs) (λ g. inl g) (λ g. inr g) (spelled_slot form clock after s.behind x w.0 s.found) (spelled_slots form clock (Some x.0) w.0 xs rest w.2))

spells_magic : Spells magic magic_of
unfolding followed must means bytes_of
spells_magic bytes form rest f =
    let last = f.is.3.is.1.is in
    ending f.is.0 f.is.2.is.0 last.0 ∙ ap (λ (x : List ℕ). x ++ rest) (sym last.1)

spells_header : Spells header (λ h. magic_of h.0 ++ number48_bytes h.1)
unfolding followed means
spells_header bytes h rest f =
    let n = f.is.3.is in
    let last = n.3.is in
    subst (λ (x : Form × ℕ). bytes ≡ (magic_of x.0 ++ number48_bytes x.1) ++ rest) (sym last.1)
    (chain rest (magic_of f.is.0) (number48_bytes n.0) (spells_magic bytes f.is.0 f.is.1 f.is.2) (ending (number48_bytes n.0) (spells_number48 f.is.1 n.0 n.1 n.2) last.0))

-- the delta is of a format, and spelled in it
record SpelledIn (bytes : List ℕ) (d : DeltaContent) : Type 0 where
  pub form : Form
  pub front : Begins (magic_of form) bytes
  pub spelled : Spelled (HaveRemoval d.slots) (begun_bytes_in form d.clock d.slots) bytes (0 ∷ [])

spelled_delta : (bytes : List ℕ) (d : DeltaContent) → IsSpelling bytes d → SpelledIn bytes d
unfolding followed means repeated
spelled_delta bytes d f =
    let h = f.is.0 in
    let ss = f.is.3.is in
    let last = ss.3.is in
    let w = ss.2.is in
    let e : w.0 ≡ 0 ∷ [] = none_spelled _ w.0 ss.1 w.2 ∙ ap (λ (x : List ℕ). 0 ∷ x) last.0 in
    let walked : Spelled (HaveRemoval ss.0) (slots_bytes h.0 ss.0) f.is.1 (0 ∷ []) =
    spelled_slots h.0 h.1 None f.is.1 ss.0 (0 ∷ []) (subst (λ (x : List ℕ). Walks (slot h.0 h.1) (λ s. s.0) None f.is.1 ss.0 x) e w.1) in
    let begun = spells_header bytes h f.is.1 f.is.2 in
    let whole = behind_front bytes f.is.1 (0 ∷ []) (magic_of h.0 ++ number48_bytes h.1) (slots_bytes h.0 ss.0) begun walked in
    record {
      form = h.0;
      front = record { more = number48_bytes h.1 ++ f.is.1; is = begun ∙ append_assoc (magic_of h.0) (number48_bytes h.1) f.is.1 };
      spelled = subst (λ (p : ℕ × List (List ℕ × Slot)). Spelled (HaveRemoval p.1) (begun_bytes_in h.0 p.0 p.1) bytes (0 ∷ [])) (sym last.1) whole;
    }

spelled_in : (form : Form) (bytes : List ℕ) (d : DeltaContent) → IsSpellingIn form bytes d → Spelled (HaveRemoval d.slots) (begun_bytes_in form d.clock d.slots) bytes (0 ∷ [])
spelled_in form bytes d s =
    let t = spelled_delta bytes d s.1 in
    subst (λ f. Spelled (HaveRemoval d.slots) (begun_bytes_in f d.clock d.slots) bytes (0 ∷ [])) (one_front t.form form t.front.more s.0.more (sym t.front.is ∙ s.0.is)) t.spelled

one_or_longer : {gone : Type 0} (bytes front : List ℕ) → Spelled gone front bytes (0 ∷ []) → (bytes ≡ front ++ 0 ∷ []) ⊎ (length (front ++ 0 ∷ []) < length bytes)
one_or_longer bytes front (inl e) = inl e
one_or_longer bytes front (inr l) = inr l.1

only_one : {gone : Type 0} (bytes front : List ℕ) → Spelled gone front bytes (0 ∷ []) → (gone → ⊥) → bytes ≡ front ++ 0 ∷ []
only_one bytes front (inl e) none = e
only_one bytes front (inr l) none = absurd (none l.0)

pub written_is_shortest : (form : Form) (bytes : List ℕ) (d : DeltaContent) → IsSpellingIn form bytes d → (bytes ≡ delta_bytes_in form d.clock d.slots) ⊎ (length (delta_bytes_in form d.clock d.slots) < length bytes)
written_is_shortest form bytes d s = one_or_longer bytes (begun_bytes_in form d.clock d.slots) (spelled_in form bytes d s)

pub written_is_alone : (form : Form) (bytes : List ℕ) (d : DeltaContent) → IsSpellingIn form bytes d → (HaveRemoval d.slots → ⊥) → bytes ≡ delta_bytes_in form d.clock d.slots
written_is_alone form bytes d s none = only_one bytes (begun_bytes_in form d.clock d.slots) (spelled_in form bytes d s) none
