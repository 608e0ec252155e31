-- The bytes of what stands behind the fields of a slot are read as what they were written from.
use Rattle.std.specs.declared.cmp.Ordering.{Ordering}
use Rattle.std.proofs.Common.{ℕ, ◌<◌, ◌≤◌, ◌^◌, true, false, List, [], ◌∷◌, ◌++◌, Option, Some, None, IfSome, refl, sym, subst, arith, append_assoc}
use Rattle.lw_stamp.specs.declared.stamp.Stamp.{Stamp}
use Rattle.std.specs.Prelude.{IsTrue, length, ◌-◌}
use mathlib.Core.Bool.{true≢false}
use Rattle.lw_stamp.specs.Stamp.{stamp_bytes}
use Rattle.lw_stamp.specs.TextOrder.{text_cmp}
use Rattle.lw_join.specs.declared.last.Last.{Last}
use Rattle.lw_join.specs.declared.or_gone.OrGone.{OrGone}
use Rattle.lw_join.specs.declared.or_gone.OrGone.TheVariants.{Here, Gone}
use Rattle.lw_join.specs.Entries.{AllAbove, Rises}
use Rattle.lw_join.specs.declared.once.Once.{Once}
use Rattle.lw_reg.specs.declared.path.Path.{Path}
use Rattle.lw_reg.specs.Attribute.{is_attribute_name}
use Rattle.lw_reg.specs.Body.{Watching}
use Rattle.lw_reg.specs.Orders.{path_cmp}
use Rattle.lw_delta.specs.Order.{IsAbove}
use Rattle.lw_delta.specs.Part.{Part, Found, optional, Walks, repeated}
use Rattle.lw_delta.specs.Format.{number16, stamp, written, attribute_name, attribute_value, attribute, attributes, ended, watch, watches, behind}
use Rattle.lw_delta.specs.Form.{latest}
use Rattle.lw_delta.specs.Values.{Behind}
use Rattle.lw_delta.specs.Writable.{AttributesWithin, TokensWithin, IsOwnText, AttributeTyped, AttributesTyped, AcceptTyped, AcceptsTyped, BehindTyped}
use Rattle.lw_delta.specs.Writing.{text_bytes, attribute_bytes, number16_bytes, optional_bytes, path_bytes, watch_bytes, repeated_bytes, watches_bytes, behind_bytes}
use Rattle.lw_delta.proofs.Prints.{Prints, prints_both, prints_then, prints_meant, prints_held, prints_byte, prints_tag, prints_optional, prints_number16, prints_stamp, prints_path, prints_text}

format_prints : (o : Option ℕ) → IfSome o (λ n. n < 2 ^ 16) → Prints (optional number16) (optional_bytes number16_bytes o) o
format_prints None h = prints_optional _ number16_bytes None tt
format_prints (Some n) h = prints_optional _ number16_bytes (Some n) (prints_number16 n h)

pub prints_watch : (clock : ℕ) (after : Option Path) (p : Path) (token : Stamp) (value : OrGone (Once ℕ)) → IsAbove path_cmp after p → token.counter ≤ clock → AcceptTyped value
    → Prints (watch clock after) (watch_bytes (p, record { stamp = token; value = value })) (p, record { stamp = token; value = value })
prints_watch clock after p token Gone above within typed =
    let w : Path × Watching = (p, record { stamp = token; value = Gone }) in
    prints_both _ _ (path_bytes p) (stamp_bytes token ++ 2 ∷ []) p w (prints_path after p above) (prints_both _ _ (stamp_bytes token) (2 ∷ []) token w (prints_stamp clock token within)
    (prints_then _ _ (2 ∷ []) 2 w (prints_byte 2 (omega arith)) (prints_held _ _ _ [] w (omega arith, omega arith) (prints_then _ _ [] None w (prints_meant _ None refl) (prints_meant _ w refl)))))
prints_watch clock after p token (Here accept) above within typed =
    let w : Path × Watching = (p, record { stamp = token; value = Here accept }) in
    let front = optional_bytes number16_bytes accept.value in
    prints_both _ _ (path_bytes p) (stamp_bytes token ++ 1 ∷ front) p w (prints_path after p above) (prints_both _ _ (stamp_bytes token) (1 ∷ front) token w (prints_stamp clock token within)
    (prints_both _ _ (1 ∷ []) front 1 w (prints_byte 1 (omega arith)) (prints_held _ _ _ front w (omega arith, omega arith)
    (prints_then _ _ front (Some accept.value) w (prints_then _ _ front accept.value (Some accept.value) (format_prints accept.value typed) (prints_meant _ (Some accept.value) refl)) (prints_meant _ w refl)))))

-- the first of them is above the one before, where there is one
abbrev pub FirstAbove : {K V : Type 0} → (K → K → Ordering) → Option K → List (K × V) → Type 0
FirstAbove cmp after [] = Unit {0}
FirstAbove cmp after (e ∷ es) = IsAbove cmp after e.0

-- the bytes of each are read as it, behind what it rests on
abbrev pub AllPrint : {K V : Type 0} → (Option K → Part (K × V)) → (K × V → List ℕ) → Option K → List (K × V) → Type 0
AllPrint item write after [] = Unit {0}
AllPrint item write after (e ∷ es) = Prints (item after) (write e) e × AllPrint item write (Some e.0) es

walk : {K V : Type 0} (item : Option K → Part (K × V)) (write : K × V → List ℕ) (after : Option K) (es : List (K × V)) (rest : List ℕ) → AllPrint item write after es
    → Walks item (λ e. e.0) after (repeated_bytes write es ++ rest) es (0 ∷ rest)
walk item write after [] rest h = refl
walk item write after (e ∷ es) rest h =
    let here : Prints (optional (item after)) (1 ∷ write e) (Some e) =
    prints_both _ _ (1 ∷ []) (write e) true (Some e) (prints_tag 1 true (omega arith) refl) (prints_then _ _ (write e) e (Some e) h.0 (prints_meant _ (Some e) refl)) in
    let more = repeated_bytes write es in (
      more ++ rest,
      subst (λ (x : List ℕ). Found (optional (item after)) x (Some e) (more ++ rest)) (sym (append_assoc (1 ∷ write e) more rest)) (here (more ++ rest)),
      walk item write (Some e.0) es rest h.1,
    )

pub prints_repeated : {K V : Type 0} (item : Option K → Part (K × V)) (write : K × V → List ℕ) (es : List (K × V)) → AllPrint item write None es → Prints (repeated item (λ e. e.0) None) (repeated_bytes write es) es
unfolding repeated
prints_repeated item write es h rest = record { is = (0 ∷ rest, walk item write None es rest h, prints_then _ _ (0 ∷ []) false None (prints_tag 0 false (omega arith) refl) (prints_meant _ None refl) rest) }

pub first_above : {K V : Type 0} (cmp : K → K → Ordering) (k : K) (es : List (K × V)) → AllAbove cmp k es → FirstAbove cmp (Some k) es
first_above cmp k [] h = tt
first_above cmp k (e ∷ es) h = h.0

pub none_before : {K V : Type 0} (cmp : K → K → Ordering) (es : List (K × V)) → FirstAbove cmp None es
none_before cmp [] = tt
none_before cmp (e ∷ es) = tt

-- ---- attributes
name_some : (name : List ℕ) → IsTrue (is_attribute_name name) → 1 ≤ length name
name_some [] h = absurd (true≢false (sym h))
name_some (c ∷ name) h = omega arith

prints_name : (after : Option (List ℕ)) (name : List ℕ) → IsOwnText name → IsTrue (is_attribute_name name) → length name ≤ 255 → IsAbove text_cmp after name → Prints (attribute_name after) (text_bytes name) name
prints_name after name own named most above =
    prints_both _ _ (length name ∷ []) name (length name) name (prints_byte (length name) (omega (arith, most))) (prints_held _ _ _ name name (name_some name named)
    (prints_then _ _ name name name (prints_text name own.0 own.1) (prints_held _ _ _ [] name named (prints_held _ _ _ [] name above (prints_meant _ name refl)))))

prints_value : (name value : List ℕ) → IsOwnText value → length value ≤ 254 - length name → Prints (attribute_value name) (text_bytes value) value
prints_value name value own room =
    prints_both _ _ (length value ∷ []) value (length value) value (prints_byte (length value) (omega (arith, room))) (prints_held _ _ _ value value room (prints_text value own.0 own.1))

prints_attribute : (clock : ℕ) (after : Option (List ℕ)) (name : List ℕ) (s : Stamp) (value : List ℕ) → AttributeTyped (name, record { write = (s, value) }) → s.counter ≤ clock → IsAbove text_cmp after name
    → Prints (attribute clock after) (attribute_bytes (name, record { write = (s, value) })) (name, record { write = (s, value) })
prints_attribute clock after name s value typed within above =
    let a : List ℕ × Last (List ℕ) = (name, record { write = (s, value) }) in
    let w : Stamp × List ℕ = (s, value) in
    let bytes = stamp_bytes s ++ text_bytes value in
    let write : Prints (written clock (attribute_value name)) bytes w =
    prints_both _ _ (stamp_bytes s) (text_bytes value) s w (prints_stamp clock s within) (prints_then _ _ (text_bytes value) value w (prints_value name value typed.value typed.is.room) (prints_meant _ w refl)) in
    prints_both _ _ (text_bytes name) bytes name a (prints_name after name typed.name typed.is.named typed.is.most above) (prints_then _ _ bytes w a write (prints_meant _ a refl))

attributes_print : (clock : ℕ) (after : Option (List ℕ)) (es : List (List ℕ × Last (List ℕ))) → FirstAbove text_cmp after es → Rises text_cmp es → AttributesWithin clock es → AttributesTyped es → AllPrint (attribute clock) attribute_bytes after es
attributes_print clock after [] above rises within typed = tt
attributes_print clock after (a ∷ es) above rises within typed =
    (prints_attribute clock after a.0 a.1.write.0 a.1.write.1 typed.0 within.0 above, attributes_print clock (Some a.0) es (first_above text_cmp a.0 es rises.0) rises.1 within.1 typed.1)

prints_attributes : (clock : ℕ) (es : List (List ℕ × Last (List ℕ))) → Rises text_cmp es → AttributesWithin clock es → AttributesTyped es → Prints (attributes clock) (repeated_bytes attribute_bytes es) es
prints_attributes clock es rises within typed = prints_repeated (attribute clock) attribute_bytes es (attributes_print clock None es (none_before text_cmp es) rises within typed)

-- ---- watches
watches_print : (clock : ℕ) (after : Option Path) (ws : List (Path × Watching)) → FirstAbove path_cmp after ws → Rises path_cmp ws → TokensWithin clock ws → AcceptsTyped ws → AllPrint (watch clock) watch_bytes after ws
watches_print clock after [] above rises tokens typed = tt
watches_print clock after (w ∷ ws) above rises tokens typed =
    (prints_watch clock after w.0 w.1.stamp w.1.value above tokens.0 typed.0, watches_print clock (Some w.0) ws (first_above path_cmp w.0 ws rises.0) rises.1 tokens.1 typed.1)

prints_watches : (clock : ℕ) (ws : List (Path × Watching)) → Rises path_cmp ws → TokensWithin clock ws → AcceptsTyped ws → Prints (watches clock) (watches_bytes ws) ws
prints_watches clock ws rises tokens typed = prints_repeated (watch clock) watch_bytes ws (watches_print clock None ws (none_before path_cmp ws) rises tokens typed)

-- ---- ends
prints_ended : (clock : ℕ) (o : Option Stamp) → IfSome o (λ s. s.counter ≤ clock) → Prints (ended clock) (optional_bytes stamp_bytes o) o
prints_ended clock None h = prints_optional (stamp clock) stamp_bytes None tt
prints_ended clock (Some s) h = prints_optional (stamp clock) stamp_bytes (Some s) (prints_stamp clock s h)

-- ---- what stands behind the fields of a slot that may be written
pub record BehindFits (clock : ℕ) (more : Behind) : Type 0 where
  pub names_rise : Rises text_cmp more.attributes
  pub within : AttributesWithin clock more.attributes
  pub ended : IfSome more.ended (λ s. s.counter ≤ clock)
  pub watches_rise : Rises path_cmp more.watches
  pub tokens : TokensWithin clock more.watches
  pub typed : BehindTyped more

pub prints_behind : (clock : ℕ) (more : Behind) → BehindFits clock more → Prints (behind latest clock) (behind_bytes latest more) more
prints_behind clock more h =
    let es = more.attributes in
    let front = repeated_bytes attribute_bytes es in
    let o = more.ended in
    let end = optional_bytes stamp_bytes o in
    prints_both _ _ front (end ++ watches_bytes more.watches) (Some es) more
    (prints_then _ _ front es (Some es) (prints_attributes clock es h.names_rise h.within h.typed.attributes) (prints_meant _ (Some es) refl))
    (prints_both _ _ end (watches_bytes more.watches) (Some o) more (prints_then _ _ end o (Some o) (prints_ended clock o h.ended) (prints_meant _ (Some o) refl))
    (prints_then _ _ (watches_bytes more.watches) more.watches more (prints_watches clock more.watches h.watches_rise h.tokens h.typed.accepts) (prints_meant _ more refl)))
