-- What is read from bytes that were walked before.
use Rattle.std.proofs.Common.{◌≡◌, ℕ, ◌⊎◌, List, [], ◌∷◌, Bool, true, false, Option, Some, None, sym, ap, ◌∙◌, subst, inl, inr}
use Rattle.std.specs.declared.cmp.Ordering.{Ordering}
use Rattle.std.specs.declared.cmp.Ordering.TheVariants.{Less}
use Rattle.lw_stamp.specs.declared.stamp.Stamp.{Stamp}
use Rattle.lw_stamp.specs.Order.{IsExactOrder}
use Rattle.lw_join.specs.declared.last.Last.{Last}
use Rattle.lw_join.specs.Entries.{AllAbove, Rises}
use Rattle.lw_join.specs.EntriesLaws.{above_from}
use Rattle.lw_join.specs.Parts.{entries_of, made}
use Rattle.lw_join.specs.PartsLaws.{entries_made, same_parts}
use Rattle.lw_reg.specs.declared.path.Path.{Path}
use Rattle.lw_reg.specs.Body.{Watching, Watches, AttributeMap}
use Rattle.lw_reg.specs.OrderLaws.{text_order, path_order}
use Rattle.lw_reg.specs.Orders.{path_cmp}
use Rattle.lw_stamp.specs.TextOrder.{text_cmp}
use Rattle.lw_delta.specs.declared.form.Form.{Form}
use Rattle.lw_delta.specs.declared.fault.DeltaFault.{DeltaFault}
use Rattle.lw_delta.specs.declared.fault.DeltaFault.TheVariants.{NoMemory}
use Rattle.lw_delta.specs.Order.{IsAbove}
use Rattle.lw_delta.specs.Part.{Part, Found, Fails, means, must, followed, when, Walks, repeated}
use Rattle.lw_delta.specs.Format.{attribute_name, attribute, attributes, path, watch, watches, behind}
use Rattle.lw_delta.specs.Values.{FieldContent, Behind, behind_of, slot_from, list_or_none}
use Rattle.lw_delta.proofs.Decided.{Decided}
use Rattle.lw_delta.proofs.FieldParts.{behind_at, attributes_each}
use Rattle.lw_delta.proofs.Kept.{Each, some_each}
use Rattle.lw_delta.proofs.Grammar.{attributes_decided, watches_decided}

-- ---- watches rise
path_above : (after : Option Path) (bytes : List ℕ) (p : Path) (rest : List ℕ) → Found (path after) bytes p rest → IsAbove path_cmp after p
unfolding followed must means
path_above after bytes p rest f =
    let last = f.is.3.is.1.is.3.is in
    subst (λ x. IsAbove path_cmp after x) (sym last.3.is.1.is.1) last.3.is.0

watch_above : (clock : ℕ) (after : Option Path) (bytes : List ℕ) (w : Path × Watching) (rest : List ℕ) → Found (watch clock after) bytes w rest → IsAbove path_cmp after w.0
unfolding followed must means
watch_above clock after bytes w rest f =
    let same = f.is.3.is.3.is.3.is.1.is.3.is.1 in
    subst (λ (x : Path × Watching). IsAbove path_cmp after x.0) (sym same) (path_above after bytes f.is.0 f.is.1 f.is.2)

abbrev AllAfter : {K V : Type 0} → (K → K → Ordering) → Option K → List (K × V) → Type 0
AllAfter cmp None es = Unit {0}
AllAfter cmp (Some k) es = AllAbove cmp k es

-- parts whose keys are each above the one before
pub record AreAbove {K V : Type 0} (cmp : K → K → Ordering) (item : Option K → Part (K × V)) : Type 0 where
  pub order : IsExactOrder cmp
  pub above : (after : Option K) → Each (item after) (λ e. IsAbove cmp after e.0)

walks_rise : {K V : Type 0} (cmp : K → K → Ordering) (item : Option K → Part (K × V)) → AreAbove cmp item → (after : Option K) (bytes : List ℕ) (es : List (K × V)) (rest : List ℕ) → Walks item (λ e. e.0) after bytes es rest
    → AllAfter cmp after es × Rises cmp es
walks_rise cmp item h None bytes [] rest w = (tt, tt)
walks_rise cmp item h (Some k) bytes [] rest w = (tt, tt)
walks_rise cmp item h None bytes (e ∷ es) rest w =
    let more = walks_rise cmp item h (Some e.0) w.0 es rest w.2 in
    (tt, more)
walks_rise cmp item h (Some k) bytes (e ∷ es) rest w =
    let more = walks_rise cmp item h (Some e.0) w.0 es rest w.2 in
    let here : cmp k e.0 ≡ Less = some_each _ _ (h.above (Some k)) bytes e w.0 w.1 in
    ((here, above_from h.order k e.0 es here more.0), more)

pub repeated_rise : {K V : Type 0} (cmp : K → K → Ordering) (item : Option K → Part (K × V)) → AreAbove cmp item → Each (repeated item (λ e. e.0) None) (λ es. Rises cmp es)
unfolding repeated
repeated_rise cmp item h bytes es rest f = (walks_rise cmp item h None bytes es f.is.0 f.is.1).1

pub watches_rise : (clock : ℕ) → Each (watches clock) (λ ws. Rises path_cmp ws)
watches_rise clock = repeated_rise path_cmp (watch clock) (record { order = path_order; above = watch_above clock })

-- ---- names of attributes rise
name_above : (after : Option (List ℕ)) → Each (attribute_name after) (λ name. IsAbove text_cmp after name)
unfolding followed must means
name_above after bytes name rest f =
    let last = f.is.3.is.1.is.3.is.1.is in
    subst (λ x. IsAbove text_cmp after x) (sym last.1.is.1) last.0

attribute_above : (clock : ℕ) (after : Option (List ℕ)) → Each (attribute clock after) (λ a. IsAbove text_cmp after a.0)
unfolding followed means
attribute_above clock after bytes a rest f =
    subst (λ (x : List ℕ × Last (List ℕ)). IsAbove text_cmp after x.0) (sym f.is.3.is.3.is.1) (name_above after bytes f.is.0 f.is.1 f.is.2)

pub attributes_rise : (clock : ℕ) → Each (attributes clock) (λ es. Rises text_cmp es)
attributes_rise clock = repeated_rise text_cmp (attribute clock) (record { order = text_order; above = attribute_above clock })

-- ---- what stands behind the fields is kept
pub behind_again : (form : Form) (clock : ℕ) (bytes : List ℕ) (more : Behind) (rest : List ℕ) → Found (behind form clock) bytes more rest → (r : Stamp) (k : FieldContent) → behind_of (slot_from r false k more) ≡ more
behind_again form clock bytes more rest f r k =
    let parts = behind_at form clock bytes more rest f in
    let es = entries_made _ _ _ more.attributes (attributes_each form clock (λ es. Rises text_cmp es) tt (attributes_rise clock) bytes more rest f) in
    let ws = entries_made _ _ _ more.watches (watches_rise clock _ _ _ parts.watches) in
    λ i. record { attributes = es i; ended = more.ended; watches = ws i }

pub parts_are : (clock : ℕ) (bytes : List ℕ) (parts : Watches) (es ws : List (Path × Watching)) (r s : List ℕ) → Found (watches clock) bytes es r → Found (watches clock) bytes ws s → entries_of parts ≡ es → parts ≡ made ws
parts_are clock bytes parts es ws r s f g e =
    let same : es ≡ ws = ((watches_decided clock).one bytes es ws r s f g).0 in
    same_parts parts (made ws) (e ∙ same ∙ sym (entries_made _ _ _ ws (watches_rise clock bytes ws s g)))

-- what was found where a flag is set
pub there_found : {A : Type 0} {part : Part A} {present : Bool} (bytes : List ℕ) (o : Option A) (rest : List ℕ) → present ≡ true → Found (when present part) bytes o rest → (x : A) × Found part bytes x rest × (o ≡ Some x)
unfolding followed means
there_found {A} {part} bytes o rest e f =
    let g : Found (when true part) bytes o rest = subst (λ (b : Bool). Found (when b part) bytes o rest) e f in
    let last = g.is.3.is in
    (g.is.0, subst (λ (x : List ℕ). Found part bytes g.is.0 x) last.0 g.is.2, last.1)

-- what was found where none is set
none_found : {A : Type 0} (part : Part A) {present : Bool} (bytes : List ℕ) (o : Option A) (rest : List ℕ) → present ≡ false → Found (when present part) bytes o rest → (bytes ≡ rest) × (o ≡ None)
unfolding means
none_found {A} part bytes o rest e f = (subst (λ (b : Bool). Found (when b part) bytes o rest) e f).is

pub no_attributes_are : (clock : ℕ) (present : Bool) (bytes : List ℕ) (parts : AttributeMap) (o : Option (List (List ℕ × Last (List ℕ)))) (rest : List ℕ) → present ≡ false → Found (when present (attributes clock)) bytes o rest → entries_of parts ≡ []
    → parts ≡ made (list_or_none o)
no_attributes_are clock present bytes parts o rest e f none =
    let g = none_found (attributes clock) bytes o rest e f in
    let empty : parts ≡ made [] = same_parts parts (made []) (none ∙ sym (entries_made _ _ _ [] tt)) in
    empty ∙ ap (λ (x : Option (List (List ℕ × Last (List ℕ)))). let m : AttributeMap = made (list_or_none x) in m) (sym g.1)

pub attributes_are : (clock : ℕ) (present : Bool) (bytes : List ℕ) (parts : AttributeMap) (es : List (List ℕ × Last (List ℕ))) (o : Option (List (List ℕ × Last (List ℕ)))) (r s : List ℕ) → present ≡ true
    → Found (attributes clock) bytes es r → Found (when present (attributes clock)) bytes o s → entries_of parts ≡ es → parts ≡ made (list_or_none o)
attributes_are clock present bytes parts es o r s e f g same =
    let there = there_found bytes o s e g in
    let one = (attributes_decided clock).one bytes es there.0 r s f there.1 in
    let all : parts ≡ made there.0 = same_parts parts (made there.0) (same ∙ one.0 ∙ sym (entries_made _ _ _ there.0 (attributes_rise clock bytes there.0 s there.1))) in
    all ∙ ap (λ (x : Option (List (List ℕ × Last (List ℕ)))). let m : AttributeMap = made (list_or_none x) in m) (sym there.2)

-- of bytes that a part was found in, want of memory is the one fault
pub only_want : {A : Type 0} {part : Part A} (d : Decided part) (bytes : List ℕ) (a : A) (rest : List ℕ) (f : DeltaFault) → Found part bytes a rest → (f ≡ NoMemory) ⊎ Fails part bytes f → f ≡ NoMemory
only_want d bytes a rest f found (inl h) = h
only_want d bytes a rest f found (inr h) = absurd (d.apart bytes a rest f found h)
