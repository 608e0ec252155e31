-- Well formed links have a printed spelling.
use Rattle.std.proofs.Common.{◌≡◌, ℕ, ◌≤◌, true, false, not, ◌&&◌, ◌||◌, ◌==◌, List, [], ◌∷◌, ◌++◌, length, refl, ap, subst, sym, ◌∙◌, inl, inr, arith, chars, IsUtf8, encode_utf8_all}
use Rattle.std.specs.Str.{all_scalars}
use Rattle.std.specs.List.{AllByRecursion}
use Rattle.std.proofs.lemmas.Bool.{and_from, cases_Bool, or_parts, not_from_false}
use Rattle.std.proofs.lemmas.Str.{encodes-chars, scalars-chars, chars-encodes}
use Rattle.lw_link.specs.declared.style.Style.TheVariants.{Printed}
use Rattle.lw_link.specs.declared.link.Attr.{Attr}
use Rattle.lw_link.specs.declared.link.AttrValue.{AttrValue}
use Rattle.lw_link.specs.declared.link.AttrValue.TheVariants.{Absent, Plain, Quoted}
use Rattle.lw_link.specs.Link.{LinkContent}
use Rattle.lw_link.specs.Characters.{Each, is_name_char, is_plain_char, is_shown, is_quoted_char}
use Rattle.lw_link.specs.Grammar.{AreItems, IsValue, IsAttr, AreAttrs, IsLink, AreMore, IsList}
use Rattle.lw_link.specs.WellFormed.{IsGoodValue, IsGoodAttr, IsGoodLink, AreWellFormed}
use Rattle.lw_link.specs.Printing.{printing}
use Rattle.lw_link.specs.Spelling.{Spells}
use Rattle.lw_link.proofs.Places.{scalars-parts, scalars-append}
use Rattle.lw_link.proofs.Printed.{list_any, list_printed}

itself : (c : ℕ) → is_shown c ≡ true → (c == 34 || c == 92) ≡ false → is_quoted_char c ≡ true
itself c h e =
    let p = or_parts (c == 34) (c == 92) e in
    and_from (is_shown c && not (c == 34)) (not (c == 92)) (and_from (is_shown c) (not (c == 34)) h (not_from_false (c == 34) p.0)) (not_from_false (c == 92) p.1)

items_spelled : (items : List ℕ) → Each is_shown items → all_scalars items ≡ true → (front : List ℕ) × AreItems Printed front items × (all_scalars front ≡ true)
items_spelled [] h u = ([], refl, refl)
items_spelled (c ∷ items) h u =
    let p = scalars-parts (c ∷ []) items u in
    let more = items_spelled items h.1 p.1 in
    elim (cases_Bool (c == 34 || c == 92)) [
      | inl e ↦ (92 ∷ c ∷ more.0, (more.0, inr (refl, e), more.1), scalars-append (92 ∷ c ∷ []) more.0 (scalars-append (92 ∷ []) (c ∷ []) refl p.0) more.2)
      | inr e ↦ (c ∷ more.0, (more.0, inl (refl, itself c h.0 e), more.1), scalars-append (c ∷ []) more.0 p.0 more.2)
    ]

some_of : (cs text : List ℕ) → text ≡ encode_utf8_all cs → 1 ≤ length text → (first : ℕ) × (more : List ℕ) × (cs ≡ first ∷ more)
some_of [] text e le = absurd (omega (arith, ap length e))
some_of (c ∷ cs) text e le = (c, cs, refl)

-- the characters of a text that is not empty
some_chars : (text : List ℕ) → IsUtf8 text → 1 ≤ length text → (first : ℕ) × (more : List ℕ) × (chars text ≡ first ∷ more)
some_chars text u le = some_of (chars text) text (sym (encodes-chars text u)) le

value_spelled : (value : AttrValue) → IsGoodValue value → (front : List ℕ) × IsValue Printed front value × (all_scalars front ≡ true)
value_spelled Absent h = ([], refl, refl)
value_spelled (Plain text) ((u, each), le) =
    let some = some_chars text u le in
    let e : chars text ≡ some.0 ∷ some.1 = some.2 in
    let good : all_scalars (some.0 ∷ some.1) ≡ true = ap all_scalars (sym e) ∙ scalars-chars text u in
    (61 ∷ some.0 ∷ some.1, (some.0, some.1, refl, subst (Each is_plain_char) e each, sym (encodes-chars text u) ∙ ap encode_utf8_all e), scalars-append (61 ∷ []) (some.0 ∷ some.1) refl good)
value_spelled (Quoted text) (u, each) =
    let inner = items_spelled (chars text) each (scalars-chars text u) in
    (61 ∷ 34 ∷ (inner.0 ++ 34 ∷ []), (inner.0, chars text, refl, inner.1, sym (encodes-chars text u)), scalars-append (61 ∷ 34 ∷ []) (inner.0 ++ 34 ∷ []) refl (scalars-append inner.0 (34 ∷ []) inner.2 refl))

attr_spelled : (attr : Attr) → IsGoodAttr attr → (front : List ℕ) × IsAttr Printed front attr × (all_scalars front ≡ true)
attr_spelled attr (((u, each), le), good) =
    let some = some_chars attr.name u le in
    let e : chars attr.name ≡ some.0 ∷ some.1 = some.2 in
    let value = value_spelled attr.value good in
    let name : all_scalars (some.0 ∷ some.1) ≡ true = ap all_scalars (sym e) ∙ scalars-chars attr.name u in (
      some.0 ∷ (some.1 ++ value.0),
      record { first = some.0; more = some.1; rest = value.0; chars_are = refl; name_chars = subst (Each is_name_char) e each; name_is = sym (encodes-chars attr.name u) ∙ ap encode_utf8_all e; value_is = value.1 },
      scalars-append (some.0 ∷ some.1) value.0 name value.2,
    )

attrs_spelled : (attrs : List Attr) → AllByRecursion IsGoodAttr attrs → (front : List ℕ) × AreAttrs Printed front attrs × (all_scalars front ≡ true)
attrs_spelled [] h = ([], refl, refl)
attrs_spelled (attr ∷ attrs) h =
    let first = attr_spelled attr h.0 in
    let more = attrs_spelled attrs h.1 in
    (59 ∷ (first.0 ++ more.0), ([], first.0, more.0, refl, tt, first.1, more.1), scalars-append (59 ∷ []) (first.0 ++ more.0) refl (scalars-append first.0 more.0 first.2 more.2))

link_spelled : (link : LinkContent) → IsGoodLink link → (front : List ℕ) × IsLink Printed front link × (all_scalars front ≡ true)
link_spelled link ((u, each), good) =
    let attrs = attrs_spelled link.attrs good in
    let target = chars link.target in (
      60 ∷ (target ++ 62 ∷ attrs.0),
      record { front = target; rest = attrs.0; chars_are = refl; target_chars = each; target_is = sym (encodes-chars link.target u); attrs_are = attrs.1 },
      scalars-append (60 ∷ []) (target ++ 62 ∷ attrs.0) refl (scalars-append target (62 ∷ attrs.0) (scalars-chars link.target u) (scalars-append (62 ∷ []) attrs.0 refl attrs.2)),
    )

more_spelled : (links : List LinkContent) → AllByRecursion IsGoodLink links → (front : List ℕ) × AreMore Printed front links × (all_scalars front ≡ true)
more_spelled [] h = ([], refl, refl)
more_spelled (link ∷ links) h =
    let first = link_spelled link h.0 in
    let more = more_spelled links h.1 in
    (44 ∷ (first.0 ++ more.0), ([], first.0, more.0, refl, tt, first.1, more.1), scalars-append (44 ∷ []) (first.0 ++ more.0) refl (scalars-append first.0 more.0 first.2 more.2))

list_spelled : (links : List LinkContent) → 1 ≤ length links → AllByRecursion IsGoodLink links → (front : List ℕ) × IsList Printed front links × (all_scalars front ≡ true)
list_spelled [] some h = absurd (omega arith)
list_spelled (link ∷ links) some h =
    let first = link_spelled link h.0 in
    let more = more_spelled links h.1 in
    (first.0 ++ more.0, (first.0, more.0, refl, first.1, more.1), scalars-append first.0 more.0 first.2 more.2)

-- the characters of a printing are its printed spelling
pub printing_is : (links : List LinkContent) → AreWellFormed links → IsUtf8 (printing links) × IsList Printed (chars (printing links)) links
printing_is links h =
    let front = list_spelled links h.some h.each in
    let text : encode_utf8_all front.0 ≡ printing links = list_printed front.0 links front.1 front.2 in
    let cs : front.0 ≡ chars (printing links) = sym (chars-encodes front.0 front.2) ∙ ap chars text in
    ((front.0, (front.2, text)), subst (λ (x : List ℕ). IsList Printed x links) cs front.1)

pub printing_spells : (links : List LinkContent) → AreWellFormed links → Spells (printing links) links
printing_spells links h =
    let p = printing_is links h in (p.0, list_any (chars (printing links)) links p.1)
