-- The printed spelling of links: what it is, and which links have one.
use Rattle.std.proofs.Common.{◌≡◌, ℕ, ◌≤◌, Bool, true, false, not, ◌&&◌, ◌||◌, ◌==◌, List, [], ◌∷◌, ◌++◌, length, refl, ap, subst, sym, ◌∙◌, inl, inr, arith, chars, encode_utf8, encode_utf8_all}
use Rattle.std.specs.Str.{all_scalars}
use Rattle.std.specs.List.{AllByRecursion}
use Rattle.std.proofs.lemmas.Bool.{and_parts, or_cases, not-true, eqb-true}
use Rattle.std.proofs.lemmas.Str.{encodes-append, chars-encodes, length-le-encodes}
use Rattle.lw_link.specs.declared.style.Style.{Style}
use Rattle.lw_link.specs.declared.style.Style.TheVariants.{Any, Printed}
use Rattle.lw_link.specs.declared.link.Attr.{Attr}
use Rattle.lw_link.specs.declared.link.AttrValue.{AttrValue}
use Rattle.lw_link.specs.declared.link.AttrValue.TheVariants.{Absent, Plain, Quoted}
use Rattle.lw_link.specs.Link.{LinkContent}
use Rattle.lw_link.specs.Characters.{Each, is_target_char, is_name_char, is_plain_char, is_shown, is_quoted_char, is_space}
use Rattle.lw_link.specs.Grammar.{IsItem, AreItems, IsValue, IsAttr, AreAttrs, IsLink, AreMore, IsList}
use Rattle.lw_link.specs.Printing.{escaped, escaped_all, value_text, attrs_text, link_text, more_text, printing}
use Rattle.lw_link.specs.WellFormed.{IsTextOf, IsGoodValue, IsGoodAttr, IsGoodLink}
use Rattle.lw_link.proofs.Places.{scalars-parts, scalars-append}

-- ---- what is printed is in the grammar

false_is_true : false ≡ true → ⊥
false_is_true h = cc

no_gap : (gap : List ℕ) → Each (is_space Printed) gap → gap ≡ []
no_gap [] h = refl
no_gap (c ∷ gap) h = absurd (false_is_true h.0)

gap_any : (gap : List ℕ) → Each (is_space Printed) gap → Each (is_space Any) gap
gap_any [] h = tt
gap_any (c ∷ gap) h = absurd (false_is_true h.0)

escaped_any : (c : ℕ) → (c == 34 || c == 92) ≡ true → is_shown c ≡ true
escaped_any c h =
    elim (or_cases (c == 34) (c == 92) h) [
      | inl e ↦ ap is_shown (eqb-true c 34 e)
      | inr e ↦ ap is_shown (eqb-true c 92 e)
    ]

item_any : (front rest : List ℕ) (c : ℕ) → IsItem Printed front c rest → IsItem Any front c rest
item_any front rest c (inl h) = inl h
item_any front rest c (inr (e, h)) = inr (e, escaped_any c h)

items_any : (front items : List ℕ) → AreItems Printed front items → AreItems Any front items
items_any front [] h = h
items_any front (c ∷ items) (rest, item, h) = (rest, item_any front rest c item, items_any rest items h)

value_any : (front : List ℕ) (value : AttrValue) → IsValue Printed front value → IsValue Any front value
value_any front Absent h = h
value_any front (Plain text) h = h
value_any front (Quoted text) (inner, items, e, h, t) = (inner, items, e, items_any inner items h, t)

attr_any : (front : List ℕ) (attr : Attr) → IsAttr Printed front attr → IsAttr Any front attr
attr_any front attr h = record { first = h.first; more = h.more; rest = h.rest; chars_are = h.chars_are; name_chars = h.name_chars; name_is = h.name_is; value_is = value_any h.rest attr.value h.value_is }

attrs_any : (attrs : List Attr) (cs : List ℕ) → AreAttrs Printed cs attrs → AreAttrs Any cs attrs
attrs_any [] cs h = h
attrs_any (attr ∷ attrs) cs (gap, front, rest, e, ok, is, h) = (gap, front, rest, e, gap_any gap ok, attr_any front attr is, attrs_any attrs rest h)

link_any : (front : List ℕ) (link : LinkContent) → IsLink Printed front link → IsLink Any front link
link_any front link h = record { front = h.front; rest = h.rest; chars_are = h.chars_are; target_chars = h.target_chars; target_is = h.target_is; attrs_are = attrs_any link.attrs h.rest h.attrs_are }

more_any : (links : List LinkContent) (cs : List ℕ) → AreMore Printed cs links → AreMore Any cs links
more_any [] cs h = h
more_any (link ∷ links) cs (gap, front, rest, e, ok, is, h) = (gap, front, rest, e, gap_any gap ok, link_any front link is, more_any links rest h)

pub list_any : (cs : List ℕ) (links : List LinkContent) → IsList Printed cs links → IsList Any cs links
list_any cs [] h = h
list_any cs (link ∷ links) (front, rest, e, is, h) = (front, rest, e, link_any front link is, more_any links rest h)

-- ---- the characters of a part are characters

pub items_scalars : (k : Style) (front items : List ℕ) → AreItems k front items → all_scalars front ≡ true → all_scalars items ≡ true
items_scalars k front [] h u = refl
items_scalars k front (c ∷ items) (rest, inl (e, q), h) u =
    let p = scalars-parts (c ∷ []) rest (ap all_scalars (sym e) ∙ u) in
    scalars-append (c ∷ []) items p.0 (items_scalars k rest items h p.1)
items_scalars k front (c ∷ items) (rest, inr (e, q), h) u =
    let p = scalars-parts (92 ∷ c ∷ []) rest (ap all_scalars (sym e) ∙ u) in
    scalars-append (c ∷ []) items (scalars-parts (92 ∷ []) (c ∷ []) p.0).1 (items_scalars k rest items h p.1)

pub parts : (cs a b : List ℕ) → cs ≡ a ++ b → all_scalars cs ≡ true → (all_scalars a ≡ true) × (all_scalars b ≡ true)
parts cs a b e u = scalars-parts a b (ap all_scalars (sym e) ∙ u)

-- ---- the printing is the printed spelling

pub plain_escape : (c : ℕ) → is_quoted_char c ≡ true → escaped c ≡ encode_utf8 c
plain_escape c q =
    let p = and_parts (is_shown c && not (c == 34)) (not (c == 92)) q in
    let r = and_parts (is_shown c) (not (c == 34)) p.0 in
    rw (not-true (c == 34) r.1, not-true (c == 92) p.1) refl

items_printed : (front items : List ℕ) → AreItems Printed front items → encode_utf8_all front ≡ escaped_all items
unfolding lib.Utf8.encode
items_printed front [] h = ap encode_utf8_all h
items_printed front (c ∷ items) (rest, inl (e, q), h) =
    ap encode_utf8_all e ∙ ap (λ (x : List ℕ). encode_utf8 c ++ x) (items_printed rest items h) ∙ ap (λ (x : List ℕ). x ++ escaped_all items) (sym (plain_escape c q))
items_printed front (c ∷ items) (rest, inr (e, m), h) =
    let here : escaped c ≡ 92 ∷ encode_utf8 c = rw m refl in
    ap encode_utf8_all e ∙ ap (λ (x : List ℕ). 92 ∷ (encode_utf8 c ++ x)) (items_printed rest items h) ∙ ap (λ (x : List ℕ). x ++ escaped_all items) (sym here)

value_printed : (front : List ℕ) (value : AttrValue) → IsValue Printed front value → all_scalars front ≡ true → encode_utf8_all front ≡ value_text value
unfolding lib.Utf8.encode
value_printed front Absent h u = ap encode_utf8_all h
value_printed front (Plain text) (first, more, e, ok, t) u = ap encode_utf8_all e ∙ ap (λ (x : List ℕ). 61 ∷ x) (sym t)
value_printed front (Quoted text) (inner, items, e, h, t) u =
    let good : all_scalars inner ≡ true = (scalars-parts inner (34 ∷ []) (scalars-parts (61 ∷ 34 ∷ []) (inner ++ 34 ∷ []) (ap all_scalars (sym e) ∙ u)).1).0 in
    let items_are : chars text ≡ items = ap chars t ∙ chars-encodes items (items_scalars Printed inner items h good) in
    ap encode_utf8_all e ∙ ap (λ (x : List ℕ). 61 ∷ 34 ∷ x) (encodes-append inner (34 ∷ []) ∙ ap (λ (x : List ℕ). x ++ 34 ∷ []) (items_printed inner items h ∙ ap escaped_all (sym items_are)))

attr_printed : (front : List ℕ) (attr : Attr) → IsAttr Printed front attr → all_scalars front ≡ true → encode_utf8_all front ≡ attr.name ++ value_text attr.value
attr_printed front attr h u =
    let p = scalars-parts (h.first ∷ h.more) h.rest (ap all_scalars (sym h.chars_are) ∙ u) in
    ap encode_utf8_all h.chars_are ∙ encodes-append (h.first ∷ h.more) h.rest
    ∙ (λ i. sym h.name_is i ++ value_printed h.rest attr.value h.value_is p.1 i)

attrs_printed : (attrs : List Attr) (cs : List ℕ) → AreAttrs Printed cs attrs → all_scalars cs ≡ true → encode_utf8_all cs ≡ attrs_text attrs
unfolding lib.Utf8.encode
attrs_printed [] cs h u = ap encode_utf8_all h
attrs_printed (attr ∷ attrs) cs (gap, front, rest, e, ok, is, h) u =
    let f : cs ≡ 59 ∷ (front ++ rest) = e ∙ ap (λ (x : List ℕ). 59 ∷ (x ++ (front ++ rest))) (no_gap gap ok) in
    let p = scalars-parts front rest (scalars-parts (59 ∷ []) (front ++ rest) (ap all_scalars (sym f) ∙ u)).1 in
    ap encode_utf8_all f ∙ ap (λ (x : List ℕ). 59 ∷ x) (encodes-append front rest)
    ∙ (λ i. 59 ∷ (attr_printed front attr is p.0 i ++ attrs_printed attrs rest h p.1 i))

link_printed : (front : List ℕ) (link : LinkContent) → IsLink Printed front link → all_scalars front ≡ true → encode_utf8_all front ≡ link_text link
unfolding lib.Utf8.encode
link_printed front link h u =
    let p = scalars-parts (62 ∷ []) h.rest (scalars-parts h.front (62 ∷ h.rest) (scalars-parts (60 ∷ []) (h.front ++ 62 ∷ h.rest) (ap all_scalars (sym h.chars_are) ∙ u)).1).1 in
    ap encode_utf8_all h.chars_are ∙ ap (λ (x : List ℕ). 60 ∷ x) (encodes-append h.front (62 ∷ h.rest))
    ∙ (λ i. 60 ∷ (sym h.target_is i ++ 62 ∷ attrs_printed link.attrs h.rest h.attrs_are p.1 i))

more_printed : (links : List LinkContent) (cs : List ℕ) → AreMore Printed cs links → all_scalars cs ≡ true → encode_utf8_all cs ≡ more_text links
unfolding lib.Utf8.encode
more_printed [] cs h u = ap encode_utf8_all h
more_printed (link ∷ links) cs (gap, front, rest, e, ok, is, h) u =
    let f : cs ≡ 44 ∷ (front ++ rest) = e ∙ ap (λ (x : List ℕ). 44 ∷ (x ++ (front ++ rest))) (no_gap gap ok) in
    let p = scalars-parts front rest (scalars-parts (44 ∷ []) (front ++ rest) (ap all_scalars (sym f) ∙ u)).1 in
    ap encode_utf8_all f ∙ ap (λ (x : List ℕ). 44 ∷ x) (encodes-append front rest)
    ∙ (λ i. 44 ∷ (link_printed front link is p.0 i ++ more_printed links rest h p.1 i))

pub list_printed : (cs : List ℕ) (links : List LinkContent) → IsList Printed cs links → all_scalars cs ≡ true → encode_utf8_all cs ≡ printing links
list_printed cs [] h u = absurd h
list_printed cs (link ∷ links) (front, rest, e, is, h) u =
    let p = parts cs front rest e u in
    ap encode_utf8_all e ∙ encodes-append front rest ∙ (λ i. link_printed front link is p.0 i ++ more_printed links rest h p.1 i)

-- ---- what is spelled is well formed

text_of : (test : ℕ → Bool) (front text : List ℕ) → Each test front → all_scalars front ≡ true → text ≡ encode_utf8_all front → IsTextOf test text
text_of test front text h u e =
    ((front, (u, sym e)), subst (Each test) (sym (ap chars e ∙ chars-encodes front u)) h)

some_length : (c : ℕ) (cs text : List ℕ) → text ≡ encode_utf8_all (c ∷ cs) → 1 ≤ length text
some_length c cs text e =
    let le : length (c ∷ cs) ≤ length (encode_utf8_all (c ∷ cs)) = length-le-encodes (c ∷ cs) in
    omega (arith, le, ap length e)

items_shown : (front items : List ℕ) → AreItems Any front items → Each is_shown items
items_shown front [] h = tt
items_shown front (c ∷ items) (rest, inl (e, q), h) =
    ((and_parts (is_shown c) (not (c == 34)) (and_parts (is_shown c && not (c == 34)) (not (c == 92)) q).0).0, items_shown rest items h)
items_shown front (c ∷ items) (rest, inr (e, q), h) = (q, items_shown rest items h)

value_good : (front : List ℕ) (value : AttrValue) → IsValue Any front value → all_scalars front ≡ true → IsGoodValue value
value_good front Absent h u = tt
value_good front (Plain text) (first, more, e, ok, t) u =
    (text_of is_plain_char (first ∷ more) text ok (scalars-parts (61 ∷ []) (first ∷ more) (ap all_scalars (sym e) ∙ u)).1 t, some_length first more text t)
value_good front (Quoted text) (inner, items, e, h, t) u =
    let good : all_scalars inner ≡ true = (scalars-parts inner (34 ∷ []) (scalars-parts (61 ∷ 34 ∷ []) (inner ++ 34 ∷ []) (ap all_scalars (sym e) ∙ u)).1).0 in
    text_of is_shown items text (items_shown inner items h) (items_scalars Any inner items h good) t

attr_good : (front : List ℕ) (attr : Attr) → IsAttr Any front attr → all_scalars front ≡ true → IsGoodAttr attr
attr_good front attr h u =
    let p = scalars-parts (h.first ∷ h.more) h.rest (ap all_scalars (sym h.chars_are) ∙ u) in
    ((text_of is_name_char (h.first ∷ h.more) attr.name h.name_chars p.0 h.name_is, some_length h.first h.more attr.name h.name_is), value_good h.rest attr.value h.value_is p.1)

pub behind : (c : ℕ) (cs gap front rest : List ℕ) → cs ≡ c ∷ (gap ++ (front ++ rest)) → all_scalars cs ≡ true → (all_scalars front ≡ true) × (all_scalars rest ≡ true)
behind c cs gap front rest e u = scalars-parts front rest (scalars-parts gap (front ++ rest) (scalars-parts (c ∷ []) (gap ++ (front ++ rest)) (ap all_scalars (sym e) ∙ u)).1).1

attrs_good : (attrs : List Attr) (cs : List ℕ) → AreAttrs Any cs attrs → all_scalars cs ≡ true → AllByRecursion IsGoodAttr attrs
attrs_good [] cs h u = tt
attrs_good (attr ∷ attrs) cs (gap, front, rest, e, ok, is, h) u =
    let p = behind 59 cs gap front rest e u in
    (attr_good front attr is p.0, attrs_good attrs rest h p.1)

link_good : (front : List ℕ) (link : LinkContent) → IsLink Any front link → all_scalars front ≡ true → IsGoodLink link
link_good front link h u =
    let p = scalars-parts h.front (62 ∷ h.rest) (scalars-parts (60 ∷ []) (h.front ++ 62 ∷ h.rest) (ap all_scalars (sym h.chars_are) ∙ u)).1 in
    (text_of is_target_char h.front link.target h.target_chars p.0 h.target_is, attrs_good link.attrs h.rest h.attrs_are (scalars-parts (62 ∷ []) h.rest p.1).1)

more_good : (links : List LinkContent) (cs : List ℕ) → AreMore Any cs links → all_scalars cs ≡ true → AllByRecursion IsGoodLink links
more_good [] cs h u = tt
more_good (link ∷ links) cs (gap, front, rest, e, ok, is, h) u =
    let p = behind 44 cs gap front rest e u in
    (link_good front link is p.0, more_good links rest h p.1)

pub list_good : (cs : List ℕ) (links : List LinkContent) → IsList Any cs links → all_scalars cs ≡ true → (1 ≤ length links) × AllByRecursion IsGoodLink links
list_good cs [] h u = absurd h
list_good cs (link ∷ links) (front, rest, e, is, h) u =
    let p = parts cs front rest e u in
    (omega arith, (link_good front link is p.0, more_good links rest h p.1))
