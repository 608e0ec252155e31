-- A printing is never longer than another spelling.
use Rattle.std.proofs.Common.{◌≡◌, ℕ, ◌+◌, ◌≤◌, true, false, ◌||◌, ◌==◌, cond, List, [], ◌∷◌, ◌++◌, length, ap, subst, sym, ◌∙◌, inl, inr, arith, chars, encode_utf8, encode_utf8_all, length-append}
use Rattle.std.specs.Str.{all_scalars}
use Rattle.std.proofs.lemmas.Str.{encodes-append, chars-encodes, length-encode, len_utf8_bounds}
use Rattle.lw_link.specs.declared.style.Style.TheVariants.{Any}
use Rattle.lw_link.specs.declared.link.Attr.{Attr}
use Rattle.lw_link.specs.declared.link.AttrValue.{AttrValue}
use Rattle.lw_link.specs.declared.link.AttrValue.TheVariants.{Absent, Plain, Quoted}
use Rattle.lw_link.specs.Link.{LinkContent}
use Rattle.lw_link.specs.Grammar.{AreItems, IsValue, IsAttr, AreAttrs, IsLink, AreMore, IsList}
use Rattle.lw_link.specs.Printing.{escaped, escaped_all, value_text, attrs_text, link_text, more_text, printing}
use Rattle.lw_link.proofs.Places.{scalars-parts}
use Rattle.lw_link.proofs.Printed.{plain_escape, items_scalars, behind, parts}

-- the length in bytes
abbrev size : List ℕ → ℕ
size cs = length (encode_utf8_all cs)

size-append : (a b : List ℕ) → size (a ++ b) ≡ size a + size b
size-append a b = ap length (encodes-append a b) ∙ length-append (encode_utf8_all a) (encode_utf8_all b)

size-cons : (c : ℕ) (cs : List ℕ) → size (c ∷ cs) ≡ length (encode_utf8 c) + size cs
size-cons c cs = length-append (encode_utf8 c) (encode_utf8_all cs)

escape_size : (c : ℕ) → length (escaped c) ≤ 1 + length (encode_utf8 c)
escape_size c = elim (c == 34 || c == 92) as (λ t. length (cond t (92 ∷ encode_utf8 c) (encode_utf8 c)) ≤ 1 + length (encode_utf8 c)) [ true ↦ omega arith | false ↦ omega arith ]

items_size : (front items : List ℕ) → AreItems Any front items → length (escaped_all items) ≤ size front
unfolding lib.Utf8.encode
items_size front [] h = omega arith
items_size front (c ∷ items) (rest, inl (e, q), h) =
    let more : length (escaped_all items) ≤ size rest = items_size rest items h in
    let here : size front ≡ length (encode_utf8 c) + size rest = ap size e ∙ size-cons c rest in
    let same : length (escaped c) ≡ length (encode_utf8 c) = ap length (plain_escape c q) in
    omega (arith, more, here, same, length-append (escaped c) (escaped_all items))
items_size front (c ∷ items) (rest, inr (e, q), h) =
    let more : length (escaped_all items) ≤ size rest = items_size rest items h in
    let here : size front ≡ 1 + (length (encode_utf8 c) + size rest) = ap size e ∙ size-cons 92 (c ∷ rest) ∙ ap (λ (n : ℕ). 1 + n) (size-cons c rest) in
    omega (arith, more, here, escape_size c, length-append (escaped c) (escaped_all items))

value_size : (front : List ℕ) (value : AttrValue) → IsValue Any front value → all_scalars front ≡ true → length (value_text value) ≤ size front
unfolding lib.Utf8.encode
value_size front Absent h u = omega arith
value_size front (Plain text) (first, more, e, ok, t) u =
    let here : size front ≡ 1 + size (first ∷ more) = ap size e ∙ size-cons 61 (first ∷ more) in
    let same : length text ≡ size (first ∷ more) = ap length t in
    omega (arith, here, same)
value_size front (Quoted text) (inner, items, e, h, t) u =
    let good : all_scalars inner ≡ true = (scalars-parts inner (34 ∷ []) (scalars-parts (61 ∷ 34 ∷ []) (inner ++ 34 ∷ []) (ap all_scalars (sym e) ∙ u)).1).0 in
    let items_are : chars text ≡ items = ap chars t ∙ chars-encodes items (items_scalars Any inner items h good) in
    let less : length (escaped_all (chars text)) ≤ size inner = subst (λ (x : List ℕ). length (escaped_all x) ≤ size inner) (sym items_are) (items_size inner items h) in
    let here : size front ≡ 2 + (size inner + 1) = ap size e ∙ size-append (61 ∷ 34 ∷ []) (inner ++ 34 ∷ []) ∙ ap (λ (n : ℕ). 2 + n) (size-append inner (34 ∷ [])) in
    omega (arith, less, here, length-append (escaped_all (chars text)) (34 ∷ []))

attr_size : (front : List ℕ) (attr : Attr) → IsAttr Any front attr → all_scalars front ≡ true → length (attr.name ++ value_text attr.value) ≤ size front
attr_size front attr h u =
    let p = scalars-parts (h.first ∷ h.more) h.rest (ap all_scalars (sym h.chars_are) ∙ u) in
    let value : length (value_text attr.value) ≤ size h.rest = value_size h.rest attr.value h.value_is p.1 in
    let here : size front ≡ size (h.first ∷ h.more) + size h.rest = ap size h.chars_are ∙ size-append (h.first ∷ h.more) h.rest in
    let name : length attr.name ≡ size (h.first ∷ h.more) = ap length h.name_is in
    omega (arith, value, here, name, length-append attr.name (value_text attr.value))

one_byte : (c : ℕ) → 1 ≤ length (encode_utf8 c)
one_byte c = omega (arith, length-encode c, len_utf8_bounds c)

spaced : (c : ℕ) (cs gap front rest : List ℕ) → cs ≡ c ∷ (gap ++ (front ++ rest)) → 1 + (size front + size rest) ≤ size cs
spaced c cs gap front rest e =
    let here : size cs ≡ length (encode_utf8 c) + (size gap + (size front + size rest)) =
    ap size e ∙ size-cons c (gap ++ (front ++ rest)) ∙ ap (λ (n : ℕ). length (encode_utf8 c) + n) (size-append gap (front ++ rest) ∙ ap (λ (n : ℕ). size gap + n) (size-append front rest)) in
    omega (arith, here, one_byte c)

attrs_size : (attrs : List Attr) (cs : List ℕ) → AreAttrs Any cs attrs → all_scalars cs ≡ true → length (attrs_text attrs) ≤ size cs
attrs_size [] cs h u = omega arith
attrs_size (attr ∷ attrs) cs (gap, front, rest, e, ok, is, h) u =
    let p = behind 59 cs gap front rest e u in
    let first : length (attr.name ++ value_text attr.value) ≤ size front = attr_size front attr is p.0 in
    let others : length (attrs_text attrs) ≤ size rest = attrs_size attrs rest h p.1 in
    omega (arith, first, others, spaced 59 cs gap front rest e, length-append (attr.name ++ value_text attr.value) (attrs_text attrs))

link_size : (front : List ℕ) (link : LinkContent) → IsLink Any front link → all_scalars front ≡ true → length (link_text link) ≤ size front
unfolding lib.Utf8.encode
link_size front link h u =
    let p = scalars-parts h.front (62 ∷ h.rest) (scalars-parts (60 ∷ []) (h.front ++ 62 ∷ h.rest) (ap all_scalars (sym h.chars_are) ∙ u)).1 in
    let attrs : length (attrs_text link.attrs) ≤ size h.rest = attrs_size link.attrs h.rest h.attrs_are (scalars-parts (62 ∷ []) h.rest p.1).1 in
    let here : size front ≡ 1 + (size h.front + (1 + size h.rest)) =
    ap size h.chars_are ∙ size-cons 60 (h.front ++ 62 ∷ h.rest) ∙ ap (λ (n : ℕ). 1 + n) (size-append h.front (62 ∷ h.rest) ∙ ap (λ (n : ℕ). size h.front + n) (size-cons 62 h.rest)) in
    let name : length link.target ≡ size h.front = ap length h.target_is in
    omega (arith, attrs, here, name, length-append link.target (62 ∷ attrs_text link.attrs))

more_size : (links : List LinkContent) (cs : List ℕ) → AreMore Any cs links → all_scalars cs ≡ true → length (more_text links) ≤ size cs
more_size [] cs h u = omega arith
more_size (link ∷ links) cs (gap, front, rest, e, ok, is, h) u =
    let p = behind 44 cs gap front rest e u in
    let first : length (link_text link) ≤ size front = link_size front link is p.0 in
    let others : length (more_text links) ≤ size rest = more_size links rest h p.1 in
    omega (arith, first, others, spaced 44 cs gap front rest e, length-append (link_text link) (more_text links))

pub list_size : (cs : List ℕ) (links : List LinkContent) → IsList Any cs links → all_scalars cs ≡ true → length (printing links) ≤ length (encode_utf8_all cs)
list_size cs [] h u = absurd h
list_size cs (link ∷ links) (front, rest, e, is, h) u =
    let p = parts cs front rest e u in
    let first : length (link_text link) ≤ size front = link_size front link is p.0 in
    let others : length (more_text links) ≤ size rest = more_size links rest h p.1 in
    let here : size cs ≡ size front + size rest = ap size e ∙ size-append front rest in
    omega (arith, first, others, here, length-append (link_text link) (more_text links))
