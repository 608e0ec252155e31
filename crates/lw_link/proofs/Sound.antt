-- What characters are that hold a whole list.
use Rattle.std.proofs.Common.{◌≡◌, ℕ, true, false, ◌==◌, cond, List, [], ◌∷◌, ◌++◌, refl, ap, subst, sym, ◌∙◌, append_assoc, inl, inr, encode_utf8, encode_utf8_all}
use Rattle.std.proofs.lemmas.Bool.{eqb-true}
use Rattle.lw_link.specs.declared.style.Style.{Style}
use Rattle.lw_link.specs.declared.state.State.{State}
use Rattle.lw_link.specs.declared.state.State.TheVariants.{Start, Target, Closed, Comma, Semicolon, Name, Equals, Word, Quotation, Backslash, Stop}
use Rattle.lw_link.specs.declared.link.Attr.{Attr}
use Rattle.lw_link.specs.declared.link.AttrValue.TheVariants.{Plain, Quoted}
use Rattle.lw_link.specs.Link.{LinkContent}
use Rattle.lw_link.specs.Characters.{Each, is_target_char, is_name_char, is_plain_char, is_quoted_char, is_escaped_char, is_space}
use Rattle.lw_link.specs.Grammar.{AreItems, IsValue, IsAttr, AreAttrs, IsLink, AreMore, IsList}
use Rattle.lw_link.specs.inner.Machine.{Rest, read_on, next_state, separated, before, is_end, fresh, nothing, more_text, with_link, with_attr, with_value}

-- the characters end a list behind a target or an attribute
abbrev After : Style → List ℕ → List Attr → List LinkContent → Type 0
After k cs attrs links = (a : List ℕ) × (b : List ℕ) × (cs ≡ a ++ b) × AreAttrs k a attrs × AreMore k b links

-- what the characters behind a state are
abbrev pub Are : Style → State → List ℕ → Rest → Type 0
Are k Start cs r = IsList k cs r.links
Are k Target cs r = (front : List ℕ) × (rest : List ℕ) × (cs ≡ front ++ 62 ∷ rest) × Each is_target_char front × (r.text ≡ encode_utf8_all front) × After k rest r.attrs r.links
Are k Closed cs r = After k cs r.attrs r.links
Are k Comma cs r = (gap : List ℕ) × (front : List ℕ) × (rest : List ℕ) × (link : LinkContent) × (links : List LinkContent)
    × (cs ≡ gap ++ (front ++ rest)) × Each (is_space k) gap × IsLink k front link × AreMore k rest links × (r.links ≡ link ∷ links) × (r.attrs ≡ [])
Are k Semicolon cs r = (gap : List ℕ) × (front : List ℕ) × (rest : List ℕ) × (attr : Attr) × (attrs : List Attr)
    × (cs ≡ gap ++ (front ++ rest)) × Each (is_space k) gap × IsAttr k front attr × After k rest attrs r.links × (r.attrs ≡ attr ∷ attrs)
Are k Name cs r = (more : List ℕ) × (tail : List ℕ) × (rest : List ℕ)
    × (cs ≡ more ++ (tail ++ rest)) × Each is_name_char more × (r.text ≡ encode_utf8_all more) × IsValue k tail r.value × After k rest r.attrs r.links
Are k Equals cs r = (tail : List ℕ) × (rest : List ℕ) × (cs ≡ tail ++ rest) × IsValue k (61 ∷ tail) r.value × After k rest r.attrs r.links
Are k Word cs r = (front : List ℕ) × (rest : List ℕ) × (cs ≡ front ++ rest) × Each is_plain_char front × (r.text ≡ encode_utf8_all front) × After k rest r.attrs r.links
Are k Quotation cs r = (front : List ℕ) × (items : List ℕ) × (rest : List ℕ)
    × (cs ≡ front ++ 34 ∷ rest) × AreItems k front items × (r.text ≡ encode_utf8_all items) × After k rest r.attrs r.links
Are k Backslash cs r = (c : ℕ) × (front : List ℕ) × (items : List ℕ) × (rest : List ℕ)
    × (cs ≡ c ∷ (front ++ 34 ∷ rest)) × (is_escaped_char k c ≡ true) × AreItems k front items × (r.text ≡ encode_utf8 c ++ encode_utf8_all items) × After k rest r.attrs r.links
Are k Stop cs r = ⊥

both : (c d : ℕ) (x y : List ℕ) → c ≡ d → x ≡ y → c ∷ x ≡ d ∷ y
both c d x y e f = cc

is_char : (c d : ℕ) → (c == d) ≡ true → c ≡ d
is_char c d h = eqb-true c d h

regroup : (a b c d : List ℕ) → a ++ (b ++ (c ++ d)) ≡ (a ++ (b ++ c)) ++ d
regroup a b c d = simp append_assoc

attr_after : (k : Style) (c : ℕ) (cs : List ℕ) (r : Rest) → (c == 59) ≡ true → Are k Semicolon cs r → After k (c ∷ cs) r.attrs r.links
attr_after k c cs r t (gap, front, rest, attr, attrs, e, ok, is, (a, b, f, has, more), g) = (
  59 ∷ (gap ++ (front ++ a)),
  b,
  both c 59 cs ((gap ++ (front ++ a)) ++ b) (is_char c 59 t) (e ∙ ap (λ (x : List ℕ). gap ++ (front ++ x)) f ∙ regroup gap front a b),
  subst (λ (x : List Attr). AreAttrs k (59 ∷ (gap ++ (front ++ a))) x) (sym g) (gap, front, a, refl, ok, is, has),
  more,
)

link_after : (k : Style) (c : ℕ) (cs : List ℕ) (r : Rest) → (c == 44) ≡ true → Are k Comma cs r → After k (c ∷ cs) r.attrs r.links
link_after k c cs r t (gap, front, rest, link, links, e, ok, is, more, g, none) = (
  [],
  c ∷ cs,
  refl,
  subst (λ (x : List Attr). AreAttrs k [] x) (sym none) refl,
  subst (λ (x : List LinkContent). AreMore k (c ∷ cs) x) (sym g) (gap, front, rest, both c 44 cs (gap ++ (front ++ rest)) (is_char c 44 t) e, ok, is, more),
)

-- behind `;` or `,`
after_separator : (k : Style) (c : ℕ) (cs : List ℕ) (r : Rest) → Are k (separated c) cs r → After k (c ∷ cs) r.attrs r.links
after_separator k c cs r =
    elim (c == 59) as (λ t. (c == 59) ≡ t → Are k (cond t Semicolon (cond (c == 44) Comma Stop)) cs r → After k (c ∷ cs) r.attrs r.links) [
      | true ↦ λ t h. attr_after k c cs r t h
      | false ↦ λ t. elim (c == 44) as (λ u. (c == 44) ≡ u → Are k (cond u Comma Stop) cs r → After k (c ∷ cs) r.attrs r.links) [
        | true ↦ λ u h. link_after k c cs r u h
        | false ↦ λ u h. absurd h
      ] refl
    ] refl

-- a link whose `<` is the character
opened : (k : Style) (c : ℕ) (cs : List ℕ) (r : Rest) → (c == 60) ≡ true → Are k Target cs r
    → (front : List ℕ) × (rest : List ℕ) × (c ∷ cs ≡ front ++ rest) × IsLink k front (record { target = r.text; attrs = r.attrs }) × AreMore k rest r.links
opened k c cs r t (front, rest, e, ok, text, (a, b, f, has, more)) = (
  60 ∷ (front ++ 62 ∷ a),
  b,
  both c 60 cs ((front ++ 62 ∷ a) ++ b) (is_char c 60 t) (e ∙ ap (λ (x : List ℕ). front ++ 62 ∷ x) f ∙ sym (append_assoc front (62 ∷ a) b)),
  record { front = front; rest = a; chars_are = refl; target_chars = ok; target_is = text; attrs_are = has },
  more,
)

at_start : (k : Style) (c : ℕ) (cs : List ℕ) (r : Rest) → Are k (next_state k Start c) cs r → Are k Start (c ∷ cs) (before k Start c r)
at_start k c cs r =
    elim (c == 60) as (λ t. (c == 60) ≡ t → Are k (cond t Target Stop) cs r → Are k Start (c ∷ cs) (cond t (with_link r) (fresh r))) [
      | true ↦ λ t h. opened k c cs r t h
      | false ↦ λ t h. absurd h
    ] refl

more_target : (k : Style) (c : ℕ) (cs : List ℕ) (r : Rest) → is_target_char c ≡ true → Are k Target cs r → Are k Target (c ∷ cs) (more_text c r)
more_target k c cs r t (front, rest, e, ok, text, h) =
    (c ∷ front, rest, ap (λ (x : List ℕ). c ∷ x) e, (t, ok), ap (λ (x : List ℕ). encode_utf8 c ++ x) text, h)

at_target : (k : Style) (c : ℕ) (cs : List ℕ) (r : Rest) → Are k (next_state k Target c) cs r → Are k Target (c ∷ cs) (before k Target c r)
at_target k c cs r =
    elim (is_target_char c) as (λ t. is_target_char c ≡ t → Are k (cond t Target (cond (c == 62) Closed Stop)) cs r → Are k Target (c ∷ cs) (cond t (more_text c r) (fresh r))) [
      | true ↦ λ t h. more_target k c cs r t h
      | false ↦ λ t. elim (c == 62) as (λ u. (c == 62) ≡ u → Are k (cond u Closed Stop) cs r → Are k Target (c ∷ cs) (fresh r)) [
        | true ↦ λ u h. ([], cs, ap (λ (x : ℕ). x ∷ cs) (is_char c 62 u), tt, refl, h)
        | false ↦ λ u h. absurd h
      ] refl
    ] refl

comma_link : (k : Style) (c : ℕ) (cs : List ℕ) (r : Rest) → (c == 60) ≡ true → Are k Target cs r → Are k Comma (c ∷ cs) (with_link r)
comma_link k c cs r t h =
    let o = opened k c cs r t h in
    ([], o.0, o.1, record { target = r.text; attrs = r.attrs }, r.links, o.2, tt, o.3, o.4, refl, refl)

comma_space : (k : Style) (c : ℕ) (cs : List ℕ) (r : Rest) → is_space k c ≡ true → Are k Comma cs r → Are k Comma (c ∷ cs) r
comma_space k c cs r t (gap, front, rest, link, links, e, ok, is, more, g, none) =
    (c ∷ gap, front, rest, link, links, ap (λ (x : List ℕ). c ∷ x) e, (t, ok), is, more, g, none)

at_comma : (k : Style) (c : ℕ) (cs : List ℕ) (r : Rest) → Are k (next_state k Comma c) cs r → Are k Comma (c ∷ cs) (before k Comma c r)
at_comma k c cs r =
    elim (c == 60) as (λ t. (c == 60) ≡ t → Are k (cond t Target (cond (is_space k c) Comma Stop)) cs r → Are k Comma (c ∷ cs) (cond t (with_link r) r)) [
      | true ↦ λ t h. comma_link k c cs r t h
      | false ↦ λ t. elim (is_space k c) as (λ u. is_space k c ≡ u → Are k (cond u Comma Stop) cs r → Are k Comma (c ∷ cs) r) [
        | true ↦ λ u h. comma_space k c cs r u h
        | false ↦ λ u h. absurd h
      ] refl
    ] refl

semicolon_name : (k : Style) (c : ℕ) (cs : List ℕ) (r : Rest) → is_name_char c ≡ true → Are k Name cs r → Are k Semicolon (c ∷ cs) (with_attr c r)
semicolon_name k c cs r t (more, tail, rest, e, ok, text, value, h) = (
  [],
  c ∷ (more ++ tail),
  rest,
  record { name = encode_utf8 c ++ r.text; value = r.value },
  r.attrs,
  ap (λ (x : List ℕ). c ∷ x) (e ∙ sym (append_assoc more tail rest)),
  tt,
  record { first = c; more = more; rest = tail; chars_are = refl; name_chars = (t, ok); name_is = ap (λ (x : List ℕ). encode_utf8 c ++ x) text; value_is = value },
  h,
  refl,
)

semicolon_space : (k : Style) (c : ℕ) (cs : List ℕ) (r : Rest) → is_space k c ≡ true → Are k Semicolon cs r → Are k Semicolon (c ∷ cs) r
semicolon_space k c cs r t (gap, front, rest, attr, attrs, e, ok, is, h, g) =
    (c ∷ gap, front, rest, attr, attrs, ap (λ (x : List ℕ). c ∷ x) e, (t, ok), is, h, g)

at_semicolon : (k : Style) (c : ℕ) (cs : List ℕ) (r : Rest) → Are k (next_state k Semicolon c) cs r → Are k Semicolon (c ∷ cs) (before k Semicolon c r)
at_semicolon k c cs r =
    elim (is_name_char c) as (λ t. is_name_char c ≡ t → Are k (cond t Name (cond (is_space k c) Semicolon Stop)) cs r → Are k Semicolon (c ∷ cs) (cond t (with_attr c r) r)) [
      | true ↦ λ t h. semicolon_name k c cs r t h
      | false ↦ λ t. elim (is_space k c) as (λ u. is_space k c ≡ u → Are k (cond u Semicolon Stop) cs r → Are k Semicolon (c ∷ cs) r) [
        | true ↦ λ u h. semicolon_space k c cs r u h
        | false ↦ λ u h. absurd h
      ] refl
    ] refl

more_name : (k : Style) (c : ℕ) (cs : List ℕ) (r : Rest) → is_name_char c ≡ true → Are k Name cs r → Are k Name (c ∷ cs) (more_text c r)
more_name k c cs r t (more, tail, rest, e, ok, text, value, h) =
    (c ∷ more, tail, rest, ap (λ (x : List ℕ). c ∷ x) e, (t, ok), ap (λ (x : List ℕ). encode_utf8 c ++ x) text, value, h)

name_value : (k : Style) (c : ℕ) (cs : List ℕ) (r : Rest) → (c == 61) ≡ true → Are k Equals cs r → Are k Name (c ∷ cs) (with_value r.value r)
name_value k c cs r t (tail, rest, e, value, h) =
    ([], 61 ∷ tail, rest, both c 61 cs (tail ++ rest) (is_char c 61 t) e, tt, refl, value, h)

at_name : (k : Style) (c : ℕ) (cs : List ℕ) (r : Rest) → Are k (next_state k Name c) cs r → Are k Name (c ∷ cs) (before k Name c r)
at_name k c cs r =
    elim (is_name_char c) as (λ t. is_name_char c ≡ t → Are k (cond t Name (cond (c == 61) Equals (separated c))) cs r → Are k Name (c ∷ cs) (cond t (more_text c r) (cond (c == 61) (with_value r.value r) (fresh r)))) [
      | true ↦ λ t h. more_name k c cs r t h
      | false ↦ λ t. elim (c == 61) as (λ u. (c == 61) ≡ u → Are k (cond u Equals (separated c)) cs r → Are k Name (c ∷ cs) (cond u (with_value r.value r) (fresh r))) [
        | true ↦ λ u h. name_value k c cs r u h
        | false ↦ λ u h. ([], [], c ∷ cs, refl, tt, refl, refl, after_separator k c cs r h)
      ] refl
    ] refl

plain_value : (k : Style) (c : ℕ) (cs : List ℕ) (r : Rest) → is_plain_char c ≡ true → Are k Word cs r → Are k Equals (c ∷ cs) (with_value (Plain (encode_utf8 c ++ r.text)) r)
plain_value k c cs r t (front, rest, e, ok, text, h) =
    (c ∷ front, rest, ap (λ (x : List ℕ). c ∷ x) e, (c, front, refl, (t, ok), ap (λ (x : List ℕ). encode_utf8 c ++ x) text), h)

quoted_value : (k : Style) (c : ℕ) (cs : List ℕ) (r : Rest) → (c == 34) ≡ true → Are k Quotation cs r → Are k Equals (c ∷ cs) (with_value (Quoted r.text) r)
quoted_value k c cs r t (front, items, rest, e, ok, text, h) =
    (34 ∷ (front ++ 34 ∷ []), rest, both c 34 cs ((front ++ 34 ∷ []) ++ rest) (is_char c 34 t) (e ∙ sym (append_assoc front (34 ∷ []) rest)), (front, items, refl, ok, text), h)

at_equals : (k : Style) (c : ℕ) (cs : List ℕ) (r : Rest) → Are k (next_state k Equals c) cs r → Are k Equals (c ∷ cs) (before k Equals c r)
at_equals k c cs r =
    elim (is_plain_char c) as (λ t. is_plain_char c ≡ t → Are k (cond t Word (cond (c == 34) Quotation Stop)) cs r → Are k Equals (c ∷ cs) (cond t (with_value (Plain (encode_utf8 c ++ r.text)) r) (with_value (Quoted r.text) r))) [
      | true ↦ λ t h. plain_value k c cs r t h
      | false ↦ λ t. elim (c == 34) as (λ u. (c == 34) ≡ u → Are k (cond u Quotation Stop) cs r → Are k Equals (c ∷ cs) (with_value (Quoted r.text) r)) [
        | true ↦ λ u h. quoted_value k c cs r u h
        | false ↦ λ u h. absurd h
      ] refl
    ] refl

more_word : (k : Style) (c : ℕ) (cs : List ℕ) (r : Rest) → is_plain_char c ≡ true → Are k Word cs r → Are k Word (c ∷ cs) (more_text c r)
more_word k c cs r t (front, rest, e, ok, text, h) =
    (c ∷ front, rest, ap (λ (x : List ℕ). c ∷ x) e, (t, ok), ap (λ (x : List ℕ). encode_utf8 c ++ x) text, h)

at_word : (k : Style) (c : ℕ) (cs : List ℕ) (r : Rest) → Are k (next_state k Word c) cs r → Are k Word (c ∷ cs) (before k Word c r)
at_word k c cs r =
    elim (is_plain_char c) as (λ t. is_plain_char c ≡ t → Are k (cond t Word (separated c)) cs r → Are k Word (c ∷ cs) (cond t (more_text c r) (fresh r))) [
      | true ↦ λ t h. more_word k c cs r t h
      | false ↦ λ t h. ([], c ∷ cs, refl, tt, refl, after_separator k c cs r h)
    ] refl

more_quoted : (k : Style) (c : ℕ) (cs : List ℕ) (r : Rest) → is_quoted_char c ≡ true → Are k Quotation cs r → Are k Quotation (c ∷ cs) (more_text c r)
more_quoted k c cs r t (front, items, rest, e, ok, text, h) =
    (c ∷ front, c ∷ items, rest, ap (λ (x : List ℕ). c ∷ x) e, (front, inl (refl, t), ok), ap (λ (x : List ℕ). encode_utf8 c ++ x) text, h)

escape : (k : Style) (c : ℕ) (cs : List ℕ) (r : Rest) → (c == 92) ≡ true → Are k Backslash cs r → Are k Quotation (c ∷ cs) r
escape k c cs r t (d, front, items, rest, e, may, ok, text, h) =
    (92 ∷ d ∷ front, d ∷ items, rest, both c 92 cs (d ∷ (front ++ 34 ∷ rest)) (is_char c 92 t) e, (front, inr (refl, may), ok), text, h)

at_quotation : (k : Style) (c : ℕ) (cs : List ℕ) (r : Rest) → Are k (next_state k Quotation c) cs r → Are k Quotation (c ∷ cs) (before k Quotation c r)
at_quotation k c cs r =
    elim (is_quoted_char c) as (λ t. is_quoted_char c ≡ t → Are k (cond t Quotation (cond (c == 34) Closed (cond (c == 92) Backslash Stop))) cs r → Are k Quotation (c ∷ cs) (cond t (more_text c r) (cond (c == 34) (fresh r) r))) [
      | true ↦ λ t h. more_quoted k c cs r t h
      | false ↦ λ t. elim (c == 34) as (λ u. (c == 34) ≡ u → Are k (cond u Closed (cond (c == 92) Backslash Stop)) cs r → Are k Quotation (c ∷ cs) (cond u (fresh r) r)) [
        | true ↦ λ u h. ([], [], cs, ap (λ (x : ℕ). x ∷ cs) (is_char c 34 u), refl, refl, h)
        | false ↦ λ u. elim (c == 92) as (λ v. (c == 92) ≡ v → Are k (cond v Backslash Stop) cs r → Are k Quotation (c ∷ cs) r) [
          | true ↦ λ v h. escape k c cs r v h
          | false ↦ λ v h. absurd h
        ] refl
      ] refl
    ] refl

escaped_char : (k : Style) (c : ℕ) (cs : List ℕ) (r : Rest) → is_escaped_char k c ≡ true → Are k Quotation cs r → Are k Backslash (c ∷ cs) (more_text c r)
escaped_char k c cs r t (front, items, rest, e, ok, text, h) =
    (c, front, items, rest, ap (λ (x : List ℕ). c ∷ x) e, t, ok, ap (λ (x : List ℕ). encode_utf8 c ++ x) text, h)

at_backslash : (k : Style) (c : ℕ) (cs : List ℕ) (r : Rest) → Are k (next_state k Backslash c) cs r → Are k Backslash (c ∷ cs) (before k Backslash c r)
at_backslash k c cs r =
    elim (is_escaped_char k c) as (λ t. is_escaped_char k c ≡ t → Are k (cond t Quotation Stop) cs r → Are k Backslash (c ∷ cs) (more_text c r)) [
      | true ↦ λ t h. escaped_char k c cs r t h
      | false ↦ λ t h. absurd h
    ] refl

at_state : (k : Style) (s : State) (c : ℕ) (cs : List ℕ) (r : Rest) → Are k (next_state k s c) cs r → Are k s (c ∷ cs) (before k s c r)
at_state k Start c cs r h = at_start k c cs r h
at_state k Target c cs r h = at_target k c cs r h
at_state k Closed c cs r h = after_separator k c cs r h
at_state k Comma c cs r h = at_comma k c cs r h
at_state k Semicolon c cs r h = at_semicolon k c cs r h
at_state k Name c cs r h = at_name k c cs r h
at_state k Equals c cs r h = at_equals k c cs r h
at_state k Word c cs r h = at_word k c cs r h
at_state k Quotation c cs r h = at_quotation k c cs r h
at_state k Backslash c cs r h = at_backslash k c cs r h
at_state k Stop c cs r h = absurd h

at_end : (k : Style) (s : State) → is_end s ≡ true → Are k s [] (nothing (is_end s))
at_end k Closed h = ([], [], refl, refl, refl)
at_end k Name h = ([], [], [], refl, tt, refl, refl, ([], [], refl, refl, refl))
at_end k Word h = ([], [], refl, tt, refl, ([], [], refl, refl, refl))
at_end k Start h = absurd cc
at_end k Target h = absurd cc
at_end k Comma h = absurd cc
at_end k Semicolon h = absurd cc
at_end k Equals h = absurd cc
at_end k Quotation h = absurd cc
at_end k Backslash h = absurd cc
at_end k Stop h = absurd cc

-- reading on changes nothing about the end
pub same_end : (k : Style) (s : State) (c : ℕ) (r : Rest) → (before k s c r).whole ≡ r.whole
same_end k Start c r = elim (c == 60) as (λ t. (cond t (with_link r) (fresh r)).whole ≡ r.whole) [ true ↦ refl | false ↦ refl ]
same_end k Target c r = elim (is_target_char c) as (λ t. (cond t (more_text c r) (fresh r)).whole ≡ r.whole) [ true ↦ refl | false ↦ refl ]
same_end k Closed c r = refl
same_end k Comma c r = elim (c == 60) as (λ t. (cond t (with_link r) r).whole ≡ r.whole) [ true ↦ refl | false ↦ refl ]
same_end k Semicolon c r = elim (is_name_char c) as (λ t. (cond t (with_attr c r) r).whole ≡ r.whole) [ true ↦ refl | false ↦ refl ]
same_end k Name c r =
    elim (is_name_char c) as (λ t. (cond t (more_text c r) (cond (c == 61) (with_value r.value r) (fresh r))).whole ≡ r.whole) [
      | true ↦ refl
      | false ↦ elim (c == 61) as (λ t. (cond t (with_value r.value r) (fresh r)).whole ≡ r.whole) [ true ↦ refl | false ↦ refl ]
    ]
same_end k Equals c r = elim (is_plain_char c) as (λ t. (cond t (with_value (Plain (encode_utf8 c ++ r.text)) r) (with_value (Quoted r.text) r)).whole ≡ r.whole) [ true ↦ refl | false ↦ refl ]
same_end k Word c r = elim (is_plain_char c) as (λ t. (cond t (more_text c r) (fresh r)).whole ≡ r.whole) [ true ↦ refl | false ↦ refl ]
same_end k Quotation c r =
    elim (is_quoted_char c) as (λ t. (cond t (more_text c r) (cond (c == 34) (fresh r) r)).whole ≡ r.whole) [
      | true ↦ refl
      | false ↦ elim (c == 34) as (λ t. (cond t (fresh r) r).whole ≡ r.whole) [ true ↦ refl | false ↦ refl ]
    ]
same_end k Backslash c r = refl
same_end k Stop c r = refl

-- characters that hold a whole list are what they hold
pub whole_are : (k : Style) (cs : List ℕ) (s : State) → (read_on k s cs).whole ≡ true → Are k s cs (read_on k s cs)
whole_are k [] s h = at_end k s h
whole_are k (c ∷ cs) s h =
    let rest = read_on k (next_state k s c) cs in
    at_state k s c cs rest (whole_are k cs (next_state k s c) (sym (same_end k s c rest) ∙ h))
