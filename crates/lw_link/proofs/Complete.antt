-- What characters hold that spell links: the links, and a whole list.
use Rattle.std.proofs.Common.{◌≡◌, ℕ, true, false, ◌==◌, List, [], ◌∷◌, ◌++◌, refl, ap, sym, ◌∙◌, append_assoc, inl, inr, encode_utf8_all}
use Rattle.std.proofs.lemmas.Bool.{eqb-true}
use Rattle.std.proofs.lemmas.List.{append-nil}
use Rattle.lw_link.specs.declared.style.Style.{Style}
use Rattle.lw_link.specs.declared.style.Style.TheVariants.{Any, Printed}
use Rattle.lw_link.specs.declared.state.State.{State}
use Rattle.lw_link.specs.declared.state.State.TheVariants.{Start, Target, Closed, Comma, Semicolon, Name, Equals, Word, Quotation, Backslash, Stop}
use Rattle.lw_link.specs.declared.link.Attr.{Attr}
use Rattle.lw_link.specs.declared.link.AttrValue.{AttrValue}
use Rattle.lw_link.specs.declared.link.AttrValue.TheVariants.{Absent, Plain, Quoted}
use Rattle.lw_link.specs.Link.{LinkContent}
use Rattle.lw_link.specs.Characters.{Each, is_target_char, is_name_char, is_plain_char, is_space}
use Rattle.lw_link.specs.Grammar.{IsItem, AreItems, IsValue, IsAttr, AreAttrs, IsLink, AreMore, IsList}
use Rattle.lw_link.specs.inner.Machine.{Rest, read_on, is_end, separated, fresh, more_text}
use Rattle.lw_link.specs.inner.Taking.{with_text}

-- these attributes and links, and nothing begun
abbrev pub holding : List Attr → List LinkContent → Rest
holding attrs links = record { whole = true; text = []; value = Absent; attrs = attrs; links = links }

-- wherever a list may end, the characters hold these
abbrev pub Holds : Style → List ℕ → List Attr → List LinkContent → Type 0
Holds k x attrs links = (s : State) → is_end s ≡ true → read_on k s x ≡ holding attrs links

target_text : (k : Style) (front x : List ℕ) → Each is_target_char front → read_on k Target (front ++ x) ≡ with_text (encode_utf8_all front) (read_on k Target x)
target_text k [] x h = refl
target_text k (c ∷ cs) x h = rw (h.0, target_text k cs x h.1, append_assoc) refl

name_text : (k : Style) (front x : List ℕ) → Each is_name_char front → read_on k Name (front ++ x) ≡ with_text (encode_utf8_all front) (read_on k Name x)
name_text k [] x h = refl
name_text k (c ∷ cs) x h = rw (h.0, name_text k cs x h.1, append_assoc) refl

word_text : (k : Style) (front x : List ℕ) → Each is_plain_char front → read_on k Word (front ++ x) ≡ with_text (encode_utf8_all front) (read_on k Word x)
word_text k [] x h = refl
word_text k (c ∷ cs) x h = rw (h.0, word_text k cs x h.1, append_assoc) refl

item_text : (k : Style) (front rest x : List ℕ) (c : ℕ) → IsItem k front c rest → read_on k Quotation (front ++ x) ≡ more_text c (read_on k Quotation (rest ++ x))
item_text k front rest x c (inl (e, h)) = rw (e, h) refl
item_text k front rest x c (inr (e, h)) = rw (e, h) refl

items_text : (k : Style) (front items x : List ℕ) → AreItems k front items → read_on k Quotation (front ++ x) ≡ with_text (encode_utf8_all items) (read_on k Quotation x)
items_text k front [] x h = rw h refl
items_text k front (c ∷ items) x (rest, item, h) = rw (item_text k front rest x c item, items_text k rest items x h, append_assoc) refl

is_blank : (k : Style) (c : ℕ) → is_space k c ≡ true → c ≡ 32
is_blank Any c h = eqb-true c 32 h
is_blank Printed c h = absurd cc

comma_gap : (k : Style) (gap x : List ℕ) → Each (is_space k) gap → read_on k Comma (gap ++ x) ≡ read_on k Comma x
comma_gap k [] x h = refl
comma_gap k (c ∷ gap) x h =
    let other : (c == 60) ≡ false = ap (λ (n : ℕ). n == 60) (is_blank k c h.0) in
    rw (other, h.0) (comma_gap k gap x h.1)

semicolon_gap : (k : Style) (gap x : List ℕ) → Each (is_space k) gap → read_on k Semicolon (gap ++ x) ≡ read_on k Semicolon x
semicolon_gap k [] x h = refl
semicolon_gap k (c ∷ gap) x h =
    let other : is_name_char c ≡ false = ap is_name_char (is_blank k c h.0) in
    rw (other, h.0) (semicolon_gap k gap x h.1)

value_held : (k : Style) (tail x : List ℕ) (value : AttrValue) (attrs : List Attr) (links : List LinkContent) → IsValue k tail value → Holds k x attrs links
    → read_on k Name (tail ++ x) ≡ record { whole = true; text = []; value = value; attrs = attrs; links = links }
value_held k tail x Absent attrs links h f = rw h (f Name refl)
value_held k tail x (Plain text) attrs links (first, more, e, ok, t) f =
    rw (e, ok.0, word_text k more x ok.1, f Word refl, append-nil, t) refl
value_held k tail x (Quoted text) attrs links (front, items, e, ok, t) f =
    rw (e, append_assoc front (34 ∷ []) x, items_text k front items (34 ∷ x) ok, f Closed refl, append-nil, t) refl

attr_held : (k : Style) (front x : List ℕ) (attr : Attr) (attrs : List Attr) (links : List LinkContent) → IsAttr k front attr → Holds k x attrs links
    → read_on k Semicolon (front ++ x) ≡ holding (attr ∷ attrs) links
attr_held k front x attr attrs links h f =
    let here : read_on k Semicolon (front ++ x) ≡ holding ((record { name = encode_utf8_all (h.first ∷ h.more); value = attr.value }) ∷ attrs) links =
    rw (h.chars_are, h.name_chars.0, append_assoc h.more h.rest x, name_text k h.more (h.rest ++ x) h.name_chars.1, value_held k h.rest x attr.value attrs links h.value_is f, append-nil) refl in
    here ∙ ap (λ (n : List ℕ). holding ((record { name = n; value = attr.value }) ∷ attrs) links) (sym h.name_is)

-- behind what may end a list, a character that divides
divided : (k : Style) (s : State) (c : ℕ) (cs : List ℕ) → is_name_char c ≡ false → (c == 61) ≡ false → is_plain_char c ≡ false → is_end s ≡ true
    → read_on k s (c ∷ cs) ≡ fresh (read_on k (separated c) cs)
divided k Closed c cs name equals plain h = refl
divided k Name c cs name equals plain h = rw (name, equals) refl
divided k Word c cs name equals plain h = rw plain refl
divided k Start c cs name equals plain h = absurd cc
divided k Target c cs name equals plain h = absurd cc
divided k Comma c cs name equals plain h = absurd cc
divided k Semicolon c cs name equals plain h = absurd cc
divided k Equals c cs name equals plain h = absurd cc
divided k Quotation c cs name equals plain h = absurd cc
divided k Backslash c cs name equals plain h = absurd cc
divided k Stop c cs name equals plain h = absurd cc

three : (a b c d : List ℕ) → (a ++ (b ++ c)) ++ d ≡ a ++ (b ++ (c ++ d))
three a b c d = simp append_assoc

attrs_held : (k : Style) (attrs : List Attr) (a x : List ℕ) (links : List LinkContent) → AreAttrs k a attrs → Holds k x [] links → Holds k (a ++ x) attrs links
attrs_held k [] a x links h f s e = rw h (f s e)
attrs_held k (attr ∷ attrs) a x links (gap, front, rest, are, ok, is, h) f s e =
    ap (λ (y : List ℕ). read_on k s (y ++ x)) are
    ∙ divided k s 59 ((gap ++ (front ++ rest)) ++ x) refl refl refl e
    ∙ ap (λ (y : List ℕ). fresh (read_on k Semicolon y)) (three gap front rest x)
    ∙ ap fresh (semicolon_gap k gap (front ++ (rest ++ x)) ok)
    ∙ ap fresh (attr_held k front (rest ++ x) attr attrs links is (attrs_held k attrs rest x links h f))

link_held : (k : Style) (front x : List ℕ) (link : LinkContent) (links : List LinkContent) → IsLink k front link → Holds k x [] links
    → (read_on k Start (front ++ x) ≡ holding [] (link ∷ links)) × (read_on k Comma (front ++ x) ≡ holding [] (link ∷ links))
link_held k front x link links h f =
    let inner : read_on k Target ((h.front ++ 62 ∷ h.rest) ++ x) ≡ record { whole = true; text = encode_utf8_all h.front; value = Absent; attrs = link.attrs; links = links } =
    rw (append_assoc h.front (62 ∷ h.rest) x, target_text k h.front (62 ∷ (h.rest ++ x)) h.target_chars, attrs_held k link.attrs h.rest x links h.attrs_are f Closed refl, append-nil) refl in
    let named : holding [] ((record { target = encode_utf8_all h.front; attrs = link.attrs }) ∷ links) ≡ holding [] (link ∷ links) =
    ap (λ (n : List ℕ). holding [] ((record { target = n; attrs = link.attrs }) ∷ links)) (sym h.target_is) in
    (rw (h.chars_are, inner) named, rw (h.chars_are, inner) named)

links_held : (k : Style) (links : List LinkContent) (b : List ℕ) → AreMore k b links → Holds k b [] links
links_held k [] b h s e = rw (h, e) refl
links_held k (link ∷ links) b (gap, front, rest, are, ok, is, h) s e =
    ap (read_on k s) are
    ∙ divided k s 44 (gap ++ (front ++ rest)) refl refl refl e
    ∙ ap fresh (comma_gap k gap (front ++ rest) ok)
    ∙ ap fresh (link_held k front rest link links is (links_held k links rest h)).1

-- characters that are a list of links hold these links
pub list_held : (k : Style) (cs : List ℕ) (links : List LinkContent) → IsList k cs links → read_on k Start cs ≡ holding [] links
list_held k cs [] h = absurd h
list_held k cs (link ∷ links) (front, rest, are, is, h) =
    ap (read_on k Start) are ∙ (link_held k front rest link links is (links_held k links rest h)).0

pub one_list : (k : Style) (cs : List ℕ) (a b : List LinkContent) → IsList k cs a → IsList k cs b → a ≡ b
one_list k cs a b h i = sym (ap (λ (r : Rest). r.links) (list_held k cs a h)) ∙ ap (λ (r : Rest). r.links) (list_held k cs b i)
