-- What values, attributes and links take of the characters that are left.
use Rattle.std.proofs.Common.{◌≡◌, ◌≢◌, ℕ, true, false, ◌==◌, List, [], ◌∷◌, ◌++◌, refl, ap, subst, sym, ◌∙◌, append_assoc, inl, inr, Option, Some, None, MatchOption}
use Rattle.std.proofs.lemmas.List.{append-nil}
use Rattle.std.proofs.lemmas.Bool.{eqb-true, ne_eqb, false≢true, cases_Bool, false_from_ne_true}
use Rattle.lw_link.specs.declared.style.Style.TheVariants.{Any}
use Rattle.lw_link.specs.declared.state.State.{State}
use Rattle.lw_link.specs.declared.state.State.TheVariants.{Start, Target, Closed, Comma, Semicolon, Name, Equals, Word}
use Rattle.lw_link.specs.declared.link.Attr.{Attr}
use Rattle.lw_link.specs.declared.link.AttrValue.{AttrValue}
use Rattle.lw_link.specs.declared.link.AttrValue.TheVariants.{Absent, Plain}
use Rattle.lw_link.specs.Link.{LinkContent}
use Rattle.lw_link.specs.Characters.{is_target_char, is_name_char, is_plain_char}
use Rattle.lw_link.specs.inner.Machine.{Rest, read_on, next_state, with_link, with_value}
use Rattle.lw_link.specs.inner.Taking.{IsLeft, IsPastAttrs, IsPastSpaces, with_text, ended_text, with_whole_attr, TakesText, TakesValue, TakesAttr, TakesAttrs, TakesLink}
use Rattle.lw_link.proofs.Sound.{Are, whole_are}
use Rattle.lw_link.proofs.Walk.{goes_on}

-- ---- behind a plain value

not_word : (c : ℕ) → next_state Any Word c ≢ Word → is_plain_char c ≡ false
not_word c h = false_from_ne_true (is_plain_char c) (λ t. h (rw t refl))

word_left : (cs : List ℕ) → IsLeft Word cs → read_on Any Word cs ≡ read_on Any Closed cs
word_left [] h = refl
word_left (c ∷ cs) h = rw (not_word c h) refl

-- a text with nothing behind it
text_closed : (text cs : List ℕ) → with_text text (read_on Any Closed cs) ≡ ended_text text (read_on Any Closed cs)
text_closed text [] = ap (λ (x : List ℕ). ended_text x (read_on Any Closed [])) (append-nil text)
text_closed text (c ∷ cs) = ap (λ (x : List ℕ). ended_text x (read_on Any Closed (c ∷ cs))) (append-nil text)

taken_value : (value : AttrValue) (old new : List ℕ) → read_on Any Name old ≡ with_value value (read_on Any Closed new) → TakesValue value old new
taken_value value old new h = record {
  text = ap (λ (r : Rest). r.text) h;
  value_is = ap (λ (r : Rest). r.value) h;
  whole = ap (λ (r : Rest). r.whole) h;
  attrs = ap (λ (r : Rest). r.attrs) h;
  links = ap (λ (r : Rest). r.links) h;
}

plain_read : (mid : List ℕ) → (read_on Any Equals mid).whole ≡ true → ((rest : List ℕ) → mid ≡ 34 ∷ rest → ⊥) → read_on Any Equals mid ≡ with_value (Plain (read_on Any Word mid).text) (read_on Any Word mid)
plain_read [] h other = absurd (false≢true h)
plain_read (c ∷ cs) h other =
    let none : (c == 34) ≡ false = ne_eqb c 34 (λ e. other cs (ap (λ (x : ℕ). x ∷ cs) e)) in
    elim (cases_Bool (is_plain_char c)) [
      | inl t ↦ rw t refl
      | inr t ↦ absurd (goes_on Equals c cs h (rw (t, none) refl))
    ]

pub value_plain : (old mid new text : List ℕ) → old ≡ 61 ∷ mid → (read_on Any Name old).whole ≡ true → ((rest : List ℕ) → mid ≡ 34 ∷ rest → ⊥) → TakesText Word text mid new → TakesValue (Plain text) old new
value_plain old mid new text e whole other h =
    let seen : (read_on Any Equals mid).whole ≡ true = ap (λ (x : List ℕ). (read_on Any Name x).whole) (sym e) ∙ whole in
    let word : read_on Any Word mid ≡ ended_text text (read_on Any Closed new) =
    h.same ∙ ap (with_text text) (word_left new h.left) ∙ text_closed text new in
    taken_value (Plain text) old new
    (ap (read_on Any Name) e ∙ ap (λ (r : Rest). with_value r.value r) (plain_read mid seen other) ∙ ap (λ (r : Rest). with_value (Plain r.text) r) word)

-- ---- an attribute

name_read : (cs : List ℕ) → (read_on Any Semicolon cs).whole ≡ true → IsPastSpaces cs
    → read_on Any Semicolon cs ≡ with_whole_attr (record { name = (read_on Any Name cs).text; value = (read_on Any Name cs).value }) (read_on Any Name cs)
name_read [] h past = absurd (false≢true h)
name_read (c ∷ cs) h past =
    elim (cases_Bool (is_name_char c)) [
      | inl t ↦ rw t refl
      | inr t ↦ absurd (goes_on Semicolon c cs h (rw (t, ne_eqb c 32 past) refl))
    ]

pub attr_whole : (old mid rest name : List ℕ) → read_on Any Semicolon old ≡ read_on Any Semicolon mid → (read_on Any Semicolon old).whole ≡ true → IsPastSpaces mid → TakesText Name name mid rest → (read_on Any Name rest).whole ≡ true
attr_whole old mid rest name e h past t =
    let here : (read_on Any Semicolon mid).whole ≡ true = ap (λ (r : Rest). r.whole) (sym e) ∙ h in
    ap (λ (r : Rest). r.whole) (sym t.same) ∙ ap (λ (r : Rest). r.whole) (sym (name_read mid here past)) ∙ here

pub attr_taken : (old mid rest new name : List ℕ) (value : AttrValue) → read_on Any Semicolon old ≡ read_on Any Semicolon mid → (read_on Any Semicolon old).whole ≡ true → IsPastSpaces mid
    → TakesText Name name mid rest → TakesValue value rest new → TakesAttr (record { name = name; value = value }) old new
attr_taken old mid rest new name value e h past t v =
    let here : (read_on Any Semicolon mid).whole ≡ true = ap (λ (r : Rest). r.whole) (sym e) ∙ h in
    let named : (read_on Any Name mid).text ≡ name = ap (λ (r : Rest). r.text) t.same ∙ ap (λ (x : List ℕ). name ++ x) v.text ∙ append-nil name in
    let valued : (read_on Any Name mid).value ≡ value = ap (λ (r : Rest). r.value) t.same ∙ v.value_is in
    let attrs : (read_on Any Name mid).attrs ≡ (read_on Any Closed new).attrs = ap (λ (r : Rest). r.attrs) t.same ∙ v.attrs in
    let links : (read_on Any Name mid).links ≡ (read_on Any Closed new).links = ap (λ (r : Rest). r.links) t.same ∙ v.links in
    let whole : (read_on Any Name mid).whole ≡ (read_on Any Closed new).whole = ap (λ (r : Rest). r.whole) t.same ∙ v.whole in
    e ∙ name_read mid here past ∙ (λ i. record { whole = whole i; text = []; value = Absent; attrs = (record { name = named i; value = valued i }) ∷ attrs i; links = links i })

-- ---- attributes

-- the attributes so far, before those that are left
pub record IsTakingAttrs (first attrs_left : List ℕ) (attrs : List Attr) : Type 0 where
  pub attrs_are : (read_on Any Closed first).attrs ≡ attrs ++ (read_on Any Closed attrs_left).attrs
  pub links : (read_on Any Closed first).links ≡ (read_on Any Closed attrs_left).links
  pub whole : (read_on Any Closed attrs_left).whole ≡ true

comma_attrs : (cs : List ℕ) (r : Rest) → Are Any Comma cs r → r.attrs ≡ []
comma_attrs cs r (gap, front, rest, link, links, e, ok, is, more, g, none) = none

no_attrs : (cs : List ℕ) → (read_on Any Closed cs).whole ≡ true → IsPastAttrs cs → (read_on Any Closed cs).attrs ≡ []
no_attrs [] h past = refl
no_attrs (c ∷ cs) h past =
    let other : (c == 59) ≡ false = ne_eqb c 59 past in
    elim (cases_Bool (c == 44)) [
      | inl t ↦
          let next : next_state Any Closed c ≡ Comma = rw (other, t) refl in
          ap (λ (s : State). (read_on Any s cs).attrs) next
          ∙ comma_attrs cs (read_on Any Comma cs) (whole_are Any cs Comma (ap (λ (s : State). (read_on Any s cs).whole) (sym next) ∙ h))
      | inr t ↦ absurd (goes_on Closed c cs h (rw (other, t) refl))
    ]

pub past_attrs : (cs : List ℕ) → ((rest : List ℕ) → cs ≡ 59 ∷ rest → ⊥) → IsPastAttrs cs
past_attrs [] h = tt
past_attrs (c ∷ cs) h = λ e. h cs (ap (λ (x : ℕ). x ∷ cs) e)

pub attrs_end : (first old : List ℕ) (attrs : List Attr) → ((rest : List ℕ) → old ≡ 59 ∷ rest → ⊥) → IsTakingAttrs first old attrs → TakesAttrs attrs first old
attrs_end first old attrs none h =
    let past = past_attrs old none in
    record {
      attrs_are = h.attrs_are ∙ ap (λ (x : List Attr). attrs ++ x) (no_attrs old h.whole past) ∙ append-nil attrs;
      links = h.links;
      whole = h.whole;
      past = past;
    }

-- ---- a link

opens : (c : ℕ) (cs : List ℕ) → (read_on Any Comma (c ∷ cs)).whole ≡ true → c ≢ 32 → c ≡ 60
opens c cs h space =
    elim (cases_Bool (c == 60)) [
      | inl t ↦ eqb-true c 60 t
      | inr t ↦ absurd (goes_on Comma c cs h (rw (t, ne_eqb c 32 space) refl))
    ]

pub link_opened : (cs rest : List ℕ) (r : Option ℕ) → (read_on Any Comma cs).whole ≡ true → IsPastSpaces cs → MatchOption r ((cs ≡ []) × (rest ≡ [])) (λ c. cs ≡ c ∷ rest) → cs ≡ 60 ∷ rest
link_opened cs rest None h past e = absurd (false≢true (ap (λ (x : List ℕ). (read_on Any Comma x).whole) (sym e.0) ∙ h))
link_opened cs rest (Some c) h past e =
    e ∙ ap (λ (x : ℕ). x ∷ rest) (opens c rest (ap (λ (x : List ℕ). (read_on Any Comma x).whole) (sym e) ∙ h) (subst IsPastSpaces e past))

closes : (c : ℕ) (cs : List ℕ) → (read_on Any Target (c ∷ cs)).whole ≡ true → next_state Any Target c ≢ Target → c ≡ 62
closes c cs h left =
    let none : is_target_char c ≡ false = false_from_ne_true (is_target_char c) (λ t. left (rw t refl)) in
    elim (cases_Bool (c == 62)) [
      | inl t ↦ eqb-true c 62 t
      | inr t ↦ absurd (goes_on Target c cs h (rw (none, t) refl))
    ]

pub link_closed : (cs rest : List ℕ) (r : Option ℕ) → (read_on Any Target cs).whole ≡ true → IsLeft Target cs → MatchOption r ((cs ≡ []) × (rest ≡ [])) (λ c. cs ≡ c ∷ rest) → cs ≡ 62 ∷ rest
link_closed cs rest None h left e = absurd (false≢true (ap (λ (x : List ℕ). (read_on Any Target x).whole) (sym e.0) ∙ h))
link_closed cs rest (Some c) h left e =
    e ∙ ap (λ (x : ℕ). x ∷ rest) (closes c rest (ap (λ (x : List ℕ). (read_on Any Target x).whole) (sym e) ∙ h) (subst (IsLeft Target) e left))

-- the characters on the way through a link: behind the spaces, the `<`, the target and the `>`
pub record IsTakingLink (old target : List ℕ) (spaces inner end attrs : List ℕ) : Type 0 where
  pub same : read_on Any Comma old ≡ read_on Any Comma spaces
  pub opened : spaces ≡ 60 ∷ inner
  pub text : TakesText Target target inner end
  pub closed : end ≡ 62 ∷ attrs

inner_whole : (old spaces inner : List ℕ) → read_on Any Comma old ≡ read_on Any Comma spaces → spaces ≡ 60 ∷ inner → (read_on Any Comma old).whole ≡ true → (read_on Any Target inner).whole ≡ true
inner_whole old spaces inner e f h =
    ap (λ (x : List ℕ). (read_on Any Comma x).whole) (sym f) ∙ ap (λ (r : Rest). r.whole) (sym e) ∙ h

pub taking_link : (old target spaces inner end attrs : List ℕ) (first last : Option ℕ) → (read_on Any Comma old).whole ≡ true → read_on Any Comma old ≡ read_on Any Comma spaces → IsPastSpaces spaces
    → MatchOption first ((spaces ≡ []) × (inner ≡ [])) (λ c. spaces ≡ c ∷ inner) → TakesText Target target inner end → MatchOption last ((end ≡ []) × (attrs ≡ [])) (λ c. end ≡ c ∷ attrs)
    → IsTakingLink old target spaces inner end attrs
taking_link old target spaces inner end attrs first last h e past f t g =
    let open_is = link_opened spaces inner first (ap (λ (r : Rest). r.whole) (sym e) ∙ h) past f in
    let within = inner_whole old spaces inner e open_is h in
    record {
      same = e;
      opened = open_is;
      text = t;
      closed = link_closed end attrs last (ap (λ (r : Rest). r.whole) (sym t.same) ∙ within) t.left g;
    }

target_read : (old target spaces inner end attrs : List ℕ) → IsTakingLink old target spaces inner end attrs → read_on Any Target inner ≡ ended_text target (read_on Any Closed attrs)
target_read old target spaces inner end attrs h =
    h.text.same ∙ ap (λ (x : List ℕ). with_text target (read_on Any Target x)) h.closed ∙ ap (λ (x : List ℕ). ended_text x (read_on Any Closed attrs)) (append-nil target)

pub attrs_wait : (old target spaces inner end attrs : List ℕ) → (read_on Any Comma old).whole ≡ true → IsTakingLink old target spaces inner end attrs → (read_on Any Closed attrs).whole ≡ true
attrs_wait old target spaces inner end attrs h k =
    ap (λ (r : Rest). r.whole) (sym (target_read old target spaces inner end attrs k)) ∙ inner_whole old spaces inner k.same k.opened h

pub link_taken : (old target spaces inner end attrs new : List ℕ) (list : List Attr) → IsTakingLink old target spaces inner end attrs → TakesAttrs list attrs new → TakesLink (record { target = target; attrs = list }) old new
link_taken old target spaces inner end attrs new list h t =
    let here : read_on Any Comma old ≡ with_link (read_on Any Target inner) = h.same ∙ ap (read_on Any Comma) h.opened in
    let inside = target_read old target spaces inner end attrs h in
    let links_are : (read_on Any Comma old).links ≡ (record { target = target; attrs = (read_on Any Closed attrs).attrs }) ∷ (read_on Any Closed attrs).links =
    ap (λ (r : Rest). r.links) here ∙ ap (λ (r : Rest). (with_link r).links) inside in
    let tail = t.links in
    let held = t.attrs_are in
    record {
      links = links_are ∙ (λ i. (record { target = target; attrs = held i }) ∷ tail i);
      whole = t.whole;
      past = t.past;
    }

-- ---- a list

start_comma : (cs : List ℕ) → (read_on Any Start cs).whole ≡ true → read_on Any Start cs ≡ read_on Any Comma cs
start_comma [] h = refl
start_comma (c ∷ cs) h =
    elim (cases_Bool (c == 60)) [
      | inl t ↦ rw t refl
      | inr t ↦ absurd (goes_on Start c cs h (rw t refl))
    ]

pub first_waits : (cs : List ℕ) → (read_on Any Start cs).whole ≡ true → (read_on Any Comma cs).whole ≡ true
first_waits cs h = ap (λ (r : Rest). r.whole) (sym (start_comma cs h)) ∙ h

-- the links so far, before those that are left
pub record IsTakingLinks (first left : List ℕ) (links : List LinkContent) : Type 0 where
  pub links_are : (read_on Any Start first).links ≡ links ++ (read_on Any Closed left).links
  pub whole : (read_on Any Closed left).whole ≡ true
  pub past : IsPastAttrs left

pub links_start : (first new : List ℕ) (link : LinkContent) → (read_on Any Start first).whole ≡ true → TakesLink link first new → IsTakingLinks first new (link ∷ [])
links_start first new link h t = record {
  links_are = ap (λ (r : Rest). r.links) (start_comma first h) ∙ t.links;
  whole = t.whole;
  past = t.past;
}

separates : (c : ℕ) (cs : List ℕ) → (read_on Any Closed (c ∷ cs)).whole ≡ true → c ≢ 59 → c ≡ 44
separates c cs h past =
    elim (cases_Bool (c == 44)) [
      | inl t ↦ eqb-true c 44 t
      | inr t ↦ absurd (goes_on Closed c cs h (rw (ne_eqb c 59 past, t) refl))
    ]

comma_is : (first old mid : List ℕ) (links : List LinkContent) (c : ℕ) → old ≡ c ∷ mid → IsTakingLinks first old links → old ≡ 44 ∷ mid
comma_is first old mid links c e h =
    e ∙ ap (λ (x : ℕ). x ∷ mid) (separates c mid (ap (λ (x : List ℕ). (read_on Any Closed x).whole) (sym e) ∙ h.whole) (subst IsPastAttrs e h.past))

pub link_waits : (first old mid : List ℕ) (links : List LinkContent) (c : ℕ) → old ≡ c ∷ mid → IsTakingLinks first old links → (read_on Any Comma mid).whole ≡ true
link_waits first old mid links c e h = ap (λ (x : List ℕ). (read_on Any Closed x).whole) (sym (comma_is first old mid links c e h)) ∙ h.whole

pub links_more : (first old mid new : List ℕ) (links : List LinkContent) (link : LinkContent) (c : ℕ) → old ≡ c ∷ mid → TakesLink link mid new → IsTakingLinks first old links → IsTakingLinks first new (links ++ link ∷ [])
links_more first old mid new links link c e t h =
    let here : (read_on Any Closed old).links ≡ link ∷ (read_on Any Closed new).links = ap (λ (x : List ℕ). (read_on Any Closed x).links) (comma_is first old mid links c e h) ∙ t.links in
    record {
      links_are = h.links_are ∙ ap (λ (x : List LinkContent). links ++ x) here ∙ sym (append_assoc links (link ∷ []) (read_on Any Closed new).links);
      whole = t.whole;
      past = t.past;
    }
