-- Reading a list of links character by character: the states between characters, and what the characters
-- behind a state hold. The grammar does not speak of them.
use Rattle.std.specs.Prelude.{◌≡◌, ◌≢◌, ℕ, Bool, true, false, ◌⊎◌, ◌==◌, if◌then◌else◌, List, [], ◌∷◌, ◌++◌, length, encode_utf8, encode_utf8_all}
use Rattle.lw_link.specs.declared.style.Style.{Style}
use Rattle.lw_link.specs.declared.state.State.{State}
use Rattle.lw_link.specs.declared.state.State.TheVariants.{Start, Target, Closed, Comma, Semicolon, Name, Equals, Word, Quotation, Backslash, Stop}
use Rattle.lw_link.specs.declared.link.Attr.{Attr}
use Rattle.lw_link.specs.declared.link.AttrValue.{AttrValue}
use Rattle.lw_link.specs.declared.link.AttrValue.TheVariants.{Absent, Plain, Quoted}
use Rattle.lw_link.specs.Link.{LinkContent}
use Rattle.lw_link.specs.Characters.{is_target_char, is_name_char, is_plain_char, is_quoted_char, is_escaped_char, is_space}

-- the state behind what may end an attribute or a link
abbrev pub separated : ℕ → State
separated c = if c == 59 then Semicolon else (if c == 44 then Comma else Stop)

-- the state behind the next character
abbrev pub next_state : Style → State → ℕ → State
next_state style Start c = if c == 60 then Target else Stop
next_state style Target c = if is_target_char c then Target else (if c == 62 then Closed else Stop)
next_state style Closed c = separated c
next_state style Comma c = if c == 60 then Target else (if is_space style c then Comma else Stop)
next_state style Semicolon c = if is_name_char c then Name else (if is_space style c then Semicolon else Stop)
next_state style Name c = if is_name_char c then Name else (if c == 61 then Equals else separated c)
next_state style Equals c = if is_plain_char c then Word else (if c == 34 then Quotation else Stop)
next_state style Word c = if is_plain_char c then Word else separated c
next_state style Quotation c = if is_quoted_char c then Quotation else (if c == 34 then Closed else (if c == 92 then Backslash else Stop))
next_state style Backslash c = if is_escaped_char style c then Quotation else Stop
next_state style Stop c = Stop

-- a list may end here
abbrev pub is_end : State → Bool
is_end Closed = true
is_end Name = true
is_end Word = true
is_end Start = false
is_end Target = false
is_end Comma = false
is_end Semicolon = false
is_end Equals = false
is_end Quotation = false
is_end Backslash = false
is_end Stop = false

-- the character opens a link
abbrev pub opens_link : State → ℕ → Bool
opens_link Start c = c == 60
opens_link Comma c = c == 60
opens_link Target c = false
opens_link Closed c = false
opens_link Semicolon c = false
opens_link Name c = false
opens_link Equals c = false
opens_link Word c = false
opens_link Quotation c = false
opens_link Backslash c = false
opens_link Stop c = false

-- What the characters behind a state hold: whether they end a list there, what is left of the text that
-- has begun, the value behind a name, the attributes of the link that has begun, the links that begin.
pub record Rest : Type 0 where
  pub whole : Bool
  pub text : List ℕ
  pub value : AttrValue
  pub attrs : List Attr
  pub links : List LinkContent

abbrev pub nothing : Bool → Rest
nothing whole = record { whole = whole; text = []; value = Absent; attrs = []; links = [] }

-- no text or value has begun
abbrev pub fresh : Rest → Rest
fresh r = record { whole = r.whole; text = []; value = Absent; attrs = r.attrs; links = r.links }

-- a character more of the text
abbrev pub more_text : ℕ → Rest → Rest
more_text c r = record { whole = r.whole; text = encode_utf8 c ++ r.text; value = r.value; attrs = r.attrs; links = r.links }

-- the text is a target's
abbrev pub with_link : Rest → Rest
with_link r = record { whole = r.whole; text = []; value = Absent; attrs = []; links = (record { target = r.text; attrs = r.attrs }) ∷ r.links }

-- the text is a name's, from this character on
abbrev pub with_attr : ℕ → Rest → Rest
with_attr c r = record { whole = r.whole; text = []; value = Absent; attrs = (record { name = encode_utf8 c ++ r.text; value = r.value }) ∷ r.attrs; links = r.links }

abbrev pub with_value : AttrValue → Rest → Rest
with_value value r = record { whole = r.whole; text = []; value = value; attrs = r.attrs; links = r.links }

-- the same, seen from before the character
abbrev pub before : Style → State → ℕ → Rest → Rest
before style Start c r = if c == 60 then with_link r else fresh r
before style Target c r = if is_target_char c then more_text c r else fresh r
before style Closed c r = fresh r
before style Comma c r = if c == 60 then with_link r else r
before style Semicolon c r = if is_name_char c then with_attr c r else r
before style Name c r = if is_name_char c then more_text c r else (if c == 61 then with_value r.value r else fresh r)
before style Equals c r = if is_plain_char c then with_value (Plain (encode_utf8 c ++ r.text)) r else with_value (Quoted r.text) r
before style Word c r = if is_plain_char c then more_text c r else fresh r
before style Quotation c r = if is_quoted_char c then more_text c r else (if c == 34 then fresh r else r)
before style Backslash c r = more_text c r
before style Stop c r = r

-- what the characters behind a state hold
abbrev pub read_on : Style → State → List ℕ → Rest
read_on style state [] = nothing (is_end state)
read_on style state (c ∷ cs) = before style state c (read_on style (next_state style state c) cs)

-- the state behind characters
abbrev pub run : Style → State → List ℕ → State
run style state [] = state
run style state (c ∷ cs) = run style (next_state style state c) cs

-- The run leaves the grammar behind these characters: the next one stops it, or there is none and no list
-- ends here. The place is their length in bytes.
pub record Leaves (style : Style) (chars : List ℕ) (place : ℕ) : Type 0 where
  pub front : List ℕ
  pub rest : List ℕ
  pub chars_are : chars ≡ front ++ rest
  pub place_is : place ≡ length (encode_utf8_all front)
  pub alive : run style Start front ≢ Stop
  pub cause : ((rest ≡ []) × (is_end (run style Start front) ≡ false)) ⊎ ((c : ℕ) × (more : List ℕ) × (rest ≡ c ∷ more) × (next_state style (run style Start front) c ≡ Stop))
