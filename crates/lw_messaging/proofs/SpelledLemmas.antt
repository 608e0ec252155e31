-- Each body that is kept, and each that is whole, is spelled by blocks that came.
use Rattle.std.proofs.Common.{◌≡◌, ℕ, Bool, true, false, cond, ◌&&◌, eqb, inl, inr, ◌⊎◌, List, [], ◌∷◌, ◌++◌, length}
use Rattle.std.proofs.Common.{refl, sym, ap, subst, ◌∙◌}
use Rattle.std.specs.Prelude.{filter, find, nat_lt, Option, Some, None, option_map}
use Rattle.std.proofs.lemmas.Bool.{eqb-true}
use Rattle.lw_coap.specs.Message.{OptionContent, MessageContent}
use Rattle.lw_coap.specs.Fits.{printed_length}
use Rattle.lw_reg.specs.declared.addr.Addr.{Addr}
use Rattle.lw_messaging.specs.Blocks.{block_number, block_offset, has_more, is_block_of, body_options}
use Rattle.lw_messaging.specs.BlockAnswers.{block_of, without_block, bad_request, continue_with, too_large}
use Rattle.lw_messaging.specs.Kept.{BodyContent, is_live, is_of, is_other, others, weight_of, has_room, without_oldest}
use Rattle.lw_messaging.specs.Kept.{with_body}
use Rattle.lw_messaging.specs.Bodies.{Outcome, Refuses, Continues, Makes, Passes, begun, continues, payload_of, body_of}
use Rattle.lw_messaging.specs.Bodies.{whole_of, with_whole, behind, of_block, outcome_of, outcome, after}
use Rattle.lw_messaging.specs.Spelled.{Came, kept_after, IsBlockAt, Begins, Follows, Spell, AreAmong, IsSpelled}
use Rattle.lw_messaging.specs.Spelled.{AreSpelled}

-- ---- more that came
later_among : (blocks all : List Came) (came : Came) → AreAmong blocks all → AreAmong blocks (came ∷ all)
later_among [] all came h = tt
later_among (block ∷ blocks) all came h = inr h

later : (all : List Came) (came : Came) (bodies : List BodyContent) → AreSpelled all bodies
    → AreSpelled (came ∷ all) bodies
later all came [] h = tt
later all came (body ∷ bodies) h =
    ((h.0.0, later_among h.0.0 all came h.0.1, h.0.2), later all came bodies h.1)

-- ---- fewer bodies
fewer : (all : List Came) (test : BodyContent → Bool) (bodies : List BodyContent) → AreSpelled all bodies
    → AreSpelled all (filter test bodies)
fewer all test [] h = tt
fewer all test (body ∷ bodies) h =
    elim (test body) as (λ b. AreSpelled all (cond b (body ∷ filter test bodies) (filter test bodies))) [
      | true ↦ (h.0, fewer all test bodies h.1)
      | false ↦ fewer all test bodies h.1
    ]

newest : (all : List Came) (weight : ℕ) (bodies : List BodyContent) → AreSpelled all bodies
    → AreSpelled all (without_oldest weight bodies)
newest all weight [] h = tt
newest all weight (body ∷ bodies) h =
    elim (has_room weight (body ∷ bodies)) as (λ b. AreSpelled all
    (cond b (body ∷ bodies) (without_oldest weight bodies))) [
      | true ↦ h
      | false ↦ newest all weight bodies h.1
    ]

behind_last : (all : List Came) (bodies : List BodyContent) (body : BodyContent) → AreSpelled all bodies
    → IsSpelled true all body
    → AreSpelled all (bodies ++ body ∷ [])
behind_last all [] body h last = (last, tt)
behind_last all (first ∷ bodies) body h last = (h.0, behind_last all bodies body h.1 last)

-- ---- the body that is found
record Found (all : List Came) (test : BodyContent → Bool) (before : List ℕ) : Type 0 where
  body : BodyContent
  payload : body.payload ≡ before
  tested : test body ≡ true
  spelled : IsSpelled true all body

found_by : (b : Bool) (all : List Came) (test : BodyContent → Bool) (body : BodyContent) (found : Option BodyContent)
    (before : List ℕ)
    → test body ≡ b → IsSpelled true all body → (option_map payload_of found ≡ Some before → Found all test before)
    → option_map payload_of (cond b (Some body) found) ≡ Some before → Found all test before
found_by true all test body found before e spelled rest h = record
    { body = body; payload = cc; tested = e; spelled = spelled }
found_by false all test body found before e spelled rest h = rest h

found_in : (all : List Came) (test : BodyContent → Bool) (bodies : List BodyContent) (before : List ℕ)
    → AreSpelled all bodies
    → option_map payload_of (find test bodies) ≡ Some before → Found all test before
found_in all test [] before h e = absurd (cc)
found_in all test (body ∷ bodies) before h e =
    found_by (test body) all test body (find test bodies) before refl h.0 (found_in all test bodies before h.1) e

-- ---- a block that is put behind what came before it
and_first : (a b : Bool) → (a && b) ≡ true → a ≡ true
and_first true b h = refl
and_first false b h = absurd (cc)

and_second : (a b : Bool) → (a && b) ≡ true → b ≡ true
and_second true b h = h
and_second false b h = absurd (cc)

abbrev pub put : (value : ℕ) (came : Came) (before : List ℕ) → BodyContent
put value came before = body_of came.now came.from (whole_of (without_block came.message) before)

block_at : (value : ℕ) (came : Came) (before : List ℕ) → block_of came.message ≡ Some value
    → is_block_of value came.message.payload ≡ true → IsBlockAt value (has_more value) came (put value came before)
block_at value came before has sized = record {
  block = has;
  followed = refl;
  sized = sized;
  from = refl;
  last = refl;
  options = refl;
}

begins : (all : List Came) (value : ℕ) (came : Came) (before : List ℕ) → block_of came.message ≡ Some value
    → is_block_of value came.message.payload ≡ true → block_number value ≡ 0 → before ≡ []
    → IsSpelled (has_more value) (came ∷ all) (put value came before)
begins all value came before has sized number none =
    let payload : before ++ came.message.payload ≡ came.message.payload =
    ap (λ (xs : List ℕ). xs ++ came.message.payload) none in (
      came ∷ [],
      inl (refl, tt),
      inl (
        record {
          value = value;
          is = block_at value came before has sized;
          number =
              number;
          payload = payload;
        },
        refl,
      ),
    )

follows : (all : List Came) (value : ℕ) (came : Came) (before : List ℕ) → block_of came.message ≡ Some value
    → is_block_of value came.message.payload ≡ true
    → Found all (continues came.now came.from (body_options came.message.options) (block_offset value)) before
    → IsSpelled (has_more value) (came ∷ all) (put value came before)
follows all value came before has sized found =
    let live = is_live came.now found.body in
    let of_it = is_of came.from (body_options came.message.options) found.body in
    let ends = eqb (length found.body.payload) (block_offset value) in
    let both : (live && of_it) ≡ true = and_first (live && of_it) ends found.tested in
    let payload : before ++ came.message.payload ≡ found.body.payload ++ came.message.payload =
    ap (λ (xs : List ℕ). xs ++ came.message.payload) (sym found.payload) in
    let step : Follows found.body (has_more value) came (put value came before) = record {
      value = value;
      is = block_at value came before has sized;
      source = and_second live of_it both;
      live = and_first live of_it both;
      offset = eqb-true (length found.body.payload) (block_offset value) (and_second (live && of_it) ends found.tested);
      payload = payload;
    } in
    (came ∷ found.spelled.0, inl (refl, found.spelled.1), inr (found.body, found.spelled.2, step))

some_is : (xs ys : List ℕ) → Some xs ≡ Some ys → ys ≡ xs
some_is xs ys h = cc

by_number : (b : Bool) (all : List Came) (bodies : List BodyContent) (value : ℕ) (came : Came) (before : List ℕ)
    → AreSpelled all bodies → block_of came.message ≡ Some value → is_block_of value came.message.payload ≡ true
    → eqb (block_number value) 0 ≡ b
    → cond b (Some []) (option_map payload_of (find (continues came.now came.from (body_options came.message.options)
    (block_offset value)) bodies)) ≡ Some before
    → IsSpelled (has_more value) (came ∷ all) (put value came before)
by_number true all bodies value came before h has sized e begun =
    begins all value came before has sized (eqb-true (block_number value) 0 e) (some_is [] before begun)
by_number false all bodies value came before h has sized e begun =
    follows all value came before has sized
    (found_in all (continues came.now came.from (body_options came.message.options) (block_offset value)) bodies
    before h begun)

pub put_spelled : (all : List Came) (bodies : List BodyContent) (value : ℕ) (came : Came) (before : List ℕ)
    → AreSpelled all bodies → block_of came.message ≡ Some value → is_block_of value came.message.payload ≡ true
    → begun bodies came.now came.from (body_options came.message.options) value ≡ Some before
    → IsSpelled (has_more value) (came ∷ all) (put value came before)
put_spelled all bodies value came before h has sized begun =
    by_number (eqb (block_number value) 0) all bodies value came before h has sized refl begun

-- ---- what is kept after one more
by_more : (b : Bool) (all : List Came) (bodies : List BodyContent) (value : ℕ) (came : Came) (before : List ℕ)
    → AreSpelled (came ∷ all) bodies → has_more value ≡ b
    → IsSpelled (has_more value) (came ∷ all) (put value came before)
    → AreSpelled (came ∷ all) (after bodies came.now came.from
    (cond b (Continues (continue_with (whole_of (without_block came.message) before) value) (put value came before))
    (Makes (whole_of (without_block came.message) before) value)))
by_more true all bodies value came before h e spelled =
    let options = body_options came.message.options in
    let last : IsSpelled true (came ∷ all) (put value came before) =
    subst (λ (b : Bool). IsSpelled b (came ∷ all) (put value came before)) e spelled in
    behind_last (came ∷ all) (without_oldest (weight_of (put value came before))
    (others came.now came.from options bodies)) (put value came before)
    (newest (came ∷ all) (weight_of (put value came before)) (others came.now came.from options bodies)
    (fewer (came ∷ all) (is_other came.now came.from options) bodies h))
    last
by_more false all bodies value came before h e spelled =
    fewer (came ∷ all) (is_other came.now came.from (body_options came.message.options)) bodies h

by_begun : (some : Option (List ℕ)) (all : List Came) (bodies : List BodyContent) (value : ℕ) (came : Came)
    → AreSpelled all bodies → block_of came.message ≡ Some value → is_block_of value came.message.payload ≡ true
    → begun bodies came.now came.from (body_options came.message.options) value ≡ some
    → AreSpelled (came ∷ all) (after bodies came.now came.from
    (behind came.now came.from value (without_block came.message) some))
by_begun None all bodies value came h has sized e = later all came bodies h
by_begun (Some before) all bodies value came h has sized e =
    let whole = whole_of (without_block came.message) before in
    elim (nat_lt 8192 (printed_length whole)) as (λ b. AreSpelled (came ∷ all) (after bodies came.now came.from
    (cond b (Refuses (too_large whole)) (cond (has_more value)
    (Continues (continue_with whole value) (put value came before)) (Makes whole value))))) [
      | true ↦ later all came bodies h
      | false ↦ by_more (has_more value) all bodies value came before (later all came bodies h) refl
          (put_spelled all bodies value came before h has sized e)
    ]

by_size : (b : Bool) (all : List Came) (bodies : List BodyContent) (value : ℕ) (came : Came)
    → AreSpelled all bodies → block_of came.message ≡ Some value → is_block_of value came.message.payload ≡ b
    → AreSpelled (came ∷ all) (after bodies came.now came.from
    (cond b (behind came.now came.from value (without_block came.message)
    (begun bodies came.now came.from (body_options came.message.options) value))
    (Refuses (bad_request (without_block came.message)))))
by_size true all bodies value came h has e =
    by_begun (begun bodies came.now came.from (body_options came.message.options) value) all bodies value came h has e
    refl
by_size false all bodies value came h has e = later all came bodies h

by_block : (some : Option ℕ) (all : List Came) (bodies : List BodyContent) (came : Came)
    → AreSpelled all bodies → block_of came.message ≡ some
    → AreSpelled (came ∷ all) (after bodies came.now came.from (outcome_of bodies came.now came.from came.message some))
by_block None all bodies came h e = later all came bodies h
by_block (Some value) all bodies came h e = by_size (is_block_of value came.message.payload) all bodies value came h e
    refl

pub kept_spelled : (all : List Came) → AreSpelled all (kept_after all)
kept_spelled [] = tt
kept_spelled (came ∷ earlier) = by_block (block_of came.message) earlier (kept_after earlier) came
    (kept_spelled earlier) refl

-- ---- what is made whole
made_is : (a b : MessageContent) (m n : ℕ) → Makes a m ≡ Makes b n → a ≡ b
made_is a b m n h = cc

made_by_more : (b : Bool) (all : List Came) (value : ℕ) (came : Came) (before : List ℕ) (whole : MessageContent)
    (number : ℕ)
    → has_more value ≡ b → IsSpelled (has_more value) (came ∷ all) (put value came before)
    → cond b (Continues (continue_with (whole_of (without_block came.message) before) value) (put value came before))
    (Makes (whole_of (without_block came.message) before) value) ≡ Makes whole number
    → IsSpelled false (came ∷ all) (body_of came.now came.from whole)
made_by_more true all value came before whole number e spelled h = absurd (cc)
made_by_more false all value came before whole number e spelled h =
    let last : IsSpelled false (came ∷ all) (put value came before) =
    subst (λ (b : Bool). IsSpelled b (came ∷ all) (put value came before)) e spelled in
    subst (λ (w : MessageContent). IsSpelled false (came ∷ all) (body_of came.now came.from w))
    (made_is (whole_of (without_block came.message) before) whole value number h) last

made_by_length : (b : Bool) (all : List Came) (value : ℕ) (came : Came) (before : List ℕ) (whole : MessageContent)
    (number : ℕ)
    → IsSpelled (has_more value) (came ∷ all) (put value came before)
    → cond b (Refuses (too_large (whole_of (without_block came.message) before)))
    (cond (has_more value) (Continues (continue_with (whole_of (without_block came.message) before) value)
    (put value came before))
    (Makes (whole_of (without_block came.message) before) value)) ≡ Makes whole number
    → IsSpelled false (came ∷ all) (body_of came.now came.from whole)
made_by_length true all value came before whole number spelled h = absurd (cc)
made_by_length false all value came before whole number spelled h =
    made_by_more (has_more value) all value came before whole number refl spelled h

made_by_begun : (some : Option (List ℕ)) (all : List Came) (bodies : List BodyContent) (value : ℕ) (came : Came)
    (whole : MessageContent)
    (number : ℕ) → AreSpelled all bodies → block_of came.message ≡ Some value → is_block_of value came.message.payload
    ≡ true
    → begun bodies came.now came.from (body_options came.message.options) value ≡ some
    → behind came.now came.from value (without_block came.message) some ≡ Makes whole number
    → IsSpelled false (came ∷ all) (body_of came.now came.from whole)
made_by_begun None all bodies value came whole number h has sized e made = absurd (cc)
made_by_begun (Some before) all bodies value came whole number h has sized e made =
    made_by_length (nat_lt 8192 (printed_length (whole_of (without_block came.message) before))) all value came before
    whole number
    (put_spelled all bodies value came before h has sized e) made

made_by_size : (b : Bool) (all : List Came) (bodies : List BodyContent) (value : ℕ) (came : Came)
    (whole : MessageContent) (number : ℕ)
    → AreSpelled all bodies → block_of came.message ≡ Some value → is_block_of value came.message.payload ≡ b
    → cond b (behind came.now came.from value (without_block came.message)
    (begun bodies came.now came.from (body_options came.message.options) value))
    (Refuses (bad_request (without_block came.message))) ≡ Makes whole number
    → IsSpelled false (came ∷ all) (body_of came.now came.from whole)
made_by_size true all bodies value came whole number h has e made =
    made_by_begun (begun bodies came.now came.from (body_options came.message.options) value) all bodies value came
    whole number h has e refl made
made_by_size false all bodies value came whole number h has e made = absurd (cc)

made_by_block : (some : Option ℕ) (all : List Came) (bodies : List BodyContent) (came : Came) (whole : MessageContent)
    (number : ℕ)
    → AreSpelled all bodies → block_of came.message ≡ some
    → outcome_of bodies came.now came.from came.message some ≡ Makes whole number
    → IsSpelled false (came ∷ all) (body_of came.now came.from whole)
made_by_block None all bodies came whole number h e made = absurd (cc)
made_by_block (Some value) all bodies came whole number h e made =
    made_by_size (is_block_of value came.message.payload) all bodies value came whole number h e refl made

pub whole_spelled : (earlier : List Came) (came : Came) (whole : MessageContent) (value : ℕ)
    → outcome (kept_after earlier) came.now came.from came.message ≡ Makes whole value
    → IsSpelled false (came ∷ earlier) (body_of came.now came.from whole)
whole_spelled earlier came whole value made =
    made_by_block (block_of came.message) earlier (kept_after earlier) came whole value (kept_spelled earlier) refl made
