-- What is kept stays bounded.
use Rattle.std.proofs.Common.{◌≡◌, ℕ, ◌+◌, ◌*◌, ◌<◌, ◌≤◌, List, [], ◌∷◌, ◌++◌, length, Bool, true, false, cond, ◌&&◌}
use Rattle.std.proofs.Common.{refl, sym, subst, ap, arith, length-append}
use Rattle.std.specs.Prelude.{filter, sum_by, nat_lt, nat_le, Option, Some, None}
use Rattle.std.proofs.lemmas.Bool.Decides.{nat_tests}
use Rattle.std.proofs.lemmas.List.Sums.{sum_by-cons, sum_by_push}
use Rattle.lw_coap.specs.Message.{OptionContent, MessageContent}
use Rattle.lw_coap.specs.Fits.{options_length, payload_length, printed_length}
use Rattle.lw_reg.specs.declared.addr.Addr.{Addr}
use Rattle.lw_messaging.specs.Blocks.{has_more, is_block_of}
use Rattle.lw_messaging.specs.BlockAnswers.{block_of, without_block, bad_request, continue_with, too_large}
use Rattle.lw_messaging.specs.Kept.{BodyContent, is_other, others, option_weight, options_weight, weight_of, has_room}
use Rattle.lw_messaging.specs.Kept.{without_oldest, with_body, AreBounded}
use Rattle.lw_messaging.specs.Bodies.{Outcome, Refuses, Continues, Makes, begun, body_of, whole_of, with_whole, behind}
use Rattle.lw_messaging.specs.Bodies.{of_block, outcome_of, outcome, after}

-- ---- what a body takes
weight-length : (before : ℕ) (options : List OptionContent)
    → options_weight options ≤ 33 * options_length before options
weight-length before [] = omega arith
weight-length before (option ∷ options) =
    let rest : options_weight options ≤ 33 * options_length option.number options = weight-length option.number
    options in
    omega (arith, rest, sum_by-cons option_weight option options)

payload-length : (payload : List ℕ) → length payload ≤ payload_length payload
payload-length [] = omega arith
payload-length (byte ∷ payload) = omega arith

pub weight_bounded : (message : MessageContent) → printed_length message ≤ 8192
    → options_weight message.options + length message.payload ≤ 4194304
weight_bounded message h = omega (arith, h, weight-length 0 message.options, payload-length message.payload)

-- ---- fewer bodies
fewer : (test : BodyContent → Bool) (bodies : List BodyContent) → length (filter test bodies) ≤ length bodies
fewer test [] = omega arith
fewer test (body ∷ bodies) =
    let rest : length (filter test bodies) ≤ length bodies = fewer test bodies in
    elim (test body) as (λ b. length (cond b (body ∷ filter test bodies) (filter test bodies)) ≤ length
    (body ∷ bodies)) [
      | true ↦ omega (arith, rest)
      | false ↦ omega (arith, rest)
    ]

lighter_with : (body : BodyContent) (some bodies : List BodyContent) → sum_by weight_of some ≤ sum_by weight_of bodies
    → sum_by weight_of (body ∷ some) ≤ sum_by weight_of (body ∷ bodies)
lighter_with body some bodies h = omega (arith, h, sum_by-cons weight_of body some, sum_by-cons weight_of body bodies)

lighter_without : (body : BodyContent) (some bodies : List BodyContent)
    → sum_by weight_of some ≤ sum_by weight_of bodies
    → sum_by weight_of some ≤ sum_by weight_of (body ∷ bodies)
lighter_without body some bodies h = omega (arith, h, sum_by-cons weight_of body bodies)

lighter : (test : BodyContent → Bool) (bodies : List BodyContent)
    → sum_by weight_of (filter test bodies) ≤ sum_by weight_of bodies
lighter test [] = omega arith
lighter test (body ∷ bodies) =
    let rest : sum_by weight_of (filter test bodies) ≤ sum_by weight_of bodies = lighter test bodies in
    elim (test body) as (λ b. sum_by weight_of (cond b (body ∷ filter test bodies) (filter test bodies)) ≤ sum_by
    weight_of (body ∷ bodies)) [
      | true ↦ lighter_with body (filter test bodies) bodies rest
      | false ↦ lighter_without body (filter test bodies) bodies rest
    ]

pub others_bounded : (now : ℕ) (from : Addr) (options : List OptionContent) (bodies : List BodyContent)
    → AreBounded bodies
    → AreBounded (others now from options bodies)
others_bounded now from options bodies h = record {
  count = omega (arith, h.count, fewer (is_other now from options) bodies);
  bytes = omega (arith, h.bytes, lighter (is_other now from options) bodies);
}

-- ---- room
room_of_none : (weight : ℕ) → weight ≤ 4194304 → has_room weight [] ≡ true
room_of_none weight h = grind (arith, nat_tests)

by_room : (b : Bool) (weight : ℕ) (body : BodyContent) (bodies : List BodyContent) → has_room weight (body ∷ bodies) ≡ b
    → has_room weight (without_oldest weight bodies) ≡ true
    → has_room weight (cond b (body ∷ bodies) (without_oldest weight bodies)) ≡ true
by_room true weight body bodies e h = e
by_room false weight body bodies e h = h

room_left : (weight : ℕ) (bodies : List BodyContent) → weight ≤ 4194304
    → has_room weight (without_oldest weight bodies) ≡ true
room_left weight [] h = room_of_none weight h
room_left weight (body ∷ bodies) h = by_room (has_room weight (body ∷ bodies)) weight body bodies refl
    (room_left weight bodies h)

pub room_stays : (weight : ℕ) (bodies : List BodyContent) → has_room weight bodies ≡ true
    → without_oldest weight bodies ≡ bodies
room_stays weight [] h = refl
room_stays weight (body ∷ bodies) h = ap (λ (b : Bool). cond b (body ∷ bodies) (without_oldest weight bodies)) h

room_says : (count sum weight : ℕ) → (nat_lt count 1024 && nat_le (sum + weight) 4194304) ≡ true
    → (count < 1024) × (sum + weight ≤ 4194304)
room_says count sum weight h = (grind (arith, nat_tests), grind (arith, nat_tests))

pub with_body_bounded : (bodies : List BodyContent) (body : BodyContent) → weight_of body ≤ 4194304
    → AreBounded (with_body bodies body)
with_body_bounded bodies body h =
    let left : List BodyContent = without_oldest (weight_of body) bodies in
    let room = room_says (length left) (sum_by weight_of left) (weight_of body) (room_left (weight_of body) bodies h) in
    record {
      count = omega (arith, room.0, length-append left (body ∷ []));
      bytes = omega (arith, room.1, sum_by_push weight_of left body);
    }

-- ---- after a block
by_length : (b : Bool) (now : ℕ) (from : Addr) (value : ℕ) (whole : MessageContent) (bodies : List BodyContent)
    → nat_lt 8192 (printed_length whole) ≡ b → AreBounded bodies
    → AreBounded (after bodies now from (cond b (Refuses (too_large whole))
    (cond (has_more value) (Continues (continue_with whole value) (body_of now from whole)) (Makes whole value))))
by_length true now from value whole bodies e h = h
by_length false now from value whole bodies e h =
    let short : printed_length whole ≤ 8192 = grind (arith, nat_tests) in
    elim (has_more value) as (λ b. AreBounded (after bodies now from
    (cond b (Continues (continue_with whole value) (body_of now from whole)) (Makes whole value)))) [
      | true ↦ with_body_bounded (others now from whole.options bodies) (body_of now from whole)
          (weight_bounded whole short)
      | false ↦ others_bounded now from whole.options bodies h
    ]

behind_bounded : (now : ℕ) (from : Addr) (value : ℕ) (message : MessageContent) (before : Option (List ℕ))
    (bodies : List BodyContent)
    → AreBounded bodies → AreBounded (after bodies now from (behind now from value message before))
behind_bounded now from value message None bodies h = h
behind_bounded now from value message (Some before) bodies h =
    by_length (nat_lt 8192 (printed_length (whole_of message before))) now from value (whole_of message before) bodies
    refl h

pub after_bounded : (bodies : List BodyContent) (now : ℕ) (from : Addr) (value : ℕ) (message : MessageContent)
    → AreBounded bodies → AreBounded (after bodies now from (of_block bodies now from value message))
after_bounded bodies now from value message h =
    elim (is_block_of value message.payload) as (λ b. AreBounded (after bodies now from
    (cond b (behind now from value message (begun bodies now from message.options value))
    (Refuses (bad_request message))))) [
      | true ↦ behind_bounded now from value message (begun bodies now from message.options value) bodies h
      | false ↦ h
    ]

outcome_bounded_by : (some : Option ℕ) (bodies : List BodyContent) (now : ℕ) (from : Addr) (message : MessageContent)
    → AreBounded bodies → AreBounded (after bodies now from (outcome_of bodies now from message some))
outcome_bounded_by None bodies now from message h = h
outcome_bounded_by (Some value) bodies now from message h = after_bounded bodies now from value
    (without_block message) h

pub outcome_bounded : (bodies : List BodyContent) (now : ℕ) (from : Addr) (message : MessageContent)
    → AreBounded bodies → AreBounded (after bodies now from (outcome bodies now from message))
outcome_bounded bodies now from message h = outcome_bounded_by (block_of message) bodies now from message h
