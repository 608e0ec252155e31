-- What is sent and told of fetches has a spelling, and what is kept of them stays bounded.
use Rattle.std.proofs.Common.{◌≡◌, ℕ, ◌+◌, ◌-◌, ◌*◌, ◌/◌, ◌%◌, ◌<◌, ◌≤◌, List, [], ◌∷◌, ◌++◌, length, Bool}
use Rattle.std.proofs.Common.{true, false, cond}
use Rattle.std.proofs.Common.{◌&&◌, refl, arith, length-append, drop}
use Rattle.std.specs.Prelude.{filter, find, map, nat_eq, nat_lt, IsTrue, IfSome, Option, Some, None}
use Rattle.std.specs.List.{list_all}
use Rattle.std.specs.Fmt.{decimal}
use Rattle.std.proofs.lemmas.Bool.{leb-true}
use Rattle.std.proofs.lemmas.Bool.Decides.{nat_tests}
use Rattle.std.proofs.lemmas.Fmt.{length-decimal-le}
use Rattle.lw_coap.specs.Message.{OptionContent, MessageContent}
use Rattle.lw_coap.specs.Fits.{Fits, AreRising, extension_length, option_length, options_length, payload_length}
use Rattle.lw_coap.specs.Fits.{printed_length}
use Rattle.lw_reg.specs.declared.addr.Addr.{Addr}
use Rattle.lw_reg.specs.declared.path.Path.{Path}
use Rattle.lw_reg.specs.declared.watch.Watch.{Watch}
use Rattle.lw_reg.specs.Path.{path_numbers}
use Rattle.lw_reg.specs.PathNumbers.{IsPathNumbers, is_number}
use Rattle.lw_messaging.specs.declared.fetch_changes.Change.{Change}
use Rattle.lw_messaging.specs.declared.fetch_changes.Change.TheVariants as changes
use Rattle.lw_messaging.specs.Blocks.{shortest_bytes}
use Rattle.lw_messaging.specs.FetchMessages.{is_no_block2, without_block2, is_of_notification, told_by, fetch_token}
use Rattle.lw_messaging.specs.FetchMessages.{segment, accepts}
use Rattle.lw_messaging.specs.FetchMessages.{block2, get_block}
use Rattle.lw_messaging.specs.Fetches.{FetchContent, FetchesContent, IsKept, AreBounded, Outcome, Passes, Makes}
use Rattle.lw_messaging.specs.Fetches.{Begins, Continues}
use Rattle.lw_messaging.specs.Fetches.{Ends, begun, message_with, is_beside, is_other, with_room, with_fetch, others}
use Rattle.lw_messaging.specs.Fetches.{after}
use Rattle.lw_messaging.specs.inner.Fetches.{AreKept, change_of, changed, IsSound}
use Rattle.lw_messaging.proofs.RequestLemmas.{rising_kept}

-- ---- how long options are of which some are left out
extension_of_both : (a b : ℕ) → extension_length (a + b) ≤ 1 + extension_length a + extension_length b
extension_of_both a b = grind (arith, nat_tests)

more_extended : (a b : ℕ) → a ≤ b → extension_length a ≤ extension_length b
more_extended a b le = grind (arith, nat_tests)

option_left_out : (before : ℕ) (option : OptionContent) (options : List OptionContent)
    → options_length before options ≤ option_length before option + options_length option.number options
option_left_out before option [] = omega arith
option_left_out before option (next ∷ options) =
    let a = option.number - before in
    let b = next.number - option.number in
    let both : extension_length (a + b) ≤ 1 + extension_length a + extension_length b = extension_of_both a b in
    let more : extension_length (next.number - before) ≤ extension_length (a + b) =
    more_extended (next.number - before) (a + b) (omega arith) in
    omega (arith, both, more)

pub shorter : (test : OptionContent → Bool) (before : ℕ) (options : List OptionContent)
    → options_length before (filter test options) ≤ options_length before options
shorter test before [] = omega arith
shorter test before (option ∷ options) =
    let rest : options_length option.number (filter test options) ≤ options_length option.number options =
    shorter test option.number options in
    let skipped : options_length before (filter test options)
    ≤ option_length before option + options_length option.number (filter test options) =
    option_left_out before option (filter test options) in
    elim (test option) as (λ b. options_length before (cond b (option ∷ filter test options) (filter test options))
    ≤ options_length before (option ∷ options)) [
      | true ↦ omega (arith, rest)
      | false ↦ omega (arith, rest, skipped)
    ]

pub without_fits : (message : MessageContent) → Fits message → Fits (without_block2 message)
without_fits message fits =
    let less : options_length 0 (filter is_no_block2 message.options) ≤ options_length 0 message.options =
    shorter is_no_block2 0 message.options in
    record {
      token = fits.token;
      code = fits.code;
      mid = fits.mid;
      options = rising_kept is_no_block2 0 message.options fits.options;
      empty = λ (e : message.code ≡ 0). let four : printed_length message ≡ 4 = fits.empty e in
          omega (arith, four, less);
      within = let most : printed_length message ≤ 8192 = fits.within in omega (arith, most, less);
    }

pub told_kept : (message : MessageContent) → Fits message → Fits (told_by message)
told_kept message fits =
    let less : options_length 0 (filter is_of_notification message.options) ≤ options_length 0 message.options =
    shorter is_of_notification 0 message.options in
    record {
      token = fits.token;
      code = omega arith;
      mid = omega arith;
      options = rising_kept is_of_notification 0 message.options fits.options;
      empty = λ e. absurd (omega (arith, e));
      within = let most : printed_length message ≤ 8192 = fits.within in omega (arith, most, less);
    }

pub begun_kept : (number now : ℕ) (from : Addr) (watch : Watch) (message : MessageContent) → Fits message
    → IsKept (begun number now from watch message)
begun_kept number now from watch message fits = (told_kept message fits, refl)

-- ---- another payload
pub payload_at_most : (payload : List ℕ) → length payload ≤ payload_length payload
payload_at_most [] = omega arith
payload_at_most (byte ∷ payload) = omega arith

pub short_payload : (message : MessageContent) → Fits message → length message.payload ≤ 8192
short_payload message fits =
    let most : printed_length message ≤ 8192 = fits.within in omega (arith, most, payload_at_most message.payload)

pub payload_fits : (message : MessageContent) (payload : List ℕ) → Fits message → message.code ≡ 0x45
    → printed_length (message_with message payload) ≤ 8192 → Fits (message_with message payload)
payload_fits message payload fits content short =
    record {
      token = fits.token;
      code = fits.code;
      mid = fits.mid;
      options = fits.options;
      empty = λ (e : message.code ≡ 0). absurd (omega (arith, content, e));
      within = short;
    }

empty_shorter : (message : MessageContent) → Fits message → printed_length (message_with message []) ≤ 8192
empty_shorter message fits = let most : printed_length message ≤ 8192 = fits.within in omega (arith, most)

pub emptied_fits : (message : MessageContent) → Fits message → message.code ≡ 0x45 → Fits (message_with message [])
emptied_fits message fits content = payload_fits message [] fits content (empty_shorter message fits)

-- ---- a request
small_extension : (n : ℕ) → extension_length n ≤ 2
small_extension n = grind (arith, nat_tests)

small_option : (before : ℕ) (o : OptionContent) (k : ℕ) → length o.value ≤ k → option_length before o ≤ 5 + k
small_option before o k le = omega (arith, le, small_extension (o.number - before), small_extension (length o.value))

pub at_most_three : (n : ℕ) → length (shortest_bytes n) ≤ 3
at_most_three n =
    elim (nat_eq n 0) as (λ b. length (cond b [] (cond (nat_lt n 256) (n ∷ []) (cond (nat_lt n 65536)
    ((n / 256) ∷ (n % 256) ∷ []) ((n / 65536) ∷ (n / 256 % 256) ∷ (n % 256) ∷ [])))) ≤ 3) [
      | true ↦ omega arith
      | false ↦ elim (nat_lt n 256) as (λ b. length (cond b (n ∷ []) (cond (nat_lt n 65536)
          ((n / 256) ∷ (n % 256) ∷ []) ((n / 65536) ∷ (n / 256 % 256) ∷ (n % 256) ∷ []))) ≤ 3) [
            | true ↦ omega arith
            | false ↦ elim (nat_lt n 65536) as (λ b. length (cond b
                ((n / 256) ∷ (n % 256) ∷ []) ((n / 65536) ∷ (n / 256 % 256) ∷ (n % 256) ∷ [])) ≤ 3) [
                  | true ↦ omega arith
                  | false ↦ omega arith
                ]
          ]
    ]

small_end : (before : ℕ) (accept : Option ℕ) (value : ℕ)
    → options_length before (accepts accept ++ block2 value ∷ []) ≤ 16
small_end before None value = omega (arith, small_option before (block2 value) 3 (at_most_three value))
small_end before (Some format) value =
    omega (
      arith,
      small_option before (record { number = 17; value = shortest_bytes format }) 3 (at_most_three format),
      small_option 17 (block2 value) 3 (at_most_three value),
    )

both_true : (a b : Bool) → IsTrue (a && b) → IsTrue a × IsTrue b
both_true true true h = (h, h)
both_true true false h = absurd cc
both_true false b h = absurd cc

small_segments : (before : ℕ) (numbers : List ℕ) (accept : Option ℕ) (value : ℕ) → IsTrue (list_all is_number numbers)
    → options_length before (map segment numbers ++ (accepts accept ++ block2 value ∷ [])) ≤ 10 * length numbers + 16
small_segments before [] accept value all = small_end before accept value
small_segments before (n ∷ ns) accept value all =
    let both = both_true (is_number n) (list_all is_number ns) all in
    let number : n ≤ 65534 = leb-true n 65534 both.0 in
    let digits : length (decimal n) ≤ 5 = length-decimal-le 5 n (omega arith) (omega (arith, number))
    (omega (arith, number)) in
    omega (arith, small_option before (segment n) 5 digits, small_segments 11 ns accept value both.1)

rising_end : (before : ℕ) → before ≤ 11 → (accept : Option ℕ) (value : ℕ)
    → AreRising before (accepts accept ++ block2 value ∷ [])
rising_end before le None value = (omega arith, omega arith, tt)
rising_end before le (Some format) value = (omega arith, omega arith, (omega arith, omega arith, tt))

rising_segments : (before : ℕ) → before ≤ 11 → (numbers : List ℕ) (accept : Option ℕ) (value : ℕ)
    → AreRising before (map segment numbers ++ (accepts accept ++ block2 value ∷ []))
rising_segments before le [] accept value = rising_end before le accept value
rising_segments before le (n ∷ ns) accept value = (le, omega arith, rising_segments 11 (omega arith) ns accept value)

pub get_fits : (number : ℕ) (path : Path) (accept : Option ℕ) (value : ℕ) → IsPathNumbers (path_numbers path)
    → length (fetch_token number) ≡ 4 → Fits (get_block number path accept value)
get_fits number path accept value path_fits four =
    let numbers = path_numbers path in
    let few : length numbers ≤ 4 = path_fits.most in
    let options = small_segments 0 numbers accept value path_fits.each in
    record {
      token = omega (arith, four);
      code = omega arith;
      mid = omega arith;
      options = rising_segments 0 (omega arith) numbers accept value;
      empty = λ e. absurd (omega (arith, e));
      within = omega (arith, four, few, options);
    }

-- ---- a fetch among those that are kept
pub found_kept : (test : FetchContent → Bool) (fetches : List FetchContent) → AreKept fetches
    → IfSome (find test fetches) IsKept
found_kept test [] kept = tt
found_kept test (fetch ∷ fetches) kept =
    elim (test fetch) as (λ b. IfSome (cond b (Some fetch) (find test fetches)) IsKept) [
      | true ↦ kept.0
      | false ↦ found_kept test fetches kept.1
    ]

-- ---- what changes
pub by_change : (old : FetchesContent) (outcome : Outcome) → changed old (change_of outcome) ≡ after old outcome
by_change old Passes = refl
by_change old (Makes message) = refl
by_change old (Begins fetch value) = refl
by_change old (Continues fetch value) = refl
by_change old (Ends fetch complete) = refl

filter_kept : (test : FetchContent → Bool) (fetches : List FetchContent) → AreKept fetches
    → AreKept (filter test fetches)
filter_kept test [] kept = tt
filter_kept test (fetch ∷ fetches) kept =
    elim (test fetch) as (λ b. AreKept (cond b (fetch ∷ filter test fetches) (filter test fetches))) [
      | true ↦ (kept.0, filter_kept test fetches kept.1)
      | false ↦ filter_kept test fetches kept.1
    ]

fewer : (test : FetchContent → Bool) (fetches : List FetchContent) → length (filter test fetches) ≤ length fetches
fewer test [] = omega arith
fewer test (fetch ∷ fetches) =
    let rest : length (filter test fetches) ≤ length fetches = fewer test fetches in
    elim (test fetch) as (λ b. length (cond b (fetch ∷ filter test fetches) (filter test fetches))
    ≤ length (fetch ∷ fetches)) [
      | true ↦ omega (arith, rest)
      | false ↦ omega (arith, rest)
    ]

left_bounded : (test : FetchContent → Bool) (fetches : List FetchContent) → AreBounded fetches
    → AreBounded (filter test fetches)
left_bounded test fetches bounded =
    record {
      count = omega (arith, bounded.count, fewer test fetches);
      each = filter_kept test fetches bounded.each;
    }

put_kept : (fetches : List FetchContent) (fetch : FetchContent) → AreKept fetches → IsKept fetch
    → AreKept (fetches ++ fetch ∷ [])
put_kept [] fetch kept one = (one, tt)
put_kept (first ∷ fetches) fetch kept one = (kept.0, put_kept fetches fetch kept.1 one)

rest_kept : (fetches : List FetchContent) → AreKept fetches → AreKept (drop 1 fetches)
rest_kept [] kept = tt
rest_kept (fetch ∷ fetches) kept = kept.1

rest_length : (fetches : List FetchContent) → length fetches ≤ 512 → length (drop 1 fetches) < 512
rest_length [] le = omega arith
rest_length (fetch ∷ fetches) le = omega arith

room_kept : (fetches : List FetchContent) → AreKept fetches → AreKept (with_room fetches)
room_kept fetches kept =
    elim (nat_lt (length fetches) 512) as (λ b. AreKept (cond b fetches (drop 1 fetches))) [
      | true ↦ kept
      | false ↦ rest_kept fetches kept
    ]

by_count : (b : Bool) (fetches : List FetchContent) → nat_lt (length fetches) 512 ≡ b → length fetches ≤ 512
    → length (cond b fetches (drop 1 fetches)) < 512
by_count true fetches e le = grind (arith, nat_tests)
by_count false fetches e le = rest_length fetches le

room_left : (fetches : List FetchContent) → length fetches ≤ 512 → length (with_room fetches) < 512
room_left fetches le = by_count (nat_lt (length fetches) 512) fetches refl le

with_bounded : (fetches : List FetchContent) (fetch : FetchContent) → AreBounded fetches → IsKept fetch
    → AreBounded (with_fetch fetches fetch)
with_bounded fetches fetch bounded one =
    record {
      count = omega (arith, room_left fetches bounded.count, length-append (with_room fetches) (fetch ∷ []));
      each = put_kept (with_room fetches) fetch (room_kept fetches bounded.each) one;
    }

pub changed_bounded : (old : FetchesContent) (change : Change) → AreBounded old.fetches → IsSound change
    → AreBounded (changed old change).fetches
changed_bounded old changes.Nothing bounded sound = bounded
changed_bounded old (changes.Begins fetch) bounded sound =
    with_bounded (filter (is_beside fetch) old.fetches) fetch (left_bounded (is_beside fetch) old.fetches bounded) sound
changed_bounded old (changes.Continues fetch) bounded sound =
    with_bounded (others fetch.number old.fetches) fetch (left_bounded (is_other fetch.number) old.fetches bounded)
    sound
changed_bounded old (changes.Ends number) bounded sound = left_bounded (is_other number) old.fetches bounded

pub others_bounded : (number : ℕ) (fetches : List FetchContent) → AreBounded fetches
    → AreBounded (others number fetches)
others_bounded number fetches bounded = left_bounded (is_other number) fetches bounded
