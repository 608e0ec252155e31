-- Two allotments of one message ID to one address are more than the lifetime of an exchange apart.
use Rattle.std.proofs.Common.{◌≡◌, ◌≢◌, ℕ, ◌+◌, ◌-◌, ◌*◌, ◌<◌, ◌≤◌, List, [], ◌∷◌, ◌++◌, length, Bool, true, false, cond}
use Rattle.std.proofs.Common.{refl, sym, ap, subst, ◌∙◌, arith, inl, inr, ◌⊎◌, get_or, length-set, get_or-set_same}
use Rattle.std.proofs.Common.{get_or-set_other}
use Rattle.std.specs.Prelude.{◌%◌, nat_lt, replicate, slice_get, slice_set, Option, Some, None}
use Rattle.std.proofs.lemmas.Bool.Decides.{eqb_tells, nat_tests}
use Rattle.std.proofs.lemmas.Option.{slice_get_within, slice_get-get_or, slice_get_read}
use Rattle.std.proofs.lemmas.List.{get_or-replicate}
use Rattle.lw_stamp.specs.declared.moment.Moment.{Moment}
use Rattle.lw_stamp.specs.Moment.{ms_of}
use Rattle.lw_reg.specs.declared.addr.Addr.{Addr}
use Rattle.lw_messaging.specs.declared.message_ids.IdCounter.{IdCounter}
use Rattle.lw_messaging.specs.MessageIds.{first_counter, first_counters, begins, allotted, allotted_by, counted}
use Rattle.lw_messaging.specs.MessageIds.{counter_after}
use Rattle.lw_messaging.specs.MessageIds.{counter_of, counters_with, counters_after, Asked, counters_since, given, last_of, NeverFall}
use Rattle.lw_messaging.specs.MessageIds.{IsGivenTwice}

-- ---- numbers
round : (id ago : ℕ) → id < 65536 → (id + 1 + ago) % 65536 ≡ id → 65535 ≤ ago
round id ago small e = omega (arith, small, e)

round_on : (id ago : ℕ) → ((id + 1 + ago) % 65536 + 1) % 65536 ≡ (id + 1 + (ago + 1)) % 65536
round_on id ago = omega arith

is_some : (a b : ℕ) → Some a ≡ Some b → a ≡ b
is_some a b h = cc

-- ---- a counter, at the last moment
record IsIdCounter (counter : IdCounter) (last : ℕ) : Type 0 where
  next : counter.next < 65536
  left : counter.left ≤ 32768
  began : ms_of counter.began ≤ last

-- Since the message ID was given, so many others were. It is of this epoch, or of the one before, or is older than the
-- lifetime before the epoch began.
record Since (counter : IdCounter) (last then id : ℕ) : Type 0 where
  ago : ℕ
  small : id < 65536
  next : counter.next ≡ (id + 1 + ago) % 65536
  left : counter.left ≤ 32768
  began : ms_of counter.began ≤ last
  not_later : then ≤ last
  order : (ago + counter.left < 32768)
      ⊎ ((ago + counter.left < 65536) × (then ≤ ms_of counter.began))
      ⊎ (then + 247000 < ms_of counter.began)

counter_later : (counter : IdCounter) (last now : ℕ) → last ≤ now → IsIdCounter counter last → IsIdCounter counter now
counter_later counter last now le h = record { next = h.next; left = h.left; began = omega (arith, le, h.began) }

since_later : (counter : IdCounter) (last now then id : ℕ) → last ≤ now → Since counter last then id
    → Since counter now then id
since_later counter last now then id le h = record {
  ago = h.ago;
  small = h.small;
  next = h.next;
  left = h.left;
  began = omega (arith, le, h.began);
  not_later = omega (arith, le, h.not_later);
  order = h.order;
}

counted_small : (n : ℕ) → counted n < 65536
counted_small n = omega arith

counter_on : (b c : Bool) (counter : IdCounter) (now : Moment) (last : ℕ) → last ≤ ms_of now → IsIdCounter counter last
    → IsIdCounter (cond b (record { next = counted counter.next; left = counter.left - 1; began = counter.began })
    (cond c (record { next = counted counter.next; left = 32767; began = now }) counter)) (ms_of now)
counter_on true c counter now last le h = record {
  next = counted_small counter.next;
  left = omega (arith, h.left);
  began = omega (arith, le, h.began);
}
counter_on false true counter now last le h = record {
  next = counted_small counter.next;
  left = omega arith;
  began = omega arith;
}
counter_on false false counter now last le h = counter_later counter last (ms_of now) le h

since_next : (counter : IdCounter) (id ago : ℕ) → counter.next ≡ (id + 1 + ago) % 65536
    → counted counter.next ≡ (id + 1 + (ago + 1)) % 65536
since_next counter id ago e = ap counted e ∙ round_on id ago

order_counted : (ago left then began : ℕ) → 0 < left
    → (ago + left < 32768) ⊎ ((ago + left < 65536) × (then ≤ began)) ⊎ (then + 247000 < began)
    → ((ago + 1) + (left - 1) < 32768) ⊎ (((ago + 1) + (left - 1) < 65536) × (then ≤ began)) ⊎ (then + 247000 < began)
order_counted ago left then began some (inl h) = inl (omega (arith, some, h))
order_counted ago left then began some (inr (inl h)) = inr (inl (omega (arith, some, h.0), h.1))
order_counted ago left then began some (inr (inr h)) = inr (inr h)

order_begun : (ago left then began now last : ℕ) → left ≡ 0 → began + 247000 < now → then ≤ last → last ≤ now
    → (ago + left < 32768) ⊎ ((ago + left < 65536) × (then ≤ began)) ⊎ (then + 247000 < began)
    → ((ago + 1) + 32767 < 32768) ⊎ (((ago + 1) + 32767 < 65536) × (then ≤ now)) ⊎ (then + 247000 < now)
order_begun ago left then began now last none late not_later le (inl h) =
    inr (inl (omega (arith, none, h), omega (arith, not_later, le)))
order_begun ago left then began now last none late not_later le (inr (inl h)) = inr (inr (omega (arith, late, h.1)))
order_begun ago left then began now last none late not_later le (inr (inr h)) = inr (inr (omega (arith, late, h)))

some_left : (n : ℕ) → nat_lt 0 n ≡ true → 0 < n
some_left n h = grind (arith, nat_tests)

none_left : (n : ℕ) → nat_lt 0 n ≡ false → n ≡ 0
none_left n h = grind (arith, nat_tests)

is_late : (m n : ℕ) → nat_lt (m + 247000) n ≡ true → m + 247000 < n
is_late m n h = grind (arith, nat_tests)

since_on : (b c : Bool) (counter : IdCounter) (now : Moment) (last then id : ℕ) → nat_lt 0 counter.left ≡ b
    → begins counter now ≡ c → last ≤ ms_of now → Since counter last then id
    → Since (cond b (record { next = counted counter.next; left = counter.left - 1; began = counter.began })
    (cond c (record { next = counted counter.next; left = 32767; began = now }) counter)) (ms_of now) then id
since_on true c counter now last then id e f le h = record {
  ago = h.ago + 1;
  small = h.small;
  next = since_next counter id h.ago h.next;
  left = omega (arith, h.left);
  began = omega (arith, le, h.began);
  not_later = omega (arith, le, h.not_later);
  order = order_counted h.ago counter.left then (ms_of counter.began) (some_left counter.left e) h.order;
}
since_on false true counter now last then id e f le h = record {
  ago = h.ago + 1;
  small = h.small;
  next = since_next counter id h.ago h.next;
  left = omega arith;
  began = omega arith;
  not_later = omega (arith, le, h.not_later);
  order = order_begun h.ago counter.left then (ms_of counter.began) (ms_of now) last (none_left counter.left e)
      (is_late (ms_of counter.began) (ms_of now) f) h.not_later le h.order;
}
since_on false false counter now last then id e f le h = since_later counter last (ms_of now) then id le h

-- the message ID that is given begins a count
since_given : (b c : Bool) (counter : IdCounter) (now : Moment) (last id : ℕ) → nat_lt 0 counter.left ≡ b
    → last ≤ ms_of now → IsIdCounter counter last → cond b (Some counter.next) (cond c (Some counter.next) None) ≡ Some
    id → Since (cond b (record { next = counted counter.next; left = counter.left - 1; began = counter.began })
    (cond c (record { next = counted counter.next; left = 32767; began = now }) counter)) (ms_of now) (ms_of now) id
since_given true c counter now last id e le h is =
    let same : counter.next ≡ id = is_some counter.next id is in
    let some : 0 < counter.left = some_left counter.left e in
    record {
      ago = 0;
      small = omega (arith, same, h.next);
      next = omega (arith, same);
      left = omega (arith, h.left);
      began = omega (arith, le, h.began);
      not_later = omega arith;
      order = inl (omega (arith, some, h.left));
    }
since_given false true counter now last id e le h is =
    let same : counter.next ≡ id = is_some counter.next id is in
    record {
      ago = 0;
      small = omega (arith, same, h.next);
      next = omega (arith, same);
      left = omega arith;
      began = omega arith;
      not_later = omega arith;
      order = inl (omega arith);
    }
since_given false false counter now last id e le h is = absurd (cc)

-- where it is given again
again_order : (ago left then began now : ℕ) → 65535 ≤ ago → 0 < left → began ≤ now
    → (ago + left < 32768) ⊎ ((ago + left < 65536) × (then ≤ began)) ⊎ (then + 247000 < began) → then + 247000 < now
again_order ago left then began now many some le (inl h) = absurd (omega (arith, many, h))
again_order ago left then began now many some le (inr (inl h)) = absurd (omega (arith, many, some, h.0))
again_order ago left then began now many some le (inr (inr h)) = omega (arith, le, h)

again_begun : (ago left then began now : ℕ) → 65535 ≤ ago → began + 247000 < now
    → (ago + left < 32768) ⊎ ((ago + left < 65536) × (then ≤ began)) ⊎ (then + 247000 < began) → then + 247000 < now
again_begun ago left then began now many late (inl h) = absurd (omega (arith, many, h))
again_begun ago left then began now many late (inr (inl h)) = omega (arith, late, h.1)
again_begun ago left then began now many late (inr (inr h)) = omega (arith, late, h)

many_since : (counter : IdCounter) (last then id : ℕ) (h : Since counter last then id) → counter.next ≡ id
    → 65535 ≤ h.ago
many_since counter last then id h same = round id h.ago h.small (sym h.next ∙ same)

again : (b c : Bool) (counter : IdCounter) (now : Moment) (last then id : ℕ) → nat_lt 0 counter.left ≡ b
    → begins counter now ≡ c → last ≤ ms_of now → Since counter last then id
    → cond b (Some counter.next) (cond c (Some counter.next) None) ≡ Some id → then + 247000 < ms_of now
again true c counter now last then id e f le h is =
    let le_now : ms_of counter.began ≤ ms_of now = omega (arith, le, h.began) in
    again_order h.ago counter.left then (ms_of counter.began) (ms_of now)
    (many_since counter last then id h (is_some counter.next id is)) (some_left counter.left e) le_now h.order
again false true counter now last then id e f le h is =
    again_begun h.ago counter.left then (ms_of counter.began) (ms_of now)
    (many_since counter last then id h (is_some counter.next id is)) (is_late (ms_of counter.began) (ms_of now) f)
    h.order
again false false counter now last then id e f le h is = absurd (cc)

-- ---- the counter at a place
record At (counters : List IdCounter) (place : ℕ) (P : IdCounter → Type 0) : Type 0 where
  counter : IdCounter
  stands : slice_get counters place ≡ Some counter
  has : P counter

get_set : (counters : List IdCounter) (place : ℕ) (was counter : IdCounter) → slice_get counters place ≡ Some was
    → slice_get (slice_set counters place counter) place ≡ Some counter
get_set counters place was counter is =
    let within : place < length counters = slice_get_within counters place was is in
    slice_get_read (slice_set counters place counter) (length counters) place counter
    (sym (length-set counters place counter)) within
    (sym (get_or-set_same counters place counter counter within))

get_set_other : (counters : List IdCounter) (place other : ℕ) (was counter : IdCounter) → other ≢ place
    → slice_get counters other ≡ Some was → slice_get (slice_set counters place counter) other ≡ Some was
get_set_other counters place other was counter ne is =
    let within : other < length counters = slice_get_within counters other was is in
    let size : other < length (slice_set counters place counter) = subst (λ (n : ℕ). other < n)
    (sym (length-set counters place counter)) within in
    slice_get-get_or (slice_set counters place counter) other was size
    ∙ ap Some (get_or-set_other counters place other counter was ne)
    ∙ sym (slice_get-get_or counters other was within) ∙ is

module _ (P Q : IdCounter → Type 0) (now : Moment) (stays : (counter : IdCounter) → P counter → Q counter)
    (moves : (counter : IdCounter) → P counter → Q (counter_after counter now)) where
  at_same : (counters : List IdCounter) (place : ℕ) (some : Option IdCounter) → slice_get counters place ≡ some
      → At counters place P → At (counters_with counters place now some) place Q
  at_same counters place None is at = record { counter = at.counter; stands = at.stands; has = stays at.counter at.has }
  at_same counters place (Some counter) is at =
      let same : Some at.counter ≡ Some counter = sym at.stands ∙ is in
      let one : at.counter ≡ counter = cc in
      record {
        counter = counter_after counter now;
        stands = get_set counters place counter (counter_after counter now) is;
        has = moves counter (subst P one at.has);
      }

  at_other : (counters : List IdCounter) (place other : ℕ) (some : Option IdCounter) → other ≢ place
      → At counters other P → At (counters_with counters place now some) other Q
  at_other counters place other None ne at = record {
    counter = at.counter;
    stands = at.stands;
    has =
        stays at.counter at.has;
  }
  at_other counters place other (Some counter) ne at = record {
    counter = at.counter;
    stands = get_set_other counters place other at.counter (counter_after counter now) ne at.stands;
    has = stays at.counter at.has;
  }

  at_after : (counters : List IdCounter) (to : Addr) (place : ℕ) → At counters place P
      → At (counters_after counters now to) place Q
  at_after counters to place at = elim (eqb_tells place (counter_of to)) [
    | inl h ↦ subst (λ (k : ℕ). At (counters_after counters now to) k Q) (sym h.1)
        (at_same counters (counter_of to) (slice_get counters (counter_of to)) refl
        (subst (λ (k : ℕ). At counters k P) h.1 at))
    | inr h ↦ at_other counters (counter_of to) place (slice_get counters (counter_of to)) h.1 at
  ]

-- ---- all that was asked for
counters_known : (start : Moment) (asked : List Asked) (place : ℕ) → place < 16 → NeverFall start asked
    → At (counters_since start asked) place (λ counter. IsIdCounter counter (last_of start asked))
counters_known start [] place within order = record {
  counter = first_counter start;
  stands = slice_get_read (first_counters start) 16 place (first_counter start) refl within
      (sym (get_or-replicate 16 place (first_counter start) (first_counter start) within));
  has = record { next = omega arith; left = omega arith; began = omega arith };
}
counters_known start (asked ∷ earlier) place within order =
    at_after (λ counter. IsIdCounter counter (last_of start earlier)) (λ counter. IsIdCounter counter (ms_of asked.now))
    asked.now
    (λ counter h. counter_later counter (last_of start earlier) (ms_of asked.now) order.0 h)
    (λ counter h. counter_on (nat_lt 0 counter.left) (begins counter asked.now) counter asked.now
    (last_of start earlier) order.0 h)
    (counters_since start earlier) asked.to place (counters_known start earlier place within order.1)

module _ (start : Moment) (earlier : List Asked) (first : Asked) (id : ℕ)
    (is : given start earlier first ≡ Some id) where
  abbrev IsSince : ℕ → IdCounter → Type 0
  IsSince last counter = Since counter last (ms_of first.now) id

  given_at : (counters : List IdCounter) (some : Option IdCounter) → slice_get counters (counter_of first.to) ≡ some
      → At counters (counter_of first.to) (λ counter. IsIdCounter counter (last_of start earlier))
      → last_of start earlier ≤ ms_of first.now
      → allotted_by some first.now ≡ Some id
      → At (counters_with counters (counter_of first.to) first.now some) (counter_of first.to)
      (IsSince (ms_of first.now))
  given_at counters None at known le is = absurd (cc)
  given_at counters (Some counter) at known le is =
      let same : Some known.counter ≡ Some counter = sym known.stands ∙ at in
      let one : known.counter ≡ counter = cc in
      record {
        counter = counter_after counter first.now;
        stands = get_set counters (counter_of first.to) counter (counter_after counter first.now) at;
        has = since_given (nat_lt 0 counter.left) (begins counter first.now) counter first.now (last_of start earlier)
            id refl
            le (subst (λ (l : IdCounter). IsIdCounter l (last_of start earlier)) one known.has) is;
      }

  since_known : (between : List Asked) → NeverFall start (between ++ first ∷ earlier)
      → At (counters_since start (between ++ first ∷ earlier)) (counter_of first.to)
      (IsSince (last_of start (between ++ first ∷ earlier)))
  since_known [] order =
      let within : counter_of first.to < 16 = omega arith in
      given_at (counters_since start earlier) (slice_get (counters_since start earlier) (counter_of first.to)) refl
      (counters_known start earlier (counter_of first.to) within order.1) order.0 is
  since_known (asked ∷ between) order =
      let last = last_of start (between ++ first ∷ earlier) in
      at_after (IsSince last) (IsSince (ms_of asked.now)) asked.now
      (λ counter h. since_later counter last (ms_of asked.now) (ms_of first.now) id order.0 h)
      (λ counter h. since_on (nat_lt 0 counter.left) (begins counter asked.now) counter asked.now last (ms_of first.now)
      id refl
      refl order.0 h)
      (counters_since start (between ++ first ∷ earlier)) asked.to (counter_of first.to) (since_known between order.1)

  given_again : (counters : List IdCounter) (now : Moment) (last : ℕ) (some : Option IdCounter)
      → slice_get counters (counter_of first.to) ≡ some
      → At counters (counter_of first.to) (IsSince last) → last ≤ ms_of now → allotted_by some now ≡ Some id
      → ms_of first.now + 247000 < ms_of now
  given_again counters now last None at known le is = absurd (cc)
  given_again counters now last (Some counter) at known le is =
      let same : Some known.counter ≡ Some counter = sym known.stands ∙ at in
      let one : known.counter ≡ counter = cc in
      again (nat_lt 0 counter.left) (begins counter now) counter now last (ms_of first.now) id refl refl le
      (subst (IsSince last) one known.has) is

pub apart : (start : Moment) (to : Addr) (id : ℕ) (first last : Moment) → IsGivenTwice start to id first last
    → ms_of first + 247000 < ms_of last
apart start to id first last h =
    let one : Asked = record { now = first; to = to } in
    let counters = counters_since start (h.between ++ one ∷ h.earlier) in
    given_again start h.earlier one id h.first_given counters last (last_of start (h.between ++ one ∷ h.earlier))
    (slice_get counters (counter_of to)) refl
    (since_known start h.earlier one id h.first_given h.between h.in_order.1) h.in_order.0 h.last_given
