-- Results that are held against transcripts one by one.
use Rattle.std.proofs.Common.{◌≡◌, ℕ, ◌+◌, ◌<◌, ◌≤◌, List, length, Some, refl, sym, ap, ◌∙◌, subst, ◌⊎◌, inl, inr, arith}
use Rattle.std.specs.Prelude.{set, slice_get, slice_index}
use Rattle.std.proofs.Math.ListN.{get_or, length-set}
use Rattle.std.proofs.lemmas.List.{get_or-set_same, get_or-set_other}
use Rattle.std.proofs.lemmas.Option.{get_or_from_slice_get, slice_get_within}
use Rattle.std.proofs.lemmas.Bool.{cases_lt}
use borrow.Author.Count.{below_more}
use Rattle.lw_held.specs.declared.shelf.Shelf.{Shelf}
use Rattle.lw_held.specs.Agree.{AreDistinct}
use Rattle.lw_held.specs.Transcript.{Transcript}
use Rattle.lw_crew.specs.declared.job.Job.{Job}
use Rattle.lw_crew.specs.declared.job.Done.{Done}
use Rattle.lw_crew.specs.declared.job.JobOutcome.{JobOutcome}
use Rattle.lw_crew.specs.declared.job.JobOutcome.TheVariants.{At, NoMemory, NoSuchNode}
use Rattle.lw_crew.specs.inner.Claims.{AreTrueBelow, Claims, Holds, IsAt, IsTold, MayBeTold, MayClaim, MayHold}
use Rattle.lw_crew.specs.Jobs.{AreTrue, HasMade, IsGained, IsOutcome, IsPartOf}
use Rattle.lw_crew.specs.Refusals.{IsTrueAt}
use Rattle.lw_crew.specs.inner.Refusals.{AreTrueTo}
use Rattle.lw_crew.proofs.Slots.{equal_or_not, same_some}

-- ---- one result more
-- the least numbers that may come next only rise
pub record Rises (old new : List ℕ) (after : List Transcript) (outcome : JobOutcome) : Type 0 where
  pub len : length new ≡ length old
  pub up : (i : ℕ) → slice_index old i ≤ slice_index new i
  pub free : (pass number place : ℕ) → IsPartOf outcome pass number → IsAt after pass place → slice_index old place ≤ number
  pub taken : (pass number place : ℕ) → IsPartOf outcome pass number → IsAt after pass place → number < slice_index new place
  pub last : (place : ℕ) → (slice_index new place ≡ slice_index old place) ⊎ ((pass : ℕ) × (number : ℕ) × IsPartOf outcome pass number × IsAt after pass place × (slice_index new place ≡ number + 1))

pub one_place : (after : List Transcript) (pass i k : ℕ) → AreDistinct after → IsAt after pass i → IsAt after pass k → i ≡ k
one_place after pass i k distinct one other = distinct i k one.pass other.pass one.is other.is (one.number_is ∙ sym other.number_is)

claims_rise : (old new : List ℕ) (after : List Transcript) (job : Job) (pass number : ℕ) → length old ≡ length after → AreDistinct after → Claims old new after job pass number → Rises old new after (At pass number)
claims_rise old new after job pass number len distinct claim = record {
  len = ap length claim.next ∙ length-set old claim.place (number + 1);
  up = λ i. subst (λ ns. slice_index old i ≤ slice_index ns i) (sym claim.next) (up i);
  free = λ of at place is found.
      let same : claim.place ≡ place = one_place after pass claim.place place distinct claim.at (subst (λ p. IsAt after p place) (sym is.0) found) in
      let low : slice_index old claim.place ≤ number = claim.free in
      let here : slice_index old place ≤ number = subst (λ p. slice_index old p ≤ number) same low in
      omega (arith, here, is.1);
  taken = λ of at place is found.
      let same : claim.place ≡ place = one_place after pass claim.place place distinct claim.at (subst (λ p. IsAt after p place) (sym is.0) found) in
      let set_here : slice_index (set old claim.place (number + 1)) claim.place ≡ number + 1 = get_or-set_same old claim.place (number + 1) 0 within in
      let new_here : slice_index new place ≡ number + 1 = subst (λ p. slice_index new p ≡ number + 1) same (ap (λ ns. slice_index ns claim.place) claim.next ∙ set_here) in
      omega (arith, new_here, is.1);
  last = λ place. subst (λ ns. (slice_index ns place ≡ slice_index old place) ⊎ ((of : ℕ) × (at : ℕ) × IsPartOf (At pass number) of at × IsAt after of place × (slice_index ns place ≡ at + 1))) (sym claim.next) (last place);
}
  where
    within : claim.place < length old
    within = let l = slice_get_within after claim.place claim.at.pass claim.at.is in omega (arith, l, len)

    up : (i : ℕ) → slice_index old i ≤ slice_index (set old claim.place (number + 1)) i
    up i = elim (equal_or_not i claim.place) [
      | inl e ↦
          let low : slice_index old claim.place ≤ number = claim.free in
          let here : slice_index old i ≤ number = subst (λ p. slice_index old p ≤ number) (sym e) low in
          let high : slice_index (set old claim.place (number + 1)) i ≡ number + 1 = subst (λ p. slice_index (set old claim.place (number + 1)) p ≡ number + 1) (sym e) (get_or-set_same old claim.place (number + 1) 0 within) in
          omega (arith, here, high)
      | inr n ↦
          let same : slice_index (set old claim.place (number + 1)) i ≡ slice_index old i = get_or-set_other old claim.place i (number + 1) 0 n in
          omega (arith, same)
    ]

    last : (place : ℕ) → (slice_index (set old claim.place (number + 1)) place ≡ slice_index old place) ⊎ ((of : ℕ) × (at : ℕ) × IsPartOf (At pass number) of at × IsAt after of place × (slice_index (set old claim.place (number + 1)) place ≡ at + 1))
    last place = elim (equal_or_not place claim.place) [
      | inl e ↦
          let high : slice_index (set old claim.place (number + 1)) place ≡ number + 1 = subst (λ p. slice_index (set old claim.place (number + 1)) p ≡ number + 1) (sym e) (get_or-set_same old claim.place (number + 1) 0 within) in
          inr (pass, number, (refl, refl), subst (λ p. IsAt after pass p) (sym e) claim.at, high)
      | inr n ↦ inl (get_or-set_other old claim.place place (number + 1) 0 n)
    ]

stays : (old new : List ℕ) (after : List Transcript) (outcome : JobOutcome) → ((pass number : ℕ) → ¬ IsPartOf outcome pass number) → new ≡ old → Rises old new after outcome
stays old new after outcome none same = record {
  len = ap length same;
  up = λ i. let e : slice_index new i ≡ slice_index old i = ap (λ ns. slice_index ns i) same in omega (arith, e);
  free = λ pass number place is found. absurd (none pass number is);
  taken = λ pass number place is found. absurd (none pass number is);
  last = λ place. inl (ap (λ ns. slice_index ns place) same);
}

rises : (shelves : List Shelf) (old new : List ℕ) (after : List Transcript) (job : Job) (outcome : JobOutcome) → length old ≡ length after → AreDistinct after → Holds shelves old new after job outcome → Rises old new after outcome
rises shelves old new after job (At pass number) len distinct holds = claims_rise old new after job pass number len distinct holds.1
rises shelves old new after job NoMemory len distinct holds = stays old new after NoMemory (λ pass number is. is) holds.1
rises shelves old new after job NoSuchNode len distinct holds = stays old new after NoSuchNode (λ pass number is. is) holds.1

outcome_of : (shelves : List Shelf) (before old new : List ℕ) (after : List Transcript) (job : Job) (outcome : JobOutcome) → ((i : ℕ) → slice_index before i ≤ slice_index old i) → Holds shelves old new after job outcome → IsOutcome shelves before after job outcome
outcome_of shelves before old new after job (At pass number) above holds =
    let claim = holds.1 in (
      holds.0,
      record {
        place = claim.place;
        gainer = claim.at.pass;
        is = claim.at.is;
        pass_is = claim.at.number_is;
        beyond = (let up = above claim.place in let low = claim.free in omega (arith, up, low));
        made = claim.made;
      },
    )
outcome_of shelves before old new after job NoMemory above holds = holds.0
outcome_of shelves before old new after job NoSuchNode above holds = holds.0

pub none_yet : (shelves : List Shelf) (before : List ℕ) (after : List Transcript) (jobs : List Job) (dones : List Done) → AreTrueBelow shelves before before after jobs dones 0
none_yet shelves before after jobs dones = record {
  len = refl;
  above = λ i. omega arith;
  each = λ i done l. absurd (omega (arith, l));
  behind = λ i place pass number done l. absurd (omega (arith, l));
  rising = λ i k pass number more one other l m. absurd (omega (arith, m));
  last = λ place. inl refl;
}

-- the pass of a part that a result tells of is there
pub found : (shelves : List Shelf) (old new : List ℕ) (after : List Transcript) (job : Job) (outcome : JobOutcome) (pass number : ℕ) → Holds shelves old new after job outcome → IsPartOf outcome pass number → (place : ℕ) × IsAt after pass place
found shelves old new after job (At of at) pass number holds is = (holds.1.place, subst (λ p. IsAt after p holds.1.place) is.0 holds.1.at)
found shelves old new after job NoMemory pass number holds is = absurd is
found shelves old new after job NoSuchNode pass number holds is = absurd is

pub one_more : (shelves : List Shelf) (before old new : List ℕ) (after : List Transcript) (jobs : List Job) (dones : List Done) (n : ℕ) (done : Done) → length before ≡ length after → AreDistinct after → slice_get dones n ≡ Some done → IsTold shelves old new after jobs done
    → AreTrueBelow shelves before old after jobs dones n → AreTrueBelow shelves before new after jobs dones (n + 1)
one_more shelves before old new after jobs dones n done len distinct item told known = record {
  len = rise.len ∙ known.len;
  above = λ i. (let a = known.above i in let b = rise.up i in omega (arith, a, b));
  each = λ i x l at. below_more (λ j. (y : Done) → slice_get dones j ≡ Some y → (job : Job) × (slice_get jobs y.job ≡ Some job) × IsOutcome shelves before after job y.result) n
      (λ j m y there. known.each j y m there)
      (λ y there. subst (λ (z : Done). (job : Job) × (slice_get jobs z.job ≡ Some job) × IsOutcome shelves before after job z.result) (same_some done y _ item there) (told.job, told.is, outcome_of shelves before old new after told.job done.result known.above told.holds))
      i l x at;
  behind = λ i place pass number x l at is has. below_more (λ j. (y : Done) → slice_get dones j ≡ Some y → IsPartOf y.result pass number → number < slice_index new place) n
      (λ j m y there part. (let a = known.behind j place pass number y m there part has in let b = rise.up place in omega (arith, a, b)))
      (λ y there part. rise.taken pass number place (subst (λ (z : Done). IsPartOf z.result pass number) (sym (same_some done y _ item there)) part) has)
      i l x at is;
  rising = λ i k pass number more one other l m at there first second. below_more (λ j. i < j → (y : Done) → slice_get dones j ≡ Some y → IsPartOf y.result pass more → number < more) n
      (λ j less under y where_ part. known.rising i j pass number more one y under less at where_ first part)
      (λ under y where_ part.
      let mine : IsPartOf done.result pass more = subst (λ (z : Done). IsPartOf z.result pass more) (sym (same_some done y _ item where_)) part in
      let place = found shelves old new after told.job done.result pass more told.holds mine in
      let low = rise.free pass more place.0 mine place.1 in
      let high = known.behind i place.0 pass number one under at first place.1 in
      omega (arith, low, high))
      k m l other there second;
  last = λ place. elim (rise.last place) [
    | inl same ↦ elim (known.last place) [
      | inl first ↦ inl (same ∙ first)
      | inr w ↦ inr (record { i = w.i; done = w.done; pass = w.pass; number = w.number; below = (let l = w.below in omega (arith, l)); at = w.at; told = w.told; there = w.there; next_is = same ∙ w.next_is })
    ]
    | inr w ↦ inr (record { i = n; done = done; pass = w.0; number = w.1; below = omega arith; at = item; told = w.2; there = w.3; next_is = w.4 })
  ];
}
  where
    rise : Rises old new after done.result
    rise = rises shelves old new after told.job done.result (known.len ∙ len) distinct told.holds

-- ---- all results
pub all_true : (shelves : List Shelf) (before next : List ℕ) (after : List Transcript) (jobs : List Job) (dones : List Done) (n : ℕ) → length dones ≤ n → AreTrueBelow shelves before next after jobs dones n → AreTrue shelves before after jobs dones
all_true shelves before next after jobs dones n whole known = record {
  each = λ i done at. known.each i done (inside i done at) at;
  apart = λ i k pass number one other at there first second. elim (cases_lt i k) [
    | inl l ↦ (let less : number < number = known.rising i k pass number number one other l (inside k other there) at there first second in absurd (omega (arith, less)))
    | inr l ↦ elim (cases_lt k i) [
      | inl m ↦ (let less : number < number = known.rising k i pass number number other one m (inside i one at) there at second first in absurd (omega (arith, less)))
      | inr m ↦ omega (arith, l, m)
    ]
  ];
}
  where
    inside : (i : ℕ) (done : Done) → slice_get dones i ≡ Some done → i < n
    inside i done at = let l = slice_get_within dones i done at in omega (arith, l, whole)

pub each_true : (shelves : List Shelf) (before next : List ℕ) (after : List Transcript) (jobs : List Job) (dones : List Done) (n m : ℕ) → m ≤ n → AreTrueBelow shelves before next after jobs dones n → AreTrueTo shelves before after jobs dones m
each_true shelves before next after jobs dones n m low known = λ i done l at.
    let under : i < n = omega (arith, l, low) in
    let w = known.each i done under at in
    record {
      job = w.0;
      is = w.1;
      outcome = w.2;
      later = λ k pass earlier number other less there one two. known.rising k i pass earlier number other done less under there at one two;
    }

-- ---- what is true is told
may_hold : (shelves : List Shelf) (before next : List ℕ) (after : List Transcript) (jobs : List Job) (dones : List Done) (n : ℕ) (job : Job) (outcome : JobOutcome) → AreTrueBelow shelves before next after jobs dones n
    → IsOutcome shelves before after job outcome
    → ((k pass earlier number : ℕ) (other : Done) → k < n → slice_get dones k ≡ Some other → IsPartOf other.result pass earlier → IsPartOf outcome pass number → earlier < number)
    → MayHold shelves next after job outcome
may_hold shelves before next after jobs dones n job NoMemory known is later = is
may_hold shelves before next after jobs dones n job NoSuchNode known is later = is
may_hold shelves before next after jobs dones n job (At pass number) known is later = (is.0, record { place = gain.place; at = here; free = free; made = gain.made })
  where
    gain : IsGained before after job pass number
    gain = is.1

    here : IsAt after pass gain.place
    here = record { pass = gain.gainer; is = gain.is; number_is = gain.pass_is }

    free : slice_index next gain.place ≤ number
    free = elim (known.last gain.place) [
      | inl same ↦ (let low = gain.beyond in omega (arith, same, low))
      | inr w ↦
          let same : w.there.pass ≡ gain.gainer = same_some w.there.pass gain.gainer _ w.there.is gain.is in
          let of : pass ≡ w.pass = sym gain.pass_is ∙ ap (λ (t : Transcript). t.number) (sym same) ∙ w.there.number_is in
          let less : w.number < number = later w.i w.pass w.number number w.done w.below w.at w.told (of, refl) in
          let high = w.next_is in
          omega (arith, less, high)
    ]

pub may_be_told : (shelves : List Shelf) (before next : List ℕ) (after : List Transcript) (jobs : List Job) (dones : List Done) (n : ℕ) (done : Done) → AreTrueBelow shelves before next after jobs dones n → IsTrueAt shelves before after jobs dones n done → MayBeTold shelves next after jobs done
may_be_told shelves before next after jobs dones n done known is = record {
  job = is.job;
  is = is.is;
  holds = may_hold shelves before next after jobs dones n is.job done.result known is.outcome is.later;
}

-- ---- a part that cannot be claimed
pub no_claim_below : (old : List ℕ) (after : List Transcript) (job : Job) (pass number place : ℕ) → AreDistinct after → IsAt after pass place → number < slice_index old place → ¬ MayClaim old after job pass number
no_claim_below old after job pass number place distinct at low may =
    let same : may.place ≡ place = one_place after pass may.place place distinct may.at at in
    let free : slice_index old may.place ≤ number = may.free in
    let here : slice_index old place ≤ number = subst (λ p. slice_index old p ≤ number) same free in
    omega (arith, here, low)

pub may_made : (old : List ℕ) (after : List Transcript) (job : Job) (pass number place : ℕ) (made : Transcript) → AreDistinct after → IsAt after pass place → made ≡ get_or after place made → MayClaim old after job pass number → HasMade made number job
may_made old after job pass number place made distinct at is may =
    let same : may.place ≡ place = one_place after pass may.place place distinct may.at at in
    let here : slice_get after place ≡ Some may.at.pass = subst (λ p. slice_get after p ≡ Some may.at.pass) same may.at.is in
    let e : made ≡ may.at.pass = is ∙ get_or_from_slice_get after place may.at.pass made here in
    subst (λ (t : Transcript). HasMade t number job) (sym e) may.made
