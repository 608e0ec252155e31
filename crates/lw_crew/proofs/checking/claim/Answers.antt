use Rattle.std.proofs.Common.{◌≡◌, ◌<◌, length, subst, ◌∙◌, refl, true, false, arith}
use Rattle.std.proofs.lemmas.Option.{get_or_from_slice_get, slice_get_within}
use Rattle.lw_held.specs.Transcript.{Transcript}
use Rattle.lw_crew.specs.Jobs.{HasMade}
use Rattle.lw_crew.proofs.Claiming.{may_made, no_claim_below}
use Rattle.lw_crew.proofs.checking.claim.Goals as goal

pub bounds-after-place : goal.bounds-after-place
bounds-after-place c = slice_get_within c.args.after.now c.in-Some.place c.in-Some.ensures.found.pass c.in-Some.ensures.found.is

pub bounds-next-place : goal.bounds-next-place
bounds-next-place c =
    let l : c.in-Some.place < length c.args.after.now = slice_get_within c.args.after.now c.in-Some.place c.in-Some.ensures.found.pass c.in-Some.ensures.found.is in
    omega arith

pub bounds-next-place-2 : goal.bounds-next-place-2
bounds-next-place-2 c =
    let l : c.in-Some.place < length c.args.after.now = slice_get_within c.args.after.now c.in-Some.place c.in-Some.ensures.found.pass c.in-Some.ensures.found.is in
    omega arith

pub returns-clause-claimed : goal.returns-clause-claimed
returns-clause-claimed c =
    let at = c.in-Some.ensures.found in
    let same : c.index-after-place.result ≡ at.pass = c.index-after-place.is ∙ get_or_from_slice_get c.args.after.now c.in-Some.place at.pass c.index-after-place.result at.is in
    λ yes. record {
      place = c.in-Some.place;
      at = at;
      free = c.if-number-next.false;
      made = subst (λ (made : Transcript). HasMade made c.args.number c.args.job.now) same (c.if-not-has_made.ensures.0 yes);
      next = refl;
    }

pub returns-in_default-clause-refused : goal.returns-in_default-clause-refused
returns-in_default-clause-refused c = λ no may. c.in_default.ensures.none may.place may.at

pub returns-then-number-next-clause-refused : goal.returns-then-number-next-clause-refused
returns-then-number-next-clause-refused c = λ no. no_claim_below c.args.next.now c.args.after.now c.args.job.now c.args.pass c.args.number c.in-Some.place c.requires.passes c.in-Some.ensures.found c.if-number-next.true

pub returns-then-number-len-clause-refused : goal.returns-then-number-len-clause-refused
returns-then-number-len-clause-refused c = λ no may.
    let h = may_made c.args.next.now c.args.after.now c.args.job.now c.args.pass c.args.number c.in-Some.place c.index-after-place.result c.requires.passes c.in-Some.ensures.found c.index-after-place.is may in
    let l = slice_get_within c.index-after-place.result.parts c.args.number h.part h.is in
    omega (arith, l)

pub returns-then-not-has_made-clause-refused : goal.returns-then-not-has_made-clause-refused
returns-then-not-has_made-clause-refused c = λ no may.
    let h = may_made c.args.next.now c.args.after.now c.args.job.now c.args.pass c.args.number c.in-Some.place c.index-after-place.result c.requires.passes c.in-Some.ensures.found c.index-after-place.is may in
    let e : false ≡ true = c.if-not-has_made.ensures.1 h in
    cc
