use Rattle.std.proofs.Common.{◌≡◌, ◌∙◌, ◌<◌, inl, inr, true, false, Some, length, ap, sym, subst, arith}
use Rattle.lw_recent.specs.Entries.{pairs_in}
use Rattle.lw_recent.specs.inner.Entries.{shown_at}
use Rattle.lw_recent.specs.Recent.{IsUnder}
use Rattle.lw_recent.proofs.EntryLemmas.{hole_less, hole_rises, hole_old, hole_new, hole_there, pair_of}
use Rattle.lw_recent.proofs.entry.take_out.Goals as goal

pub loop-index-smaller : goal.loop-index-smaller
loop-index-smaller c =
    let xs = c.loop-index.entries.items in
    let at : shown_at xs c.in-Some.index ≡ Some (c.args.number, c.args.place) = rw (sym c.deref.ensures.value) c.in-Some.ensures.some in
    let less = hole_less xs c.in-Some.index (c.args.number, c.args.place) at in
    let same = ap (λ l. length (pairs_in l)) c.empty_at.ensures.hole in
    let smaller : length (pairs_in c.empty_at.new.entries.items) < length (pairs_in xs) = omega (arith, less, same) in smaller

pub loop-index-preserved : goal.loop-index-preserved
loop-index-preserved c =
    let xs = c.loop-index.entries.items in
    let i = c.in-Some.index in
    let was = c.loop-index.invariant in
    let hole = c.empty_at.ensures.hole in
    let at : shown_at xs i ≡ Some (c.args.number, c.args.place) = rw (sym c.deref.ensures.value) c.in-Some.ensures.some in
    record {
      rises = rw hole (hole_rises xs i was.rises);
      old = λ n p h. was.old n p (hole_old xs i (n, p) (subst (λ l. IsUnder (pairs_in l) n p) hole h));
      rest = λ n p h. elim (was.rest n p h) [
        | inl there ↦ elim (hole_new xs i (n, p) there) [
          | inl kept ↦ inl (subst (λ l. IsUnder (pairs_in l) n p) (sym hole) kept)
          | inr is ↦ inr (pair_of (shown_at xs i) c.args.number n c.args.place p at is)
        ]
        | inr pair ↦ inr pair
      ];
      capacity = c.empty_at.ensures.capacity ∙ was.capacity;
      hole = λ stood. rw hole (hole_there xs i (omega (arith, c.in-Some.ensures.within, ap length c.deref.ensures.value)));
      none = λ no. absurd (let bad : true ≡ false = no in cc);
    }

pub returns-clause-drops : goal.returns-clause-drops
returns-clause-drops c = λ n p.
    let was = c.loop-index.invariant in (
      λ h. (was.old n p h, λ pair. c.in_default.ensures.none (rw c.deref.ensures.value (subst (λ m. IsUnder (pairs_in c.loop-index.entries.items) m c.args.place) pair.0 (subst (λ d. IsUnder (pairs_in c.loop-index.entries.items) n d) pair.1 h)))),
      λ h. elim (was.rest n p h.0) [ inl there ↦ there | inr pair ↦ absurd (h.1 pair) ],
    )

pub returns-clause-none : goal.returns-clause-none
returns-clause-none c = λ no there. c.in_default.ensures.none (rw c.deref.ensures.value (c.loop-index.invariant.none no there))
