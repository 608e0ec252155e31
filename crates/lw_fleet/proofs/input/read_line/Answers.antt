use Rattle.std.proofs.Common.{arith, inl, inr}
use Rattle.lw_fleet.proofs.InputLemmas.{ends, goes_on, at_end, too_long}
use Rattle.lw_fleet.proofs.input.read_line.Goals as goal

pub returns-in_err-add_part-clause-too_long : goal.returns-in_err-add_part-clause-too_long
returns-in_err-add_part-clause-too_long g c = λ e.
    too_long _ _ _ _ _ _ c.loop-line.line.items c.loop-line.invariant.begun c.in_ok-count.ensures.bytes c.before_feed-part.ensures _
    (let fault = rw e at (c.from_residual-in_err-add_part.ensures.1) in omega (arith, c.in_err-add_part.ensures.too_long (cc fault), c.loop-line.line.ok.0))

pub returns-then-count-eq0-clause-line : goal.returns-then-count-eq0-clause-line
returns-then-count-eq0-clause-line g c =
    let part = c.before_feed-part.ensures in
    let begun = c.loop-line.invariant.begun in
    let read = c.in_ok-count.ensures in
    let added = c.in_ok-add_part.ensures.added in
    elim c.then-count-eq0.either [
      | inl none ↦ at_end _ _ _ _ _ _ _ begun read.bytes part added (omega arith) (read.end none (omega arith))
      | inr fewer ↦ ends _ _ _ _ _ _ _ begun read.bytes part added (omega arith)
    ]

pub loop-line-preserved : goal.loop-line-preserved
loop-line-preserved g c =
    let read = c.in_ok-count.ensures in record {
      begun = goes_on _ _ _ _ _ _ _ c.loop-line.invariant.begun read.bytes c.before_feed-part.ensures c.in_ok-add_part.ensures.added (omega arith);
      fits = c.in_ok-add_part.ensures.fits;
    }

pub returns-then-count-eq0-clause-fits : goal.returns-then-count-eq0-clause-fits
returns-then-count-eq0-clause-fits g c = c.in_ok-add_part.ensures.fits
