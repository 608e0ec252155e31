use Rattle.std.proofs.Common.{arith, subst, sym}
use Rattle.std.specs.Io.KnownBytes.{Consumes}
use Rattle.std.proofs.KnownBytes.{Consumes-trans}
use Rattle.lw_fleet.proofs.InputLemmas.{ended, more_than}
use Rattle.lw_fleet.proofs.input.read_all.Goals as goal

pub returns-then-count-eq0-clause-all : goal.returns-then-count-eq0-clause-all
returns-then-count-eq0-clause-all g c =
    let read = c.in_ok-count.ensures in
    ended _ _ _ _ _ _ c.loop-bytes.invariant.front read.bytes c.if-count-eq0.true (read.end c.if-count-eq0.true (omega arith))

pub returns-in_err-add_part-clause-too_long : goal.returns-in_err-add_part-clause-too_long
returns-in_err-add_part-clause-too_long g c = λ e.
    more_than _ _ _ _ _ _ c.loop-bytes.invariant.front c.in_ok-count.ensures.bytes
    (let fault = rw e at (c.from_residual-in_err-add_part.ensures.1) in omega (arith, c.in_err-add_part.ensures.too_long (cc fault)))

pub loop-bytes-preserved : goal.loop-bytes-preserved
loop-bytes-preserved g c = record {
  front = subst (Consumes (g.R.Read.remaining c.args.reader.now) (g.R.Read.remaining c.read_some.new.reader)) (sym c.in_ok-add_part.ensures.added)
      (Consumes-trans _ _ _ _ _ c.loop-bytes.invariant.front c.in_ok-count.ensures.bytes);
  fits = c.in_ok-add_part.ensures.fits;
}

pub returns-then-count-eq0-clause-fits : goal.returns-then-count-eq0-clause-fits
returns-then-count-eq0-clause-fits g c = c.loop-bytes.invariant.fits
