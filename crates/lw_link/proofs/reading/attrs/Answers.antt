use Rattle.std.proofs.Common.{List, ℕ, subst, sym}
use Rattle.lw_link.specs.inner.Taking.{TakesAttrs}
use Rattle.lw_link.proofs.Parts.{attrs_end}
use Rattle.lw_link.proofs.reading.attrs.Goals as goal

pub returns-clause-taken : goal.returns-clause-taken
returns-clause-taken c =
    let end = c.loop-alloc-test.ensures in
    subst (λ (x : List ℕ). TakesAttrs c.loop-alloc.attrs.items c.args.scanner.now x) (sym end.0)
    (attrs_end c.args.scanner.now c.loop-alloc.scanner c.loop-alloc.attrs.items end.1 c.loop-alloc.invariant.0)
