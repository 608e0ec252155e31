use Rattle.std.proofs.Common.{List, ℕ, subst}
use Rattle.lw_link.specs.declared.state.State.TheVariants.{Word}
use Rattle.lw_link.specs.inner.Taking.{TakesText}
use Rattle.lw_link.proofs.Parts.{value_plain}
use Rattle.lw_link.proofs.reading.value.Goals as goal

pub returns-clause-taken : goal.returns-clause-taken
returns-clause-taken c =
    let other = c.if-take_if.ensures in
    value_plain c.args.scanner.now c.take_if.new.self c.run_of.new.scanner c.in_ok-run_of.field-0 c.if-not-take_if.ensures c.requires.whole other.1
    (subst (λ (x : List ℕ). TakesText Word c.in_ok-run_of.field-0 x c.run_of.new.scanner) other.0 c.in_ok-run_of.ensures.taken)
