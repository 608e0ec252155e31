use Rattle.std.proofs.Common.{None, Some, Option, sym, subst, ℕ}
use Rattle.lw_stamp.specs.Moment.{ms_of}
use Rattle.lw_reg.specs.Registration.{Registration}
use Rattle.lw_node.specs.Within.{FitsClock}
use Rattle.uses.specs.Finding.{IsFound}
use Rattle.uses.proofs.ReadBack.{is_found}
use Rattle.uses.proofs.finding.register_and_find.Goals as goal

pub returns-in_ok-to_seen-in-Some : goal.returns-in_ok-to_seen-in-Some
returns-in_ok-to_seen-in-Some c = λ r is left.
    let fits = subst (λ (n : ℕ). FitsClock n c.args.node.now.table.state) c.clock-clock.ensures.value c.clock-clock.ensures.within in
    subst (λ (x : Registration). IsFound r (ms_of c.args.now) c.args.from c.args.endpoint.now c.in_ok-taken.taken.reply (Some x)) (sym c.in_ok-to_seen-in-Some.ensures)
    (is_found c.args.node.now c.take.new.self r (ms_of c.args.now) c.args.from c.args.datagram.now c.args.endpoint.now is left fits c.in_ok-taken.taken (Some c.in-Some.shown) c.in_ok-taken.ensures.read c.in-Some.ensures.read)

pub returns-in-None : goal.returns-in-None
returns-in-None c = λ r is left.
    let fits = subst (λ (n : ℕ). FitsClock n c.args.node.now.table.state) c.clock-clock.ensures.value c.clock-clock.ensures.within in
    is_found c.args.node.now c.take.new.self r (ms_of c.args.now) c.args.from c.args.datagram.now c.args.endpoint.now is left fits c.in_ok-taken.taken None c.in_ok-taken.ensures.read c.in-None.ensures.read
