use Rattle.std.proofs.Common.{arith, subst}
use Rattle.lw_fleet.specs.CommandLine.{IsHostText, Writes}
use Rattle.lw_fleet.proofs.RedisLemmas.{if_none, no_parts, same_parts}
use Rattle.lw_fleet.proofs.redis_options.host_and_port.Goals as goal

pub returns-in_err-front-clause-none : goal.returns-in_err-front-clause-none
returns-in_err-front-clause-none c = if_none c.from_residual.result _ (no_parts c.args.text.now c.in_err-front.ensures.cases)

pub returns-in_err-host-clause-none : goal.returns-in_err-host-clause-none
returns-in_err-host-clause-none c =
    if_none c.from_residual-in_err-host.result _
    (λ host port given.
    let same = same_parts c.args.text.now c.in_ok-front.front.now c.in_ok-front.digits.now c.in_ok-front.ensures.cases host port given in
    c.in_err-host.ensures.none host (subst (λ t. IsHostText t host) same.0 given.host_text))

pub returns-in_err-port-clause-none : goal.returns-in_err-port-clause-none
returns-in_err-port-clause-none c =
    if_none c.from_residual-in_err-port.result _
    (λ host port given.
    let same = same_parts c.args.text.now c.in_ok-front.front.now c.in_ok-front.digits.now c.in_ok-front.ensures.cases host port given in
    let writes = subst (λ t. Writes t port) same.1 given.port_digits in
    c.in_err-port.ensures (writes.0, omega (arith, writes.1, given.port_fits.1)))

pub returns-then-port-eq0-clause-none : goal.returns-then-port-eq0-clause-none
returns-then-port-eq0-clause-none c = λ host port given.
    let same = same_parts c.args.text.now c.in_ok-front.front.now c.in_ok-front.digits.now c.in_ok-front.ensures.cases host port given in
    let writes = subst (λ t. Writes t port) same.1 given.port_digits in
    absurd (omega (arith, writes.1, given.port_fits.0, c.in_ok-port.ensures, c.if-port-eq0.true))
