use Rattle.std.proofs.Common.{refl, rules}
use Rattle.lw_stamp.proofs.clock.Clock.next.Goals as goal

pub returns-clause-stamp : goal.returns-clause-stamp
returns-clause-stamp c = search rules

pub returns-clause-raised : goal.returns-clause-raised
returns-clause-raised c = search rules

pub returns-then-self-eq-END-clause-end : goal.returns-then-self-eq-END-clause-end
returns-then-self-eq-END-clause-end c = (λ _. c.if-self-eq-END.true, λ _. refl)

pub returns-then-self-eq-END-clause-stamp : goal.returns-then-self-eq-END-clause-stamp
returns-then-self-eq-END-clause-stamp c = tt

pub returns-then-self-eq-END-clause-raised : goal.returns-then-self-eq-END-clause-raised
returns-then-self-eq-END-clause-raised c = tt

pub returns-then-self-eq-END-clause-unchanged : goal.returns-then-self-eq-END-clause-unchanged
returns-then-self-eq-END-clause-unchanged c = search rules
