use Rattle.std.proofs.Common.{sym, subst}
use Rattle.lw_messaging.specs.Fetches.{FetchesContent, AreBounded}
use Rattle.lw_messaging.proofs.FetchLemmas.{changed_bounded}
use Rattle.lw_messaging.proofs.fetches.Fetches.take_message.Goals as goal

pub invariant_of-self-2 : goal.invariant_of-self-2
invariant_of-self-2 c =
    subst (λ (s : FetchesContent). AreBounded s.fetches) (sym c.in_ok-carry_out.ensures.done)
    (changed_bounded (record { next = c.self.inside.next; fetches = c.self.inside.fetches.items })
    c.in_ok-decision.decision.change c.self.invariant c.in_ok-decision.ensures.sound)

pub returns-clause-bounded : goal.returns-clause-bounded
returns-clause-bounded c =
    subst (λ (s : FetchesContent). AreBounded s.fetches) (sym c.in_ok-carry_out.ensures.done)
    (changed_bounded (record { next = c.self.inside.next; fetches = c.self.inside.fetches.items })
    c.in_ok-decision.decision.change c.self.invariant c.in_ok-decision.ensures.sound)
