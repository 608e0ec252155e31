use Rattle.std.proofs.Common.{ℕ, List, subst}
use Rattle.registry.specs.Line.{IsReceived}
use Rattle.registry.proofs.RunLemmas.{if_ok}
use Rattle.registry.proofs.line.read.Goals as goal

pub returns-in-Ok : goal.returns-in-Ok
returns-in-Ok c =
    if_ok c.read_text.result _ _ c.read_text.ensures (λ r is. subst (λ (text : List ℕ). IsReceived r.moment r.from r.datagram.items text) c.in-Ok.ensures.cases.0 is)
