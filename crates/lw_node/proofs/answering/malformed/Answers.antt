use Rattle.std.proofs.Common.{subst}
use Rattle.lw_coap.specs.Header.{HasHeader}
use Rattle.lw_node.proofs.answering.malformed.Goals as goal

pub returns-in-Some-Con-default-default-clause-silent :
    goal.returns-in-Some-Con-default-default-clause-silent
returns-in-Some-Con-default-default-clause-silent c = λ none.
    let h = c.in-Some-Con-default-default in
    absurd (none h.field-0-1 h.mid (subst (λ kind. HasHeader c.args.bytes.now kind h.field-0-1 h.mid) h.field-0-0-is h.ensures.header))
