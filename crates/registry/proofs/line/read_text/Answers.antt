use Rattle.registry.proofs.RunLemmas.{if_ok}
use Rattle.registry.proofs.line.read_text.Goals as goal

pub returns-in-Some : goal.returns-in-Some
returns-in-Some c =
    if_ok c.spelled.result _ _ c.spelled.ensures (λ r is. record {
      moment = c.in-Some.moment.now;
      address = c.in-Some.address.now;
      digits = c.in-Some.digits.now;
      parted = c.in-Some.ensures;
      spelled = is;
    })
