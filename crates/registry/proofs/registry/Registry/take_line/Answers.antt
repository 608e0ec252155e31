use Rattle.std.specs.Prelude.{string_bytes}
use Rattle.registry.proofs.StepLemmas.{takes_full, not_empty}
use Rattle.registry.proofs.RunLemmas.{if_ok}
use Rattle.registry.proofs.registry.Registry.take_line.Goals as goal

pub returns : goal.returns
returns c =
    if_ok c.receive.result _ _ c.receive.ensures
    (λ text is. takes_full _ _ _ _ _ (string_bytes text) c.receive.new.self (not_empty c.args.line.now c.is_empty.result c.is_empty.ensures c.if-is_empty.false) c.in_ok-received.ensures is)
