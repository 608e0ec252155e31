use Rattle.registry.proofs.RunLemmas.{on_ok, told_line}
use Rattle.registry.proofs.running.take_line.Goals as goal

pub returns-in-Ok : goal.returns-in-Ok
returns-in-Ok g c = on_ok c.write.result _ _ c.write.ensures (λ appended. told_line _ _ _ _ _ _ _ c.in-Ok.ensures c.as_bytes.ensures.value appended)
