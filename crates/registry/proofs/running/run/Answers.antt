use Rattle.registry.proofs.RunLemmas.{on_ok, prints, told_lines}
use Rattle.registry.proofs.running.run.Goals as goal

pub returns : goal.returns
returns g c =
    on_ok c.write.result _ _ c.write.ensures
    (λ appended. prints _ _ _ _ _ _ _ _ _ _ c.in_ok-input.ensures c.deref.ensures.value c.new-registry.ensures (told_lines _ _ _ _ _ _ _ c.deref-2.ensures.value c.in_ok-all.ensures c.in_ok-take_lines.ensures) c.in_ok-fleets.ensures c.as_bytes.ensures.value appended)
