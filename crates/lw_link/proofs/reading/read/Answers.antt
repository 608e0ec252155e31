use Rattle.lw_link.specs.Spelling.{Spells}
use Rattle.std.proofs.Common.{◌≡◌, ◌≤◌, length}
use Rattle.lw_link.proofs.Outcomes.{answers, faults, memory, only, one_spelled}
use Rattle.lw_link.proofs.reading.read.Goals as goal

pub returns-clause-only : goal.returns-clause-only
returns-clause-only c =
    let bytes = c.args.bytes.now in
    λ links spells few.
    only bytes c.read_checked.result (λ v. Spells bytes v.items × (length v.items ≤ 256)) (λ v. v.items ≡ links) (links, spells, few) (λ v h. one_spelled bytes v.items links h.0 spells) c.read_checked.ensures.found c.read_checked.ensures.refused

pub returns-clause-faults : goal.returns-clause-faults
returns-clause-faults c =
    let bytes = c.args.bytes.now in
    faults bytes c.read_checked.result (answers bytes c.read_checked.result (λ v. Spells bytes v.items × (length v.items ≤ 256)) (λ v h. (v.items, h.0, h.1)) c.read_checked.ensures.found c.read_checked.ensures.refused)

pub returns-clause-memory : goal.returns-clause-memory
returns-clause-memory c =
    let bytes = c.args.bytes.now in
    memory bytes c.read_checked.result (answers bytes c.read_checked.result (λ v. Spells bytes v.items × (length v.items ≤ 256)) (λ v h. (v.items, h.0, h.1)) c.read_checked.ensures.found c.read_checked.ensures.refused)
