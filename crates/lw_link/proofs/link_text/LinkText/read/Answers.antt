use Rattle.std.proofs.Common.{◌≡◌, ◌≤◌, ◌∙◌, List, length, ap}
use Rattle.lw_link.specs.Link.{LinkContent}
use Rattle.lw_link.specs.Spelling.{Spells}
use Rattle.lw_link.specs.Printing.{printing}
use Rattle.lw_link.proofs.Outcomes.{answers, faults, memory, only, one_spelled}
use Rattle.lw_link.proofs.link_text.LinkText.read.Goals as goal

pub returns-clause-only : goal.returns-clause-only
returns-clause-only c =
    let bytes = c.args.bytes.now in
    λ links spells few.
    only bytes c.read_checked.result (λ v. (found : List LinkContent) × Spells bytes found × (length found ≤ 256) × (v ≡ printing found)) (λ v. v ≡ printing links) (links, spells, few)
    (λ v h. h.3 ∙ ap printing (one_spelled bytes h.0 links h.1 spells)) c.read_checked.ensures.found c.read_checked.ensures.refused

pub returns-clause-faults : goal.returns-clause-faults
returns-clause-faults c =
    let bytes = c.args.bytes.now in
    faults bytes c.read_checked.result (answers bytes c.read_checked.result (λ v. (found : List LinkContent) × Spells bytes found × (length found ≤ 256) × (v ≡ printing found)) (λ v h. (h.0, h.1, h.2)) c.read_checked.ensures.found c.read_checked.ensures.refused)

pub returns-clause-memory : goal.returns-clause-memory
returns-clause-memory c =
    let bytes = c.args.bytes.now in
    memory bytes c.read_checked.result (answers bytes c.read_checked.result (λ v. (found : List LinkContent) × Spells bytes found × (length found ≤ 256) × (v ≡ printing found)) (λ v h. (h.0, h.1, h.2)) c.read_checked.ensures.found c.read_checked.ensures.refused)
