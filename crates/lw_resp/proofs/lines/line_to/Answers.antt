use Rattle.std.proofs.Common.{ℕ, List, [], ◌∷◌, Bor}
use Rattle.lw_resp.specs.inner.Parts.{AreThese, as_they_are}
use Rattle.lw_resp.proofs.Composed.{read_some, read_none}
use Rattle.lw_resp.proofs.LineLemmas.{cut_at, whole_line, returned_line, broken_line}
use Rattle.lw_resp.proofs.lines.line_to.Goals as goal

pub returns-in-Ok-Some : goal.returns-in-Ok-Some
returns-in-Ok-Some c =
    let at = cut_at c.args.bytes.now c.split_at.result.0.now c.split_at.result.1.now c.args.place c.requires c.split_at.ensures.front c.split_at.ensures.back in
    let begins = read_some (AreThese (13 ∷ 10 ∷ [])) as_they_are c.split_at.result.1.now (λ (x : Bor (List ℕ)). 13 ∷ 10 ∷ []) (λ x. x.now) c.in-Ok-Some.field-0 c.in-Ok-Some.rest c.in-Ok-Some.field-0-is c.in-Ok-Some.ensures in
    whole_line c.args.bytes.now c.split_at.result.0.now c.split_at.result.1.now c.in-Ok-Some.rest.now at begins.written

pub returns-in-Ok-None : goal.returns-in-Ok-None
returns-in-Ok-None c =
    let at = cut_at c.args.bytes.now c.split_at.result.0.now c.split_at.result.1.now c.args.place c.requires c.split_at.ensures.front c.split_at.ensures.back in
    returned_line c.args.bytes.now c.split_at.result.0.now c.split_at.result.1.now at (read_none (AreThese (13 ∷ 10 ∷ [])) as_they_are c.split_at.result.1.now (λ (x : Bor (List ℕ)). 13 ∷ 10 ∷ []) (λ x. x.now) c.in-Ok-None.field-0 c.in-Ok-None.field-0-is c.in-Ok-None.ensures)

pub returns-in-Err : goal.returns-in-Err
returns-in-Err c =
    let at = cut_at c.args.bytes.now c.split_at.result.0.now c.split_at.result.1.now c.args.place c.requires c.split_at.ensures.front c.split_at.ensures.back in
    broken_line c.args.bytes.now c.split_at.result.0.now c.split_at.result.1.now at c.in-Err.ensures
