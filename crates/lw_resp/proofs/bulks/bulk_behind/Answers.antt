use Rattle.std.proofs.Common.{ℕ, List, Bor}
use Rattle.lw_resp.specs.inner.Parts.{IsAtMost, number_ended}
use Rattle.lw_resp.proofs.Composed.{read_some, read_none}
use Rattle.lw_resp.proofs.BulkLemmas.{bulk_reads, bulk_cut, bulk_malformed}
use Rattle.lw_resp.proofs.bulks.bulk_behind.Goals as goal

pub returns-in-Ok-Some : goal.returns-in-Ok-Some
returns-in-Ok-Some c =
    let line = read_some (IsAtMost 536870912) number_ended c.args.bytes.now (λ (x : ℕ × Bor (List ℕ)). x.0) (λ x. x.1.now) c.in-Ok-Some.field-0 (c.in-Ok-Some.length, c.in-Ok-Some.behind) c.in-Ok-Some.field-0-is c.in-Ok-Some.ensures in
    bulk_reads c.in-Ok-Some.length c.args.bytes.now c.in-Ok-Some.behind.now (λ x. x.0.now) (λ x. x.1.now) line c.content.result c.content.ensures

pub returns-in-Ok-None : goal.returns-in-Ok-None
returns-in-Ok-None c = bulk_cut c.args.bytes.now (read_none (IsAtMost 536870912) number_ended c.args.bytes.now (λ (x : ℕ × Bor (List ℕ)). x.0) (λ x. x.1.now) c.in-Ok-None.field-0 c.in-Ok-None.field-0-is c.in-Ok-None.ensures)

pub returns-in-Err : goal.returns-in-Err
returns-in-Err c = bulk_malformed c.args.bytes.now c.in-Err.ensures
