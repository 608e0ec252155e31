use Rattle.std.proofs.Common.{ℕ, List, Bor}
use Rattle.lw_resp.specs.Bytes.{bulk_bytes}
use Rattle.lw_resp.specs.Words.{IsBulk}
use Rattle.lw_resp.proofs.Composed.{read_some, read_none}
use Rattle.lw_resp.proofs.EntryLemmas.{bad_name, named_reads, no_name}
use Rattle.lw_resp.proofs.entries.named_value.Goals as goal

pub returns-in-Ok-Some : goal.returns-in-Ok-Some
returns-in-Ok-Some c =
    let begins = read_some IsBulk bulk_bytes c.args.bytes.now (λ (x : Bor (List ℕ) × Bor (List ℕ)). x.0.now) (λ x. x.1.now) c.in-Ok-Some.field-0 (c.in-Ok-Some.name, c.in-Ok-Some.behind) c.in-Ok-Some.field-0-is c.in-Ok-Some.ensures in
    named_reads c.args.bytes.now c.in-Ok-Some.name.now c.in-Ok-Some.behind.now (λ x. x.0) (λ x. x.1.now) begins c.value_behind.result c.value_behind.ensures

pub returns-in-Ok-None : goal.returns-in-Ok-None
returns-in-Ok-None c = no_name c.args.bytes.now (read_none IsBulk bulk_bytes c.args.bytes.now (λ (x : Bor (List ℕ) × Bor (List ℕ)). x.0.now) (λ x. x.1.now) c.in-Ok-None.field-0 c.in-Ok-None.field-0-is c.in-Ok-None.ensures)

pub returns-in-Err : goal.returns-in-Err
returns-in-Err c = bad_name c.args.bytes.now c.in-Err.ensures
