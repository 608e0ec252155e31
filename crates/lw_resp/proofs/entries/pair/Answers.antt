use Rattle.std.proofs.Common.{ℕ, List, Bor}
use Rattle.lw_resp.specs.Bytes.{bulk_bytes}
use Rattle.lw_resp.specs.Words.{IsBulk}
use Rattle.lw_resp.proofs.Composed.{read_some, read_none}
use Rattle.lw_resp.proofs.EntryLemmas.{id_cut, id_malformed, pair_reads}
use Rattle.lw_resp.proofs.entries.pair.Goals as goal

pub returns-in-Ok-Some : goal.returns-in-Ok-Some
returns-in-Ok-Some c =
    let begins = read_some IsBulk bulk_bytes c.args.bytes.now (λ (x : Bor (List ℕ) × Bor (List ℕ)). x.0.now) (λ x. x.1.now) c.in-Ok-Some.field-0 (c.in-Ok-Some.id, c.in-Ok-Some.behind) c.in-Ok-Some.field-0-is c.in-Ok-Some.ensures in
    pair_reads c.args.bytes.now c.in-Ok-Some.id.now c.in-Ok-Some.behind.now (λ x. x.0) (λ x. x.1.now) begins c.entry_with.result c.entry_with.ensures

pub returns-in-Ok-None : goal.returns-in-Ok-None
returns-in-Ok-None c = id_cut c.args.bytes.now (read_none IsBulk bulk_bytes c.args.bytes.now (λ (x : Bor (List ℕ) × Bor (List ℕ)). x.0.now) (λ x. x.1.now) c.in-Ok-None.field-0 c.in-Ok-None.field-0-is c.in-Ok-None.ensures)

pub returns-in-Err : goal.returns-in-Err
returns-in-Err c = id_malformed c.args.bytes.now c.in-Err.ensures
