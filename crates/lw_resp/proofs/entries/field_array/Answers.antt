use Rattle.std.proofs.Common.{ℕ, List, Bor}
use Rattle.lw_resp.specs.Bytes.{count_line}
use Rattle.lw_resp.specs.inner.Parts.{IsAtMost}
use Rattle.lw_resp.proofs.Composed.{read_some, read_none}
use Rattle.lw_resp.proofs.EntryLemmas.{fields_read, no_fields, no_fields_cut}
use Rattle.lw_resp.proofs.entries.field_array.Goals as goal

pub returns-in-Ok-Some : goal.returns-in-Ok-Some
returns-in-Ok-Some c =
    let head = read_some (IsAtMost 9223372036854775807) (count_line 42) c.args.bytes.now (λ (x : ℕ × Bor (List ℕ)). x.0) (λ x. x.1.now) c.in-Ok-Some.field-0 (c.in-Ok-Some.number, c.in-Ok-Some.behind) c.in-Ok-Some.field-0-is c.in-Ok-Some.ensures in
    fields_read c.in-Ok-Some.number c.args.bytes.now c.in-Ok-Some.behind.now (λ x. x.0) (λ x. x.1.now) head c.fields.result c.fields.ensures

pub returns-in-Ok-None : goal.returns-in-Ok-None
returns-in-Ok-None c = no_fields_cut c.args.bytes.now (read_none (IsAtMost 9223372036854775807) (count_line 42) c.args.bytes.now (λ (x : ℕ × Bor (List ℕ)). x.0) (λ x. x.1.now) c.in-Ok-None.field-0 c.in-Ok-None.field-0-is c.in-Ok-None.ensures)

pub returns-in-Err : goal.returns-in-Err
returns-in-Err c = no_fields c.args.bytes.now c.in-Err.ensures
