use Rattle.std.proofs.Common.{ℕ, List, [], ◌∷◌, Bor}
use Rattle.lw_resp.specs.Streams.{IsEntryOf}
use Rattle.lw_resp.specs.inner.Parts.{AreThese, as_they_are}
use Rattle.lw_resp.proofs.Composed.{read_some, read_none}
use Rattle.lw_resp.proofs.EntryLemmas.{entry_reads, head_cut, head_malformed}
use Rattle.lw_resp.proofs.entries.first_entry.Goals as goal

pub returns-in-Ok-Some : goal.returns-in-Ok-Some
returns-in-Ok-Some c =
    let begins = read_some (AreThese (42 ∷ 50 ∷ 13 ∷ 10 ∷ [])) as_they_are c.args.bytes.now (λ (x : Bor (List ℕ)). 42 ∷ 50 ∷ 13 ∷ 10 ∷ []) (λ x. x.now) c.in-Ok-Some.field-0 c.in-Ok-Some.behind c.in-Ok-Some.field-0-is c.in-Ok-Some.ensures in
    entry_reads c.args.bytes.now c.in-Ok-Some.behind.now (λ x e. IsEntryOf e x.0) (λ x. x.1.now) begins c.pair.result c.pair.ensures

pub returns-in-Ok-None : goal.returns-in-Ok-None
returns-in-Ok-None c = head_cut c.args.bytes.now (read_none (AreThese (42 ∷ 50 ∷ 13 ∷ 10 ∷ [])) as_they_are c.args.bytes.now (λ (x : Bor (List ℕ)). 42 ∷ 50 ∷ 13 ∷ 10 ∷ []) (λ x. x.now) c.in-Ok-None.field-0 c.in-Ok-None.field-0-is c.in-Ok-None.ensures)

pub returns-in-Err : goal.returns-in-Err
returns-in-Err c = head_malformed c.args.bytes.now c.in-Err.ensures
