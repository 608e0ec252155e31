use Rattle.std.proofs.Common.{◌≡◌, ℕ, ◌≤◌, List, [], ◌∷◌, ◌++◌, Bor, arith}
use Rattle.lw_resp.specs.Bytes.{bulk_bytes}
use Rattle.lw_resp.specs.Words.{IsBulk}
use Rattle.lw_resp.proofs.BulkLemmas.{one_bulk_bytes}
use Rattle.lw_resp.proofs.Composed.{read_some, read_none}
use Rattle.lw_resp.proofs.Many.{many_none, many_more, many_cut, many_malformed, many_done}
use Rattle.lw_resp.proofs.bulks.behind_bulks.Goals as goal

pub loop-init : goal.loop-init
loop-init c = ([], many_none IsBulk bulk_bytes c.args.bytes.now)

pub returns-in-Ok-None : goal.returns-in-Ok-None
returns-in-Ok-None c =
    many_cut IsBulk bulk_bytes c.args.bytes.now c.loop.rest.now c.loop.counter c.args.number c.loop.invariant.0 [] (omega arith) c.loop-test.true c.loop.invariant.1
    (read_none IsBulk bulk_bytes c.loop.rest.now (λ (x : Bor (List ℕ) × Bor (List ℕ)). x.0.now) (λ x. x.1.now) c.in-Ok-None.field-0 c.in-Ok-None.field-0-is c.in-Ok-None.ensures)

pub returns-in-Err : goal.returns-in-Err
returns-in-Err c =
    many_malformed IsBulk bulk_bytes one_bulk_bytes c.args.bytes.now c.loop.rest.now c.loop.counter c.args.number c.loop.invariant.0 c.loop-test.true c.loop.invariant.1 c.in-Err.ensures

pub loop-preserved : goal.loop-preserved
loop-preserved c =
    let next = read_some IsBulk bulk_bytes c.loop.rest.now (λ (x : Bor (List ℕ) × Bor (List ℕ)). x.0.now) (λ x. x.1.now) c.in-Ok-Some.field-0 (c.in-Ok-Some.field-0-0-0, c.in-Ok-Some.behind) c.in-Ok-Some.field-0-is c.in-Ok-Some.ensures in (
      c.loop.invariant.0 ++ c.in-Ok-Some.field-0-0-0.now ∷ [],
      many_more IsBulk bulk_bytes c.args.bytes.now c.loop.rest.now c.in-Ok-Some.behind.now c.loop.counter c.loop.invariant.0 c.in-Ok-Some.field-0-0-0.now c.loop.invariant.1 next,
    )

pub returns : goal.returns
returns c = (c.loop.invariant.0, many_done IsBulk bulk_bytes c.args.bytes.now c.loop.rest.now c.loop.invariant.0 c.loop.counter c.args.number (omega arith) c.loop.invariant.1)
