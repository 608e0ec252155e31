use Rattle.std.proofs.Common.{◌≡◌, ℕ, List, [], ◌∷◌, ◌++◌, Bor, sym, subst, arith}
use Rattle.std.specs.List.{AllZip}
use Rattle.lw_resp.specs.Streams.{IsEntry, IsEntryOf, entry_bytes}
use Rattle.lw_resp.specs.declared.entries.Entry.{Entry}
use Rattle.lw_resp.proofs.Composed.{told_some, told_none}
use Rattle.lw_resp.proofs.EntryLemmas.{one_entry, some_entry, some_entry_is}
use Rattle.lw_resp.proofs.Many.{many_none, many_more, many_cut, many_malformed, many_done}
use Rattle.lw_resp.proofs.ReplyLemmas.{zip_push}
use Rattle.lw_resp.proofs.replies.entries.Goals as goal

pub loop-init : goal.loop-init
loop-init c = ([], subst (λ (s : List Entry). AllZip IsEntryOf [] s) (sym c.new-entries.ensures.items) tt, many_none IsEntry entry_bytes c.args.bytes.now)

pub returns-in-Ok-None : goal.returns-in-Ok-None
returns-in-Ok-None c =
    many_cut IsEntry entry_bytes c.args.bytes.now c.loop.rest.now c.loop.counter c.args.number c.loop.invariant.0 some_entry some_entry_is c.loop-test.true c.loop.invariant.2
    (told_none IsEntry entry_bytes c.loop.rest.now (λ (x : Entry × Bor (List ℕ)) e. IsEntryOf e x.0) (λ x. x.1.now) c.in-Ok-None.field-0 c.in-Ok-None.field-0-is c.in-Ok-None.ensures)

pub returns-in-Err : goal.returns-in-Err
returns-in-Err c = λ same.
    many_malformed IsEntry entry_bytes one_entry c.args.bytes.now c.loop.rest.now c.loop.counter c.args.number c.loop.invariant.0 c.loop-test.true c.loop.invariant.2 c.in-Err.ensures

pub loop-preserved : goal.loop-preserved
loop-preserved c =
    let next = told_some IsEntry entry_bytes c.loop.rest.now (λ (x : Entry × Bor (List ℕ)) e. IsEntryOf e x.0) (λ x. x.1.now) c.in-Ok-Some.field-0 (c.in-Ok-Some.entry, c.in-Ok-Some.behind) c.in-Ok-Some.field-0-is c.in-Ok-Some.ensures in (
      c.loop.invariant.0 ++ next.0 ∷ [],
      subst (λ (s : List Entry). AllZip IsEntryOf (c.loop.invariant.0 ++ next.0 ∷ []) s) (sym c.in_ok-push-in-Ok-Some.ensures.pushed)
          (zip_push IsEntryOf c.loop.invariant.0 c.loop.entries.items next.0 c.in-Ok-Some.entry c.loop.invariant.1 next.1),
      many_more IsEntry entry_bytes c.args.bytes.now c.loop.rest.now c.in-Ok-Some.behind.now c.loop.counter c.loop.invariant.0 next.0 c.loop.invariant.2 next.2,
    )

pub returns : goal.returns
returns c =
    (c.loop.invariant.0, c.loop.invariant.1, many_done IsEntry entry_bytes c.args.bytes.now c.loop.rest.now c.loop.invariant.0 c.loop.counter c.args.number (omega arith) c.loop.invariant.2)
