use Rattle.std.proofs.Common.{◌≡◌, ◌++◌, ◌∷◌, [], List, ℕ, None, refl, sym, ap, ◌∙◌, subst, arith}
use Rattle.lw_log.specs.Calls.{LogCall, placed, place_of}
use Rattle.lw_log.specs.Calls.LogCall.{Read}
use Rattle.lw_log.specs.declared.position.Position.{Position}
use Rattle.lw_replica.specs.Beginning.{IsUncut}
use Rattle.lw_replica.specs.Reading.{bytes_of, entries_in, place_read}
use Rattle.lw_replica.specs.inner.Looking.{HasSeen}
use Rattle.lw_replica.specs.inner.Taking.{ArePages}
use Rattle.lw_replica.proofs.Asking.{calls_none, calls_then, pages_more, pages_end, entries_more}
use Rattle.lw_replica.proofs.Numbering.{noted_new, noted_none}
use Rattle.lw_replica.proofs.Beginnings.{log_looks}
use Rattle.lw_replica.proofs.Catching.{length_placed}
use Rattle.lw_replica.proofs.Refusing.{raised}
use Rattle.lw_replica.proofs.looking.look.Goals as goal

pub loop-page-init : goal.loop-page-init
loop-page-init g c =
    let used_numbers = c.in_ok-used_numbers.used_numbers.bytes.value in (
      [],
      calls_none (g.G.DeltaLog.calls c.args.log.now),
      refl,
      record { none = λ h. refl; some = λ h. absurd cc; whole = λ h. absurd cc; used_numbers = noted_new used_numbers used_numbers [] c.in_ok-used_numbers.ensures (noted_none used_numbers) },
    )

pub returns-then-len-lt-PAGE-clause-found : goal.returns-then-len-lt-PAGE-clause-found
returns-then-len-lt-PAGE-clause-found g c =
    let i = c.loop-page.invariant in
    let page = c.in_ok-page.page.items in
    let from = place_of c.loop-page.after in
    let last : LogCall = Read from (placed page) in
    let seen = subst (λ (p : List (Position × List ℕ)). HasSeen (entries_in i.0 ++ bytes_of (placed p)) c.note_page.new.self) c.deref.ensures.value (c.note_page.ensures (entries_in i.0) i.3) in (
      i.0 ++ last ∷ [],
      calls_then _ _ _ i.0 (last ∷ []) i.1 c.in_ok-page.ensures,
      pages_end None from i.0 from (placed page) i.2 refl (let l = length_placed page in omega (arith, l, c.len.ensures, c.if-len-lt-PAGE.true)),
      subst (λ es. IsUncut es) (sym (entries_more i.0 from (placed page))) (c.if-is_cut.ensures _ seen (λ t. cc)),
      subst (λ es. HasSeen es c.note_page.new.self) (sym (entries_more i.0 from (placed page))) seen,
    )

pub loop-page-preserved : goal.loop-page-preserved
loop-page-preserved g c =
    let i = c.loop-page.invariant in
    let page = c.in_ok-page.page.items in
    let from = place_of c.loop-page.after in
    let last : LogCall = Read from (placed page) in
    let seen = subst (λ (p : List (Position × List ℕ)). HasSeen (entries_in i.0 ++ bytes_of (placed p)) c.note_page.new.self) c.deref.ensures.value (c.note_page.ensures (entries_in i.0) i.3) in
    let place : place_of c.last_place-after.result ≡ place_read from (placed page) = c.last_place-after.ensures ∙ ap (λ (p : List (Position × List ℕ)). place_read from (placed p)) c.deref-in-loop-page.ensures.value in (
      i.0 ++ last ∷ [],
      calls_then _ _ _ i.0 (last ∷ []) i.1 c.in_ok-page.ensures,
      subst (λ p. ArePages None (i.0 ++ last ∷ []) p) (sym place) (pages_more None from i.0 from (placed page) i.2 refl (let l = length_placed page in omega (arith, l, c.len.ensures, c.if-len-lt-PAGE.false))),
      subst (λ es. HasSeen es c.note_page.new.self) (sym (entries_more i.0 from (placed page))) seen,
    )

pub returns-in_err-page-clause-fault : goal.returns-in_err-page-clause-fault
returns-in_err-page-clause-fault g c =
    raised _ c.from_residual-in_err-page.result c.from_residual-in_err-page.ensures.1 (log_looks c.in_err-page.field-0.0)
