use Rattle.std.proofs.Common.{◌≡◌, ◌≢◌, ℕ, zero, suc, ◌+◌, ◌-◌, List, ◌∷◌, drop, refl, sym, ap, ◌∙◌, arith}
use Rattle.std.specs.List.{slice_get}
use Rattle.std.proofs.lemmas.List.{at_drop_more}
use Rattle.lw_stamp.specs.declared.stamp.Stamp.{Stamp}
use Rattle.lw_reg.specs.Reading.{watch_of, token_then, tokens_in}
use Rattle.lw_reg.proofs.slot.Slot.token_at.Goals.{in-Some+else-left-eq0, in_default}
use Rattle.lw_reg.proofs.slot.Slot.token_at.Goals as goal

one_less : (token : Stamp) (tokens : List Stamp) (place : ℕ) → place ≢ 0 → slice_get (token ∷ tokens) place ≡ slice_get tokens (place - 1)
one_less token tokens zero some = absurd (some refl)
one_less token tokens (suc place) some = let same : place ≡ suc place - 1 = omega arith in ap (slice_get tokens) same

pub loop-entry-preserved : goal.loop-entry-preserved
loop-entry-preserved c =
    let left = c.loop-entry.left in
    let entries = c.watches-entry-items.result.now in
    let rest = tokens_in (drop (c.loop-entry.entry-index + 1) entries) in
    let here : tokens_in (drop c.loop-entry.entry-index entries) ≡ token_then c.watch_of.result rest =
    at_drop_more tokens_in entries c.loop-entry.entry-index c.entry-item.result c.loop-entry-test.true
    ∙ ap (λ x. token_then (watch_of x) rest) (sym c.entry-item.is)
    ∙ ap (λ o. token_then o rest) (sym c.watch_of.ensures) in
    let before = ap (λ ts. slice_get ts left) (sym here) ∙ c.loop-entry.invariant in
    elim c.match-watch_of.branch [
      | in-Some+else-left-eq0 w ↦
          ap (slice_get rest) w.left-is
          ∙ sym (one_less w.in-Some.watch.token rest left w.if-left-eq0.false)
          ∙ ap (λ o. slice_get (token_then o rest) left) (sym w.in-Some.is)
          ∙ before
      | in_default w ↦ ap (slice_get rest) w.left-is ∙ ap (λ o. slice_get (token_then o rest) left) (sym w.in_default.is) ∙ before
    ]
