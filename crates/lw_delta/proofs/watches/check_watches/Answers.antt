use Rattle.std.proofs.Common.{ℕ, ◌+◌, subst, ◌++◌, ◌∷◌, sym, ap, ◌∙◌, arith}
use Rattle.std.proofs.lemmas.List.{length-append}
use Rattle.std.proofs.Common.{[]}
use Rattle.lw_reg.specs.declared.path.Path.{Path}
use Rattle.lw_reg.specs.Body.{Watching}
use Rattle.lw_delta.specs.Part.{Found, optional}
use Rattle.lw_delta.specs.Format.{watch}
use Rattle.lw_delta.proofs.Decided.{optional_takes}
use Rattle.lw_delta.proofs.Grammar.{watch_decided}
use Rattle.lw_delta.proofs.Parts.{walked_more, walked_end, walked_fails, raised}
use Rattle.lw_delta.proofs.watches.check_watches.Goals as goal

pub returns-in_err-entry-clause-fault : goal.returns-in_err-entry-clause-fault
returns-in_err-entry-clause-fault c = raised _ c.from_residual.result c.from_residual.ensures.1 (walked_fails c.loop-entry.invariant.1 c.in_err-entry.ensures.fault)

pub returns-in_default-clause-found : goal.returns-in_default-clause-found
returns-in_default-clause-found c = (c.loop-entry.invariant.0, walked_end c.loop-entry.invariant.1 (subst (λ o. Found (optional (watch c.args.clock c.loop-entry.after)) c.loop-entry.rest.now o c.in_ok-entry.behind.now) c.in_default.is c.in_ok-entry.ensures.found), c.loop-entry.invariant.2)

pub loop-entry-smaller : goal.loop-entry-smaller
loop-entry-smaller c = optional_takes (watch_decided c.args.clock c.loop-entry.after) c.loop-entry.rest.now c.in_ok-entry.entry c.in_ok-entry.behind.now c.in_ok-entry.ensures.found

pub loop-entry-preserved : goal.loop-entry-preserved
loop-entry-preserved c =
    let x : Path × Watching = (c.in-Some.path, c.in-Some.field-0-1) in
    (c.loop-entry.invariant.0 ++ x ∷ [], walked_more c.loop-entry.invariant.1 (subst (λ o. Found (optional (watch c.args.clock c.loop-entry.after)) c.loop-entry.rest.now o c.in_ok-entry.behind.now) c.in-Some.is c.in_ok-entry.ensures.found), sym (length-append c.loop-entry.invariant.0 (x ∷ []) ∙ ap (λ (n : ℕ). n + 1) (sym c.loop-entry.invariant.2)), omega (arith, c.loop-entry.invariant.3, optional_takes (watch_decided c.args.clock c.loop-entry.after) c.loop-entry.rest.now c.in_ok-entry.entry c.in_ok-entry.behind.now c.in_ok-entry.ensures.found))
