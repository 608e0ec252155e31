use Rattle.std.proofs.Common.{ℕ, List, Some, ◌++◌, ◌∷◌, [], sym, subst, inr}
use Rattle.std.specs.Option.{option_copied}
use Rattle.lw_join.specs.declared.last.Last.{Last}
use Rattle.lw_delta.specs.Part.{Found, optional}
use Rattle.lw_delta.specs.Format.{attribute}
use Rattle.lw_delta.proofs.Decided.{optional_takes}
use Rattle.lw_delta.proofs.Grammar.{attribute_decided}
use Rattle.lw_delta.proofs.Parts.{Walked, none_walked, walked_more, walked_end, walked_fails, raised}
use Rattle.lw_delta.proofs.reading.attribute_entries.Goals as goal

pub loop-entries-init : goal.loop-entries-init
loop-entries-init c = rw c.in_ok-entries.ensures.items (none_walked _ _ c.args.bytes.now)

pub returns-in_err-next-clause-fault : goal.returns-in_err-next-clause-fault
returns-in_err-next-clause-fault c = raised _ c.from_residual-in_err-next.result c.from_residual-in_err-next.ensures.1 (inr (walked_fails c.loop-entries.invariant c.in_err-next.ensures.fault))

pub returns-in_default-clause-found : goal.returns-in_default-clause-found
returns-in_default-clause-found c =
    (c.in_ok-next.behind.now, walked_end c.loop-entries.invariant (subst (λ o. Found (optional (attribute c.args.clock (option_copied c.loop-entries.after))) c.loop-entries.rest.now o c.in_ok-next.behind.now) c.in_default.is c.in_ok-next.ensures.found))

pub loop-entries-smaller : goal.loop-entries-smaller
loop-entries-smaller c = optional_takes (attribute_decided c.args.clock (option_copied c.loop-entries.after)) c.loop-entries.rest.now c.in_ok-next.next c.in_ok-next.behind.now c.in_ok-next.ensures.found

pub loop-entries-preserved : goal.loop-entries-preserved
loop-entries-preserved c =
    let x : List ℕ × Last (List ℕ) = c.in-Some.lent in
    let more : List ℕ × Last (List ℕ) → List ℕ → Type 0 = λ e name. Walked (attribute c.args.clock) (λ a. a.0) c.args.bytes.now (c.loop-entries.entries.items ++ e ∷ []) (Some name) c.in_ok-next.behind.now in
    let found = subst (λ o. Found (optional (attribute c.args.clock (option_copied c.loop-entries.after))) c.loop-entries.rest.now o c.in_ok-next.behind.now) c.in-Some.is c.in_ok-next.ensures.found in
    let named = subst (λ (name : List ℕ). more x name) (sym c.name.ensures) (walked_more c.loop-entries.invariant found) in
    rw c.in_ok-push.ensures.items (subst (λ (e : List ℕ × Last (List ℕ)). more e c.name.result.now) (sym c.in_ok-entry.ensures) named)
