use Rattle.std.proofs.Common.{ℕ, [], List, Some, ◌+◌, subst, ◌++◌, ◌∷◌, sym, ap, ◌∙◌, arith}
use Rattle.std.proofs.lemmas.List.{length-append}
use Rattle.std.specs.Option.{option_copied}
use Rattle.lw_join.specs.declared.last.Last.{Last}
use Rattle.lw_delta.specs.Part.{Found, optional}
use Rattle.lw_delta.specs.Format.{attribute}
use Rattle.lw_delta.proofs.Decided.{optional_takes}
use Rattle.lw_delta.proofs.Grammar.{attribute_decided}
use Rattle.lw_delta.proofs.Parts.{Walked, walked_more, walked_end, walked_fails, raised}
use Rattle.lw_delta.proofs.attributes.check_attributes.Goals as goal

pub returns-in_err-next-clause-fault : goal.returns-in_err-next-clause-fault
returns-in_err-next-clause-fault c = raised _ c.from_residual.result c.from_residual.ensures.1 (walked_fails c.loop-next.invariant.1 c.in_err-next.ensures.fault)

pub returns-in_default-clause-found : goal.returns-in_default-clause-found
returns-in_default-clause-found c = (
  c.loop-next.invariant.0,
  walked_end c.loop-next.invariant.1 (subst (λ o. Found (optional (attribute c.args.clock (option_copied c.loop-next.after))) c.loop-next.rest.now o c.in_ok-next.behind.now) c.in_default.is c.in_ok-next.ensures.found),
  c.loop-next.invariant.2,
)

pub loop-next-smaller : goal.loop-next-smaller
loop-next-smaller c = optional_takes (attribute_decided c.args.clock (option_copied c.loop-next.after)) c.loop-next.rest.now c.in_ok-next.next c.in_ok-next.behind.now c.in_ok-next.ensures.found

pub loop-next-preserved : goal.loop-next-preserved
loop-next-preserved c =
    let x : List ℕ × Last (List ℕ) = c.in-Some.attribute in
    let es = c.loop-next.invariant.0 ++ x ∷ [] in
    let found = subst (λ o. Found (optional (attribute c.args.clock (option_copied c.loop-next.after))) c.loop-next.rest.now o c.in_ok-next.behind.now) c.in-Some.is c.in_ok-next.ensures.found in (
      es,
      subst (λ (name : List ℕ). Walked (attribute c.args.clock) (λ a. a.0) c.args.bytes.now es (Some name) c.in_ok-next.behind.now) (sym c.name.ensures) (walked_more c.loop-next.invariant.1 found),
      sym (length-append c.loop-next.invariant.0 (x ∷ []) ∙ ap (λ (n : ℕ). n + 1) (sym c.loop-next.invariant.2)),
      omega (arith, c.loop-next.invariant.3, loop-next-smaller c),
    )
