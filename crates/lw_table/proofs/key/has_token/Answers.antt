use Rattle.std.proofs.Common.{refl, sym, ◌∙◌, inl, inr}
use Rattle.lw_table.proofs.KeyLemmas.{token_is, token_is_not, here_has, rest_has, has_cases, none_left}
use Rattle.lw_table.proofs.key.has_token.Goals as goal

pub returns-then-eq : goal.returns-then-eq
returns-then-eq c =
    let is = token_is c.token_of.result c.args.token (sym c.eq.ensures ∙ c.if-eq.true) in
    let here = here_has c.args.watches.now c.loop-watching.watching-index c.loop-watching-item.result c.loop-watching-test.true c.loop-watching-item.is c.args.token (sym c.token_of.ensures ∙ is) in
    (λ _. c.loop-watching.invariant.0 here, λ _. refl)

pub loop-watching-preserved : goal.loop-watching-preserved
loop-watching-preserved c =
    let ws = c.args.watches.now in
    let i = c.loop-watching.watching-index in
    let item = c.loop-watching-item.result in (
      λ h. c.loop-watching.invariant.0 (rest_has ws i item c.loop-watching-test.true c.loop-watching-item.is c.args.token h),
      λ h. elim (has_cases ws i item c.loop-watching-test.true c.loop-watching-item.is c.args.token (c.loop-watching.invariant.1 h)) [
        | inl is ↦ token_is_not c.token_of.result c.args.token (sym c.eq.ensures ∙ c.if-eq.false) (c.token_of.ensures ∙ is)
        | inr rest ↦ rest
      ],
    )

pub returns : goal.returns
returns c = (
  λ h. absurd cc,
  λ h. none_left c.args.watches.now c.loop-watching.watching-index c.args.token c.loop-watching-test.false (c.loop-watching.invariant.1 h),
)
