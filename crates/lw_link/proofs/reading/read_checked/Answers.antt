use Rattle.std.proofs.Common.{◌≡◌, ◌≤◌, ◌∙◌, List, ℕ, ap, refl, subst, sym, inl, inr, chars, length}
use Rattle.std.proofs.lemmas.Result.{err_from_is_err_and}
use Rattle.lw_link.specs.declared.style.Style.TheVariants.{Any}
use Rattle.lw_link.specs.declared.state.State.TheVariants.{Start}
use Rattle.lw_link.specs.Link.{LinkContent}
use Rattle.lw_link.specs.inner.Machine.{read_on}
use Rattle.lw_link.specs.Spelling.{Spells}
use Rattle.lw_link.proofs.Outcomes.{read_is}
use Rattle.lw_link.proofs.reading.read_checked.Goals as goal

pub returns-in_err-links-clause-refused : goal.returns-in_err-links-clause-refused
returns-in_err-links-clause-refused c =
    let p = err_from_is_err_and c.from_residual-in_err-links.result c.from_residual-in_err-links.ensures.1 in
    let found = read_is c.args.bytes.now c.in_ok-text.ensures.text.1 c.in_ok-text.ensures.whole c.in_ok-text.ensures.links in
    rw (p.1, p.2) (inl (refl, ((read_on Any Start (chars c.args.bytes.now)).links, found.0, found.1)))

pub returns-clause-found : goal.returns-clause-found
returns-clause-found c =
    let bytes = c.args.bytes.now in
    let found = read_is bytes c.in_ok-text.ensures.text.1 c.in_ok-text.ensures.whole c.in_ok-text.ensures.links in
    let same : c.in_ok-links.field-0.items ≡ (read_on Any Start (chars bytes)).links =
    c.in_ok-links.ensures ∙ ap (λ (x : List ℕ). (read_on Any Start (chars x)).links) c.in_ok-text.ensures.text.0 in
    subst (λ (links : List LinkContent). Spells bytes links × (length links ≤ 256)) (sym same) found

pub returns-in_err-text-clause-refused : goal.returns-in_err-text-clause-refused
returns-in_err-text-clause-refused c =
    let p = err_from_is_err_and c.from_residual.result c.from_residual.ensures.1 in
    rw (p.1, p.2) (inr (rw c.in_err-text.was at c.check.ensures.fault))
