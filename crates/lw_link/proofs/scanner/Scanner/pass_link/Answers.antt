use Rattle.std.proofs.Common.{◌≡◌, ◌∙◌, ℕ, List, subst, sym, ap, chars, drop}
use Rattle.lw_link.specs.declared.state.State.{State}
use Rattle.lw_link.specs.declared.state.State.TheVariants.{Closed}
use Rattle.lw_link.specs.inner.Runs.{HasLink, PassesLink}
use Rattle.lw_link.proofs.Passed.{link_passes}
use Rattle.lw_link.proofs.scanner.Scanner.pass_link.Goals as goal

pub range_from-requires : goal.range_from-requires
range_from-requires c =
    let text = c.as_str-text.result.now in
    let n = c.in-Some.count in
    let has : HasLink text n = subst (λ (x : List ℕ). HasLink x n) c.as_bytes.ensures.value c.in-Some.ensures in
    λ _. (link_passes text n c.as_str-text.utf8 has).0

pub returns : goal.returns
returns c =
    let text = c.as_str-text.result.now in
    let n = c.in-Some.count in
    let has : HasLink text n = subst (λ (x : List ℕ). HasLink x n) c.as_bytes.ensures.value c.in-Some.ensures in
    let passed : PassesLink Closed (chars text) (chars (drop n text)) n = (link_passes text n c.as_str-text.utf8 has).1 in
    let old : chars text ≡ c.args.self.now = ap chars c.as_str-text.ensures ∙ c.self.view_is in
    let new : chars (drop n text) ≡ chars c.chars-self-inside.result.rest.now = ap chars (sym c.range_from.ensures.value ∙ sym c.chars-self-inside.ensures.rest) in
    let same : PassesLink Closed c.args.self.now (chars c.chars-self-inside.result.rest.now) n =
    subst (λ (x : List ℕ). PassesLink Closed c.args.self.now x n) new (subst (λ (x : List ℕ). PassesLink Closed x (chars (drop n text)) n) old passed) in
    subst (λ (x : State). PassesLink x c.args.self.now (chars c.chars-self-inside.result.rest.now) n) (sym c.in-Closed.is) same
