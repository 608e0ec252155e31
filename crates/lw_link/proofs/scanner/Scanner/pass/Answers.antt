use Rattle.std.proofs.Common.{◌≡◌, ◌≤◌, ◌∙◌, ℕ, List, length, subst, sym, ap, chars, take, drop}
use Rattle.lw_link.specs.Characters.{Each}
use Rattle.lw_link.specs.inner.Runs.{keeps, Passes}
use Rattle.lw_link.proofs.Passed.{cut, passes}
use Rattle.lw_link.proofs.scanner.Scanner.pass.Goals as goal

pub range_from-requires : goal.range_from-requires
range_from-requires c =
    let text = c.as_str-text.result.now in
    let n = c.run_in-count.result in
    let within : n ≤ length text = subst (λ (x : List ℕ). n ≤ length x) c.as_bytes.ensures.value c.run_in-count.ensures.within in
    let kept : Each (keeps c.args.state) (take n text) = subst (λ (x : List ℕ). Each (keeps c.args.state) (take n x)) c.as_bytes.ensures.value c.run_in-count.ensures.kept in
    λ _. cut c.args.state text n c.as_str-text.utf8 within kept

pub returns : goal.returns
returns c =
    let text = c.as_str-text.result.now in
    let n = c.run_in-count.result in
    let s = c.args.state in
    let within : n ≤ length text = subst (λ (x : List ℕ). n ≤ length x) c.as_bytes.ensures.value c.run_in-count.ensures.within in
    let kept : Each (keeps s) (take n text) = subst (λ (x : List ℕ). Each (keeps s) (take n x)) c.as_bytes.ensures.value c.run_in-count.ensures.kept in
    let passed : Passes s (chars text) (chars (drop n text)) n = passes s text n within kept in
    let old : chars text ≡ c.args.self.now = ap chars c.as_str-text.ensures ∙ c.self.view_is in
    let new : chars (drop n text) ≡ chars c.chars-self-inside.result.rest.now = ap chars (sym c.range_from.ensures.value ∙ sym c.chars-self-inside.ensures.rest) in
    subst (λ (x : List ℕ). Passes s c.args.self.now x n) new (subst (λ (x : List ℕ). Passes s x (chars (drop n text)) n) old passed)
