use Rattle.std.proofs.Common.{◌≡◌, List, ℕ, ap, subst, chars, length, true, ◌∙◌, arith}
use Rattle.lw_link.specs.declared.style.Style.TheVariants.{Printed}
use Rattle.lw_link.specs.declared.state.State.TheVariants.{Start}
use Rattle.lw_link.specs.inner.Machine.{read_on, Leaves}
use Rattle.lw_link.proofs.Printings.{printing_text, printing_found, printing_few, printing_stays}
use Rattle.lw_link.proofs.scan.printed_text.Goals as goal

pub returns-in_default-clause-none : goal.returns-in_default-clause-none
returns-in_default-clause-none c = λ h. c.in_default.ensures.cases.0 (printing_text c.args.bytes.now h)

pub returns-in-Ok-scan-clause-some : goal.returns-in-Ok-scan-clause-some
returns-in-Ok-scan-clause-some c =
    let bytes = c.args.bytes.now in
    let u = c.in-Ok.ensures.cases in
    let whole : (read_on Printed Start (chars bytes)).whole ≡ true = subst (λ (x : List ℕ). (read_on Printed Start (chars x)).whole ≡ true) u.0 c.in-Ok-scan.ensures.whole in
    let count : c.in-Ok-scan.links ≡ length (read_on Printed Start (chars bytes)).links = c.in-Ok-scan.ensures.links ∙ ap (λ (x : List ℕ). length (read_on Printed Start (chars x)).links) u.0 in
    (u.0, printing_found bytes c.in-Ok-scan.links u.1 whole count c.if-links-le-MAX_LINKS.true)

pub returns-in-Ok-2-clause-none : goal.returns-in-Ok-2-clause-none
returns-in-Ok-2-clause-none c =
    let bytes = c.args.bytes.now in
    let count : c.in-Ok-scan.links ≡ length (read_on Printed Start (chars bytes)).links = c.in-Ok-scan.ensures.links ∙ ap (λ (x : List ℕ). length (read_on Printed Start (chars x)).links) c.in-Ok.ensures.cases.0 in
    λ h. omega (arith, c.if-links-le-MAX_LINKS.false, printing_few bytes c.in-Ok-scan.links count h)

pub returns-in-Err-clause-none : goal.returns-in-Err-clause-none
returns-in-Err-clause-none c =
    printing_stays c.args.bytes.now c.in-Err.field-0 (subst (λ (x : List ℕ). Leaves Printed (chars x) c.in-Err.field-0) c.in-Ok.ensures.cases.0 c.in-Err.ensures.place)
