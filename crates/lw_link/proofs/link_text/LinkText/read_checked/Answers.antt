use Rattle.std.proofs.Common.{◌≡◌, ◌≤◌, ◌∙◌, length, ap, subst, sym, arith, refl, inl}
use Rattle.std.proofs.lemmas.Result.{err_from_is_err_and}
use Rattle.lw_link.specs.Printing.{printing}
use Rattle.lw_link.specs.WellFormed.{AreWellFormed}
use Rattle.lw_link.proofs.Printings.{printing_read, spelled_good, spelled_size}
use Rattle.lw_link.proofs.link_text.LinkText.read_checked.Goals as goal

pub returns-in_err-of_text-clause-refused : goal.returns-in_err-of_text-clause-refused
returns-in_err-of_text-clause-refused c =
    let p = err_from_is_err_and c.from_residual.result c.from_residual.ensures.1 in
    let found = printing_read c.args.bytes.now c.in-Some.ensures.some.1 in
    rw (p.1, p.2) (inl (refl, (c.in-Some.ensures.some.1.0, found.0, found.1)))

pub returns-in-Some-clause-found : goal.returns-in-Some-clause-found
returns-in-Some-clause-found c =
    let is = c.in-Some.ensures.some in
    let found = printing_read c.args.bytes.now is.1 in
    (is.1.0, found.0, found.1, c.in_ok-of_text.ensures ∙ is.0 ∙ is.1.2)

pub print-requires : goal.print-requires
print-requires c =
    let found = c.in_ok-links.ensures.found in
    subst AreWellFormed (sym c.deref.ensures.value) (spelled_good c.args.bytes.now c.in_ok-links.links.items found.0 found.1)

pub invariant_of-result : goal.invariant_of-result
invariant_of-result c =
    let links = c.in_ok-links.links.items in
    let found = c.in_ok-links.ensures.found in
    let text : c.from.result ≡ printing links = c.from.ensures ∙ c.in_ok-text.ensures ∙ ap printing c.deref.ensures.value in
    let size : length (printing links) ≤ length c.args.bytes.now = spelled_size c.args.bytes.now links found.0 in
    ((links, spelled_good c.args.bytes.now links found.0 found.1, text), omega (arith, c.requires, size, ap length text))
