use Rattle.std.proofs.Common.{Some, sym, ◌∙◌, ap}
use Rattle.lw_table.proofs.KeyLemmas.{address_same, address_is, some_write}
use Rattle.lw_table.proofs.key.has_address.Goals as goal

pub returns-in-Some : goal.returns-in-Some
returns-in-Some c =
    let known = sym c.address.ensures ∙ c.in-Some.is in (
      λ h. (c.in-Some.field-0-0, known ∙ ap (λ a. Some (c.in-Some.field-0-0, a)) (address_same c.in-Some.last c.args.address (sym c.eq.ensures ∙ h))),
      λ h. c.eq.ensures ∙ address_is c.in-Some.last c.args.address (some_write c.in-Some.field-0-0 h.0 c.in-Some.last c.args.address (sym known ∙ h.1)),
    )
