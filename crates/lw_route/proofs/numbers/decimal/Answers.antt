use Rattle.std.proofs.Common.{◌∙◌, ◌^◌, arith, sym}
use Rattle.std.proofs.lemmas.Bool.{iff_false}
use Rattle.lw_reg.proofs.Addresses.Numbers.{number_in-not_plain, number_in-plain}
use Rattle.lw_route.proofs.NumberLemmas.{number_found, number_none, not_number}
use Rattle.lw_route.proofs.numbers.decimal.Goals as goal

pub returns-then-not-is_plain-clause-none : goal.returns-then-not-is_plain-clause-none
returns-then-not-is_plain-clause-none c =
    not_number (2 ^ 64) _ (omega arith) (number_in-not_plain _ _ (omega arith) (iff_false c.is_plain.ensures c.if-not-is_plain.true))

pub returns-clause-found : goal.returns-clause-found
returns-clause-found c =
    number_found (2 ^ 64) _ _ (c.ok.ensures.value ∙ sym (number_in-plain 64 _ _ (omega arith) (c.is_plain.ensures.0 c.if-not-is_plain.false) c.parse.ensures.value.0))

pub returns-clause-none : goal.returns-clause-none
returns-clause-none c =
    number_none (2 ^ 64) _ _ (omega arith) (c.ok.ensures.value ∙ sym (number_in-plain 64 _ _ (omega arith) (c.is_plain.ensures.0 c.if-not-is_plain.false) c.parse.ensures.value.0))
