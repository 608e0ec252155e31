use Rattle.std.proofs.Common.{◌∙◌, arith, sym}
use Rattle.std.proofs.lemmas.Bool.{iff_false}
use Rattle.lw_reg.proofs.Addresses.Numbers.{number_in-not_plain, number_in-plain}
use Rattle.lw_reg.proofs.addr.reading.port.Goals as goal

pub returns-then-not-is_plain : goal.returns-then-not-is_plain
returns-then-not-is_plain c = sym (number_in-not_plain _ _ (omega arith) (iff_false c.is_plain.ensures c.if-not-is_plain.true))

pub returns : goal.returns
returns c =
    c.ok.ensures.value ∙ sym (number_in-plain 16 _ _ (omega arith) (c.is_plain.ensures.0 c.if-not-is_plain.false) c.parse.ensures.value.0)
