-- Where a Block1 goes among options.
use Rattle.std.specs.Prelude.{nat_le, Bool}
use Rattle.lw_coap.specs.Message.{OptionContent}

abbrev pub is_not_above_block1 : OptionContent → Bool
is_not_above_block1 option = nat_le option.number 27
