use Rattle.std.proofs.Common.{◌<◌, rules, false}
use Rattle.std.proofs.lemmas.Fmt.{hex_byte}
use Rattle.lw_reg.proofs.addr.printing.push_byte.Goals as goal

pub returns : goal.returns
returns c =
    let small : c.args.byte < 256 = search rules in
    rw (← hex_byte false c.args.byte small) (rw (c.laid_out.ensures, c.in_radix.ensures) at c.write.ensures.bytes)
