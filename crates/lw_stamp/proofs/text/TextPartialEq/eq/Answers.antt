use Rattle.std.proofs.Common.{sym}
use Rattle.lw_stamp.proofs.text.TextPartialEq.eq.Goals as goal

pub returns : goal.returns
returns c = rw (sym c.as_str.ensures, sym c.as_str-2.ensures) c.eq.ensures
