use Rattle.std.proofs.Common.{sym}
use Rattle.lw_link.proofs.Scanning.{seen}
use Rattle.lw_link.proofs.scanner.Scanner.peek.Goals as goal

pub returns : goal.returns
returns c = seen c.chars.result c.next.new.self c.next.result c.args.self.now (rw (c.chars.ensures.rest, c.as_str.ensures) c.self.invariant) c.next.ensures.steps (rw (c.chars.ensures.rest, c.as_str.ensures) (sym c.self.view_is))
