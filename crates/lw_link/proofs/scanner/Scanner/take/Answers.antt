use Rattle.std.proofs.Common.{sym}
use Rattle.lw_link.proofs.Scanning.{taken, text_kept}
use Rattle.lw_link.proofs.scanner.Scanner.take.Goals as goal

pub invariant_of-self : goal.invariant_of-self
invariant_of-self c = text_kept c.self.inside.left c.next.new.self c.next.result c.self.invariant c.next.ensures.steps

pub returns : goal.returns
returns c = taken c.self.inside.left c.next.new.self c.next.result c.args.self.now c.self.invariant c.next.ensures.steps (sym c.self.view_is)
