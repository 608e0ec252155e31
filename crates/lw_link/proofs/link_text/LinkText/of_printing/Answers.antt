use Rattle.std.proofs.Common.{rules}
use Rattle.lw_link.proofs.Printings.{printing_text}
use Rattle.lw_link.proofs.link_text.LinkText.of_printing.Goals as goal

pub unreachable-requires : goal.unreachable-requires
unreachable-requires c = c.in_default.ensures.cases.0 (printing_text c.args.bytes.now c.requires.printing)

pub of_text-requires-clause-printing : goal.of_text-requires-clause-printing
of_text-requires-clause-printing c = search rules

pub returns : goal.returns
returns c = search rules
