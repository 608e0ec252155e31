use Rattle.std.proofs.Common.{rules}
use Rattle.lw_link.proofs.link_text.LinkText.copy_of.Goals as goal

pub of_text-requires-clause-printing : goal.of_text-requires-clause-printing
of_text-requires-clause-printing c = search rules

pub returns : goal.returns
returns c = search rules
