use Rattle.std.proofs.Common.{rules}
use Rattle.lw_link.proofs.link_text.LinkText.as_str.Goals as goal

pub returns-clause-value : goal.returns-clause-value
returns-clause-value c = search rules

pub returns-clause-printing : goal.returns-clause-printing
returns-clause-printing c = search rules
