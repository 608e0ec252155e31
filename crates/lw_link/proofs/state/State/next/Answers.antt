use Rattle.std.proofs.Common.{rules}
use Rattle.lw_link.proofs.state.State.next.Goals as goal

pub returns-in-Quotation : goal.returns-in-Quotation
returns-in-Quotation c = search rules
