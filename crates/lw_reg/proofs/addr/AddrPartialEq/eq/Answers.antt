use Rattle.std.proofs.Common.{is_eq, sym, ap, ◌∙◌}
use Rattle.lw_reg.specs.AddrOrder.{addr_ties}
use Rattle.lw_reg.proofs.addr.AddrPartialEq.eq.Goals as goal

pub returns : goal.returns
returns c = c.is_eq.ensures ∙ ap is_eq c.cmp.ensures ∙ sym (addr_ties c.args.self.now c.args.other.now)
