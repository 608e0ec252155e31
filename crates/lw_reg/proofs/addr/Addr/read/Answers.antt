use Rattle.std.proofs.Common.{◌∙◌, ap}
use Rattle.lw_reg.specs.inner.Addr.Reading.{addr_in}
use Rattle.lw_reg.proofs.Addresses.{addr_in_text, addr_in_range, addr_in-text}
use Rattle.lw_reg.proofs.addr.Addr.read.Goals as goal

pub returns-clause-found : goal.returns-clause-found
returns-clause-found c = addr_in_text _ _ c.read.ensures

pub returns-clause-only : goal.returns-clause-only
returns-clause-only c a in_range text_is = c.read.ensures ∙ ap addr_in text_is ∙ addr_in-text a in_range

pub returns-clause-in_range : goal.returns-clause-in_range
returns-clause-in_range c = addr_in_range _ _ c.read.ensures
