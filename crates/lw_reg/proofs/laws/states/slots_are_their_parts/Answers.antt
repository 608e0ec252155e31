use Rattle.lw_reg.proofs.Same.{slots_are_parts}
use Rattle.lw_reg.proofs.laws.states.slots_are_their_parts.Goals as goal

pub returns : goal.returns
returns c = slots_are_parts
