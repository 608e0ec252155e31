use Rattle.std.proofs.Common.{sym}
use Rattle.lw_link.proofs.Outcomes.{one_spelled}
use Rattle.lw_link.proofs.Printings.{printing_read}
use Rattle.lw_link.proofs.laws.printings_read_as_themselves.Goals as goal

pub returns : goal.returns
returns c = λ bytes h.
    let read = printing_read bytes h in
    (h.0, read.0, read.1, sym h.2, λ others spells. one_spelled bytes others h.0 spells read.0)
