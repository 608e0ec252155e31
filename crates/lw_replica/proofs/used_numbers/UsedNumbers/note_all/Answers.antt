use Rattle.std.proofs.Common.{arith}
use Rattle.lw_replica.proofs.Numbering.{bits_merged}
use Rattle.lw_replica.proofs.used_numbers.UsedNumbers.note_all.Goals as goal

pub returns : goal.returns
returns c = λ n.
    bits_merged c.args.self.now.bytes.value c.args.used_numbers.now c.loop-i.self.bytes.value c.told-used_numbers
    (λ k low. c.loop-i.invariant.done k (omega arith)) (λ k high. c.loop-i.invariant.left k (omega arith)) n
