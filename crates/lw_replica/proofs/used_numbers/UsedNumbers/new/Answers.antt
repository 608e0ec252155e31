use Rattle.lw_replica.proofs.Numbering.{no_bits}
use Rattle.lw_replica.proofs.used_numbers.UsedNumbers.new.Goals as goal

pub returns : goal.returns
returns c = λ n. no_bits c.in_ok-bytes.bytes.value c.in_ok-bytes.ensures.ok n
