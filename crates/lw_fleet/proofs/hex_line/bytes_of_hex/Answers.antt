use Rattle.std.proofs.Common.{rules}
use Rattle.lw_fleet.proofs.hex_line.bytes_of_hex.Goals as goal

pub returns-clause-refused : goal.returns-clause-refused
returns-clause-refused c = search rules
