use Rattle.std.specs.Prelude.{◌≡◌, drop}
use Rattle.lw_table.specs.Rows.{appended}
use Rattle.lw_table.proofs.rows.number_of.Given as goal

-- the bytes that are left, behind the number, are all
abbrev pub invariant-loop-byte : goal.invariant-loop-byte
invariant-loop-byte l = appended l.number (drop l.byte-index l.bytes) ≡ appended 0 l.bytes
