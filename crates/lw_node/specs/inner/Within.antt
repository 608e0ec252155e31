-- The operation that a node may issue next.
use Rattle.std.specs.Prelude.{◌≡◌, ℕ, ◌+◌, ◌≤◌}
use Rattle.lw_reg.specs.declared.op.Op.{Op}
use Rattle.lw_node.specs.Within.{TokenWithin}

-- the operation has the next number of the clock, and speaks of nothing that comes later
pub record IsNextOf (clock : ℕ) (op : Op) : Type 0 where
  pub next : op.stamp.counter ≡ clock + 1
  pub registration : op.reg.counter ≤ clock + 1
  pub token : TokenWithin clock op.what
