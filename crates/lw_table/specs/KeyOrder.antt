-- Keys that compare equal are one.
use Rattle.std.specs.Ordering.{is_eq}
use Rattle.std.proofs.Common.{ap, sym}
use mathlib.Core.Bool.{true≢false}
use Rattle.lw_stamp.specs.Order.{IsExact}
use Rattle.lw_stamp.proofs.StampLemmas.{stamp_order}
use Rattle.lw_reg.specs.OrderLaws.{addr_order}
use Rattle.lw_table.specs.Keys.{key_cmp}
use Rattle.lw_table.specs.declared.key.Key.TheVariants.{Id, Address, Token}

pub key_exact : IsExact key_cmp
key_exact (Id a) (Id b) h = ap Id (stamp_order.exact a b h)
key_exact (Id a) (Address b) h = absurd (true≢false (ap is_eq (sym h)))
key_exact (Id a) (Token b) h = absurd (true≢false (ap is_eq (sym h)))
key_exact (Address a) (Id b) h = absurd (true≢false (ap is_eq (sym h)))
key_exact (Address a) (Address b) h = ap Address (addr_order.exact a b h)
key_exact (Address a) (Token b) h = absurd (true≢false (ap is_eq (sym h)))
key_exact (Token a) (Id b) h = absurd (true≢false (ap is_eq (sym h)))
key_exact (Token a) (Address b) h = absurd (true≢false (ap is_eq (sym h)))
key_exact (Token a) (Token b) h = ap Token (stamp_order.exact a b h)
