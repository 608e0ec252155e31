-- The order of texts is total, and tells apart what differs.
use Rattle.std.proofs.lemmas.Cmp.{nat_list_cmp_total}
use Rattle.std.proofs.lemmas.Map.Lookups.{exact_bytes}
use Rattle.lw_stamp.specs.Order.{IsExactOrder}
use Rattle.lw_stamp.specs.TextOrder.{text_cmp}

pub text_order : IsExactOrder text_cmp
text_order = record { total = nat_list_cmp_total; exact = exact_bytes }
