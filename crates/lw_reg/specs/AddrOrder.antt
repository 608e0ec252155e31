-- The order of addresses: by family, then bytes, then port.
use Rattle.std.specs.Prelude.{◌≡◌, ℕ, Bool, false, ◌&&◌, ◌==◌, List, refl}
use Rattle.std.proofs.Common.{sym, subst}
use Rattle.std.specs.declared.cmp.Ordering.{Ordering}
use Rattle.std.specs.Cmp.{IsTotalOrder, IsEquivalence, IsPartialEquivalence, IsPartialOrder, nat_cmp_total, both_tied, unsigned_ties, partial_equiv_from_equiv, partial_order_from_agreeing_total}
use Rattle.std.specs.Cmp.Lexicographic.{pointwise, texts_ties}
use Rattle.std.specs.Ordering.{nat_cmp, ordering_then, eq_by_cmp, as_partial_cmp}
use Rattle.std.proofs.lemmas.Cmp.{on_total, then_total, nat_list_cmp_total, eq_by_cmp_equiv}
use Rattle.lw_stamp.specs.TextOrder.{text_cmp}
use Rattle.lw_reg.specs.declared.addr.Addr.{Addr}
use Rattle.lw_reg.specs.declared.addr.Addr.TheVariants.{V4, V6}

-- 4 or 6
abbrev pub family : Addr → ℕ
family (V4 address port) = 4
family (V6 address port) = 6

abbrev pub bytes_of : Addr → List ℕ
bytes_of (V4 address port) = address
bytes_of (V6 address port) = address

abbrev pub port_of : Addr → ℕ
port_of (V4 address port) = port
port_of (V6 address port) = port

-- addresses: by family, then bytes, then port
abbrev pub addr_by_parts : Addr → Addr → Ordering
addr_by_parts a b = ordering_then (nat_cmp (family a) (family b)) (ordering_then (text_cmp (bytes_of a) (bytes_of b)) (nat_cmp (port_of a) (port_of b)))

-- whether family, bytes and port are the same
abbrev pub same_addr : Addr → Addr → Bool
same_addr (V4 a p) (V4 b q) = pointwise ◌==◌ a b && (p == q)
same_addr (V4 a p) (V6 b q) = false
same_addr (V6 a p) (V4 b q) = false
same_addr (V6 a p) (V6 b q) = pointwise ◌==◌ a b && (p == q)

pub addr_total : IsTotalOrder addr_by_parts
addr_total = then_total (on_total family nat_cmp_total) (then_total (on_total bytes_of nat_list_cmp_total) (on_total port_of nat_cmp_total))

pub addr_ties : (a b : Addr) → same_addr a b ≡ eq_by_cmp addr_by_parts a b
addr_ties (V4 a p) (V4 b q) = both_tied _ _ (text_cmp a b) (nat_cmp p q) (texts_ties a b) (unsigned_ties p q)
addr_ties (V4 a p) (V6 b q) = refl
addr_ties (V6 a p) (V4 b q) = refl
addr_ties (V6 a p) (V6 b q) = both_tied _ _ (text_cmp a b) (nat_cmp p q) (texts_ties a b) (unsigned_ties p q)

pub addr_equivalence : IsEquivalence same_addr
addr_equivalence = subst IsEquivalence (λ i a b. sym (addr_ties a b) i) (eq_by_cmp_equiv addr_total)

pub addr_partial_equivalence : IsPartialEquivalence same_addr
addr_partial_equivalence = partial_equiv_from_equiv addr_equivalence

pub addr_partial_order : IsPartialOrder same_addr (as_partial_cmp addr_by_parts)
addr_partial_order = partial_order_from_agreeing_total addr_by_parts addr_total (λ a b. refl) addr_ties
