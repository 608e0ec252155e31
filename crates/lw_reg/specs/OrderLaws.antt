-- The orders of what a slot keeps are by parts and total, and tell apart what differs.
use Rattle.std.specs.Prelude.{◌≡◌, ℕ, ◌-◌, Bool, List, ◌++◌, length, replicate, refl}
use Rattle.std.proofs.Common.{sym, ap, ◌∙◌, subst}
use Rattle.std.specs.declared.cmp.Ordering.{Ordering}
use Rattle.std.specs.Cmp.{nat_cmp_total, bool_cmp_total}
use Rattle.std.specs.Cmp.Lexicographic.{slice_cmp, options_total}
use Rattle.std.specs.Ordering.{nat_cmp, bool_cmp, is_eq, ordering_then}
use Rattle.std.proofs.lemmas.Cmp.{on_total, then_total, nat_list_cmp_total}
use Rattle.std.proofs.lemmas.Map.Lookups.{exact_pairs, exact_unsigned, exact_bytes}
use Rattle.std.proofs.Props.{props}
use mathlib.Core.Bool.{true≢false}
use mathlib.Core.HLevel.{is_prop→PathP}
use Rattle.lw_stamp.specs.Moment.{ms_of}
use Rattle.lw_stamp.specs.Order.{IsExact, IsExactOrder}
use Rattle.lw_stamp.specs.TextOrder.{text_cmp}
use Rattle.lw_join.specs.ExactOrders.{exact_bool, exact_moment, exact_option}
use Rattle.lw_reg.specs.declared.addr.Addr.{Addr}
use Rattle.lw_reg.specs.declared.addr.Addr.TheVariants.{V4, V6}
use Rattle.lw_reg.specs.declared.base.Base.{Base}
use Rattle.lw_reg.specs.declared.version.Version.{Version}
use Rattle.lw_reg.specs.declared.version.Version.TheVariants.{V10, V11}
use Rattle.lw_reg.specs.ByNumbers.{TellApart, by_numbers_order}
use Rattle.lw_reg.specs.Path.{path_numbers}
use Rattle.lw_reg.specs.PathNumbers.{IsKept}
use Rattle.lw_reg.specs.AddrOrder.{addr_by_parts, addr_total}
use Rattle.lw_reg.specs.Orders.{minor, addr_cmp, sms_cmp, version_cmp, version_by_number, base_cmp, base_by_parts, moment_cmp, format_cmp, path_cmp}

-- an order that is another has what that has
order_along : {V : Type 0} {P Q : V → V → Ordering} → ((a b : V) → P a b ≡ Q a b) → IsExactOrder Q → IsExactOrder P
order_along same order = subst IsExactOrder (λ i a b. sym (same a b) i) order

-- ---- addresses
exact_addr : IsExact addr_by_parts
exact_addr (V4 a p) (V4 b q) h = ap (λ (x : List ℕ × ℕ). V4 x.0 x.1) (exact_pairs (slice_cmp nat_cmp) nat_cmp exact_bytes exact_unsigned (a, p) (b, q) h)
exact_addr (V4 a p) (V6 b q) h = absurd (true≢false (sym (ap is_eq h)))
exact_addr (V6 a p) (V4 b q) h = absurd (true≢false (sym (ap is_eq h)))
exact_addr (V6 a p) (V6 b q) h = ap (λ (x : List ℕ × ℕ). V6 x.0 x.1) (exact_pairs (slice_cmp nat_cmp) nat_cmp exact_bytes exact_unsigned (a, p) (b, q) h)

pub addr_parts : (a b : Addr) → addr_cmp a b ≡ addr_by_parts a b
addr_parts a b = refl

pub addr_order : IsExactOrder addr_cmp
addr_order = record { total = addr_total; exact = exact_addr }

-- ---- versions and bases
exact_version : IsExact version_by_number
exact_version V10 V10 h = refl
exact_version V10 V11 h = absurd (true≢false (sym (ap is_eq h)))
exact_version V11 V10 h = absurd (true≢false (sym (ap is_eq h)))
exact_version V11 V11 h = refl

pub version_number : (a b : Version) → version_cmp a b ≡ version_by_number a b
version_number V10 V10 = refl
version_number V10 V11 = refl
version_number V11 V10 = refl
version_number V11 V11 = refl

pub version_order : IsExactOrder version_cmp
version_order = order_along version_number (record { total = on_total minor nat_cmp_total; exact = exact_version })

pub base_parts : (a b : Base) → base_cmp a b ≡ base_by_parts a b
base_parts a b = ap (λ o. ordering_then o (bool_cmp a.queue b.queue)) (version_number a.version b.version)

pub base_order : IsExactOrder base_cmp
base_order = order_along base_parts (record {
  total = then_total (on_total (λ (b : Base). minor b.version) nat_cmp_total) (on_total (λ (b : Base). b.queue) bool_cmp_total);
  exact = λ a b h. ap (λ (p : Version × Bool). record { version = p.0; queue = p.1 }) (exact_pairs version_by_number bool_cmp exact_version exact_bool (a.version, a.queue) (b.version, b.queue) h);
})

-- ---- numbers and texts
pub number_order : IsExactOrder nat_cmp
number_order = record { total = nat_cmp_total; exact = exact_unsigned }

pub format_order : IsExactOrder format_cmp
format_order = record { total = options_total nat_cmp_total; exact = exact_option exact_unsigned }

pub moment_order : IsExactOrder moment_cmp
moment_order = record { total = on_total ms_of nat_cmp_total; exact = exact_moment }

pub text_order : IsExactOrder text_cmp
text_order = record { total = nat_list_cmp_total; exact = exact_bytes }

pub sms_order : IsExactOrder sms_cmp
sms_order = record { total = options_total nat_list_cmp_total; exact = exact_option exact_bytes }

-- ---- paths
kept_prop : (numbers : List ℕ) (count : ℕ) → IsProp (IsKept numbers count)
kept_prop numbers count = hlevel props

-- a path is its numbers
pub same_path : TellApart path_numbers
same_path a b h =
    let count : a.length ≡ b.length = sym a.kept.count_is ∙ ap length h ∙ b.kept.count_is in
    let numbers : a.numbers ≡ b.numbers = a.kept.zeros ∙ (λ i. h i ++ replicate (4 - count i) 0) ∙ sym b.kept.zeros in
    λ i. record { numbers = numbers i; length = count i; kept = is_prop→PathP (λ i. IsKept (numbers i) (count i)) (λ i. kept_prop (numbers i) (count i)) a.kept b.kept i }

pub path_order : IsExactOrder path_cmp
path_order = by_numbers_order path_numbers same_path
