-- Orders in which values that compare equal are one.
use Rattle.std.specs.Prelude.{◌<◌, ◌^◌, true, false, Some, None}
use Rattle.std.specs.declared.cmp.Ordering.{Ordering}
use Rattle.std.specs.Ordering.{bool_cmp, nat_cmp, is_eq, ordering_then}
use Rattle.std.specs.Option.{option_cmp}
use Rattle.std.specs.Coded.{le_prop}
use Rattle.std.proofs.Common.{refl, ap, sym}
use Rattle.std.proofs.lemmas.Map.Lookups.{exact_pairs, exact_unsigned}
use mathlib.Core.Bool.{true≢false}
use mathlib.Core.HLevel.{is_prop→PathP}
use Rattle.lw_stamp.specs.Order.{IsExact}
use Rattle.lw_stamp.specs.declared.moment.Moment.{Moment}

pub exact_bool : IsExact bool_cmp
exact_bool true true h = refl
exact_bool true false h = absurd (true≢false (ap is_eq (sym h)))
exact_bool false true h = absurd (true≢false (ap is_eq (sym h)))
exact_bool false false h = refl

pub exact_option : {V : Type 0} {cmp : V → V → Ordering} → IsExact cmp → IsExact (option_cmp cmp)
exact_option exact None None h = refl
exact_option exact None (Some y) h = absurd (true≢false (ap is_eq (sym h)))
exact_option exact (Some x) None h = absurd (true≢false (ap is_eq (sym h)))
exact_option exact (Some x) (Some y) h = ap Some (exact x y h)

pub exact_pair : {A B : Type 0} {P : A → A → Ordering} {Q : B → B → Ordering} → IsExact P → IsExact Q → IsExact (λ (x y : A × B). ordering_then (P x.0 y.0) (Q x.1 y.1))
exact_pair {A} {B} {P} {Q} p q = exact_pairs P Q p q

pub exact_moment : IsExact (λ (a b : Moment). nat_cmp a.ms b.ms)
exact_moment a b h =
    let same = exact_unsigned a.ms b.ms h in
    λ i. record { ms = same i; in_range = is_prop→PathP (λ i. same i < 2 ^ 48) (λ i. le_prop) a.in_range b.in_range i }
