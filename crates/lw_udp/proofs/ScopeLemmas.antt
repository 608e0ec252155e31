-- What is kept of a scope is found again.
use Rattle.std.proofs.Common.{◌≡◌, ◌<◌, ◌^◌, ◌+◌, ◌*◌, ◌/◌, ◌%◌, ◌==◌, nat_lt, ℕ, zero, suc, Bool, true, false, IsTrue, List, [], ◌∷◌, length, refl, sym, ap, ◌∙◌, arith, subst, slice_index, slice_set, if◌then◌else◌}
use Rattle.std.proofs.lemmas.Bool.Decides.{nat_tests}
use Rattle.std.specs.Net.Addr.{octets_of, segments_of}
use Rattle.std.specs.Net.Addr.{ipv4_octets, ipv6_segments}
use Rattle.std.specs.Net.Socket.{v6_ip, v6_scope_id, IsSocketAddr}
use Rattle.std.specs.declared.net.ip_addr.IpAddr.TheVariants as ips
use Rattle.std.specs.declared.net.ipv4_addr.Ipv4Addr.{Ipv4Addr}
use Rattle.std.specs.declared.net.ipv6_addr.Ipv6Addr.{Ipv6Addr}
use Rattle.std.specs.declared.net.socket_addr.SocketAddr.{SocketAddr}
use Rattle.std.specs.declared.net.socket_addr.SocketAddr.TheVariants.{V4, V6}
use Rattle.lw_udp.specs.Udp.{addr_of, can_keep, has_place, is_of_link, scope_of, with_scope, without_scope, CanBeKept, IsAt, IsSameSocket}

pub segments_back : (xs : List ℕ) → ((k : ℕ) → slice_index xs k < 2 ^ 16) → segments_of (octets_of xs) ≡ xs
segments_back [] small = refl
segments_back (s ∷ xs) small =
    let whole : s / 256 * 256 + s % 256 ≡ s = omega arith in
    λ i. whole i ∷ segments_back xs (λ k. small (suc k)) i

-- the segments and the scope that are found again
abbrev pub IsBack : List ℕ → ℕ → Type 0
IsBack xs scope = (without_scope (with_scope xs scope) ≡ xs) × (scope_of (with_scope xs scope) ≡ scope)

back_by : (link empty fits : Bool) (s0 s1 scope : ℕ) (rest : List ℕ) → is_of_link (s0 ∷ s1 ∷ rest) ≡ link
    → (s1 == 0) ≡ empty → nat_lt scope (2 ^ 16) ≡ fits → IsTrue (can_keep (s0 ∷ s1 ∷ rest) scope)
    → IsBack (s0 ∷ s1 ∷ rest) scope
back_by false empty fits s0 s1 scope rest l e f can = (grind (arith, nat_tests), grind (arith, nat_tests))
back_by true true true s0 s1 scope rest l e f can = (grind (arith, nat_tests), grind (arith, nat_tests))
back_by true true false s0 s1 scope rest l e f can = (grind (arith, nat_tests), grind (arith, nat_tests))
back_by true false fits s0 s1 scope rest l e f can = (grind (arith, nat_tests), grind (arith, nat_tests))

pub scope_back : (xs : List ℕ) (scope : ℕ) → length xs ≡ 8 → IsTrue (can_keep xs scope) → IsBack xs scope
scope_back [] scope long can = absurd (omega arith)
scope_back (s0 ∷ []) scope long can = absurd (omega arith)
scope_back (s0 ∷ s1 ∷ rest) scope long can = back_by _ _ _ s0 s1 scope rest refl refl refl can

-- segments with a scope that fits are of 16 bits
small_set : (xs : List ℕ) (scope : ℕ) → length xs ≡ 8 → scope < 2 ^ 16 → ((k : ℕ) → slice_index xs k < 2 ^ 16)
    → (k : ℕ) → slice_index (slice_set xs 1 scope) k < 2 ^ 16
small_set [] scope long fits small k = absurd (omega arith)
small_set (s0 ∷ []) scope long fits small k = absurd (omega arith)
small_set (s0 ∷ s1 ∷ rest) scope long fits small zero = small 0
small_set (s0 ∷ s1 ∷ rest) scope long fits small (suc zero) = fits
small_set (s0 ∷ s1 ∷ rest) scope long fits small (suc (suc k)) = small (suc (suc k))

small_by : (has : Bool) (xs : List ℕ) (scope : ℕ) → has_place xs scope ≡ has → length xs ≡ 8
    → ((k : ℕ) → slice_index xs k < 2 ^ 16) → (k : ℕ) → slice_index (with_scope xs scope) k < 2 ^ 16
small_by false xs scope h long small k =
    subst (λ (b : Bool). slice_index (if b then slice_set xs 1 scope else xs) k < 2 ^ 16) (sym h) (small k)
small_by true xs scope h long small k =
    let fits : scope < 2 ^ 16 = grind (arith, nat_tests) in
    subst (λ (b : Bool). slice_index (if b then slice_set xs 1 scope else xs) k < 2 ^ 16) (sym h)
    (small_set xs scope long fits small k)

same_v4 : (a b : Ipv4Addr) → ipv4_octets a ≡ ipv4_octets b → a ≡ b
same_v4 a b e = λ i. record { octets = e i }

same_v6 : (a b : Ipv6Addr) → ipv6_segments a ≡ ipv6_segments b → a ≡ b
same_v6 a b e = λ i. record { segments = e i }

pub found_again : (socket found : SocketAddr) → IsSocketAddr socket → CanBeKept socket → IsAt (addr_of socket) found → IsSameSocket found socket
found_again (V4 a) (V4 b) is can at = (ap ips.V4 (same_v4 _ _ at.0), at.1, refl)
found_again (V4 a) (V6 b) is can at = absurd at.0
found_again (V6 a) (V4 b) is can at = absurd at.0
found_again (V6 a) (V6 b) is can at =
    let small : (k : ℕ) → slice_index (with_scope (ipv6_segments (v6_ip a)) (v6_scope_id a)) k < 2 ^ 16 =
    small_by _ (ipv6_segments (v6_ip a)) (v6_scope_id a) refl is.0.0 is.0.1 in
    let back : segments_of (octets_of (with_scope (ipv6_segments (v6_ip a)) (v6_scope_id a))) ≡ with_scope (ipv6_segments (v6_ip a)) (v6_scope_id a) =
    segments_back _ small in
    let kept : IsBack (ipv6_segments (v6_ip a)) (v6_scope_id a) = scope_back (ipv6_segments (v6_ip a)) (v6_scope_id a) is.0.0 can in
    (ap ips.V6 (same_v6 _ _ (at.0 ∙ ap without_scope back ∙ kept.0)), at.1, at.2 ∙ ap scope_of back ∙ kept.1)
