-- The address of a socket as one that the store keeps. Of IPv6 each segment has two octets.
use Rattle.std.specs.Prelude.{◌≡◌, ◌^◌, ℕ, Bool, ◌&&◌, ◌==◌, nat_le, nat_lt, IsTrue, List, if◌then◌else◌, slice_index, slice_set}
use Rattle.std.specs.Net.Addr.{ipv4_octets, ipv6_segments, octets_of, segments_of, IsV4And, IsV6And, MatchIp}
use Rattle.std.specs.Net.Socket.{socket_ip, socket_port, socket_scope_id}
use Rattle.std.specs.declared.net.ip_addr.IpAddr.{IpAddr}
use Rattle.std.specs.declared.net.ip_addr.IpAddr.TheVariants as ips
use Rattle.std.specs.declared.net.socket_addr.SocketAddr.{SocketAddr}
use Rattle.lw_reg.specs.declared.addr.Addr.{Addr}
use Rattle.lw_reg.specs.declared.addr.Addr.TheVariants.{V4, V6}

-- ---- The scope. An address of fe80::/10 is one of a link alone (RFC 4291, section 2.5.6), and the number of the scope
-- tells of which. Behind its first ten bits are 54 bits of 0, so its second segment is 0. The store has no other place
-- for a scope, and keeps it in that segment, where it fits.
abbrev pub is_of_link : List ℕ → Bool
is_of_link segments = nat_le 0xfe80 (slice_index segments 0) && nat_le (slice_index segments 0) 0xfebf

-- a scope has a place there
abbrev pub has_place : List ℕ → ℕ → Bool
has_place segments scope = is_of_link segments && ((slice_index segments 1 == 0) && nat_lt scope (2 ^ 16))

-- the segments that are kept of those of an address with this scope
abbrev pub with_scope : List ℕ → ℕ → List ℕ
with_scope segments scope = if has_place segments scope then slice_set segments 1 scope else segments

-- the scope that is kept, and 0 where none is
abbrev pub scope_of : List ℕ → ℕ
scope_of segments = if is_of_link segments then slice_index segments 1 else 0

-- the segments of the address
abbrev pub without_scope : List ℕ → List ℕ
without_scope segments = if is_of_link segments then slice_set segments 1 0 else segments

-- ---- Addresses
-- the octets of an IP address, of the family that it is of, and a port
abbrev pub addr_at : IpAddr → ℕ → ℕ → Addr
addr_at (ips.V4 ip) port scope = V4 (ipv4_octets ip) port
addr_at (ips.V6 ip) port scope = V6 (octets_of (with_scope (ipv6_segments ip) scope)) port

-- the IP address and the port of a socket, and the scope, if it has a place
abbrev pub addr_of : SocketAddr → Addr
addr_of socket = addr_at (socket_ip socket) (socket_port socket) (socket_scope_id socket)

-- the socket has the address's octets but for the scope that they keep, of the same family, its port, and that scope
abbrev pub IsAt : Addr → SocketAddr → Type 0
IsAt (V4 address port) socket = IsV4And (socket_ip socket) (λ ip. ipv4_octets ip ≡ address)
    × (socket_port socket ≡ port) × (socket_scope_id socket ≡ 0)
IsAt (V6 address port) socket = IsV6And (socket_ip socket) (λ ip. ipv6_segments ip ≡ without_scope (segments_of address))
    × (socket_port socket ≡ port) × (socket_scope_id socket ≡ scope_of (segments_of address))

-- the scope is kept: that of an address of one link has a place, and another address has none
abbrev pub can_keep : List ℕ → ℕ → Bool
can_keep segments scope = if is_of_link segments then has_place segments scope else (scope == 0)

-- the same of a socket
abbrev pub CanBeKept : SocketAddr → Type 0
CanBeKept socket =
    MatchIp (socket_ip socket) (λ _. socket_scope_id socket ≡ 0)
    (λ ip. IsTrue (can_keep (ipv6_segments ip) (socket_scope_id socket)))

-- two sockets have the same IP address, the same port and the same scope
abbrev pub IsSameSocket : SocketAddr → SocketAddr → Type 0
IsSameSocket a b = (socket_ip a ≡ socket_ip b) × (socket_port a ≡ socket_port b)
    × (socket_scope_id a ≡ socket_scope_id b)
