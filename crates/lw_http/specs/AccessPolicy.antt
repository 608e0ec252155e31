-- Who may ask: for which hosts (RFC 9110, section 7.2), with which token (RFC 6750, section 2.1), and from which site
-- (RFC 6454, section 7).
use Rattle.std.specs.Prelude.{◌≡◌, ◌⊎◌, ℕ, ◌==◌, not, List, [], ◌∷◌, ◌++◌, take, drop, codes, string_bytes, IsTrue, Option, Some, None, IfSome, IsSomeAnd, option_map}
use Rattle.std.specs.List.{prefix_len}
use Rattle.std.specs.Net.Grammar.{IsIpv4Text}
use Rattle.std.specs.declared.net.ipv4_addr.Ipv4Addr.{Ipv4Addr}
use Rattle.http.specs.declared.request.Request.{Request}
use Rattle.http.specs.Request.{head_of}
use Rattle.http_header.specs.Token.{lowercase}
use Rattle.http_header.specs.FieldValue.{FieldValue}
use Rattle.http_header.specs.HeaderMap.{get, get_all}
use Rattle.http_server.specs.Host.{is_bracketed}
use Rattle.http_uri.specs.Uri.{uri_authority, uri_path}
use Rattle.http_uri.specs.Grammar.{authority_host}
use Rattle.lw_http.specs.declared.policy.AccessPolicy.{AccessPolicy}

-- the token that a request has to bring, if it has to
abbrev pub token_of : AccessPolicy → Option (List ℕ)
token_of policy = option_map (λ token. token.items) policy.token

-- the name that a request may be for, beside addresses
abbrev pub host_name : AccessPolicy → Option (List ℕ)
host_name policy = option_map string_bytes policy.host

-- ---- hosts
-- what stands before the first colon
abbrev pub before_port : List ℕ → List ℕ
before_port text = take (prefix_len (λ byte. not (byte == 58)) text) text

-- the name is the one that is served, whatever the case of its letters
abbrev pub IsOurs : Option (List ℕ) → List ℕ → Type 0
IsOurs None name = ⊥
IsOurs (Some host) name = lowercase name ≡ lowercase host

abbrev pub IsIpv4 : List ℕ → Type 0
IsIpv4 name = (address : Ipv4Addr) × IsIpv4Text name address

-- an IPv4 address, `localhost`, or our name
abbrev pub IsNameServed : AccessPolicy → List ℕ → Type 0
IsNameServed policy name = IsIpv4 name
    ⊎ ((lowercase name ≡ codes "localhost") ⊎ IsOurs (host_name policy) name)

-- an IPv6 address stands in brackets; of all else the name stands before the port
abbrev pub IsHostServed : AccessPolicy → List ℕ → Type 0
IsHostServed policy text = IsTrue (is_bracketed text) ⊎ IsNameServed policy (before_port text)

-- The host that the request names: that of its target, where it has one, and else that of the field (RFC 9112, section
-- 3.2.2). A request of HTTP/1.0 may name none.
abbrev pub named_host : Option (List ℕ) → Option FieldValue → Option (List ℕ)
named_host (Some authority) field = Some (authority_host authority)
named_host None (Some value) = Some value.bytes
named_host None None = None

abbrev pub host_of : Request (List ℕ) → Option (List ℕ)
host_of request = named_host (uri_authority (head_of request).uri) (get (head_of request).headers (codes "host"))

-- the request names no host, or one that is served
abbrev pub IsForUs : AccessPolicy → Request (List ℕ) → Type 0
IsForUs policy request = IfSome (host_of request) (IsHostServed policy)

-- ---- tokens
-- the scheme's name in any case, one space, and the token
pub record Presents (token value : List ℕ) : Type 0 where
  pub scheme : lowercase (take 7 value) ≡ codes "bearer "
  pub token_is : drop 7 value ≡ token

-- the value, where there is exactly one
abbrev pub only_of : List FieldValue → Option FieldValue
only_of [] = None
only_of (value ∷ []) = Some value
only_of (value ∷ (other ∷ more)) = None

-- the path is asked for by whoever comes: the page, and whether the server serves
abbrev pub IsOpen : List ℕ → Type 0
IsOpen path = (path ≡ codes "/") ⊎ (path ≡ codes "/v1/health")

abbrev pub HasToken : Option (List ℕ) → List FieldValue → Type 0
HasToken None values = Unit {0}
HasToken (Some token) values = IsSomeAnd (only_of values) (λ value. Presents token value.bytes)

-- the fields in which tokens are presented
abbrev pub tokens_in : Request (List ℕ) → List FieldValue
tokens_in request = get_all (head_of request).headers (codes "authorization")

-- the request may be answered
abbrev pub HasAccess : AccessPolicy → Request (List ℕ) → Type 0
HasAccess policy request = IsOpen (uri_path (head_of request).uri)
    ⊎ HasToken (token_of policy) (tokens_in request)

-- ---- sites
-- the site is the host, by either scheme; another port is another site
abbrev pub IsSiteOf : List ℕ → List ℕ → Type 0
IsSiteOf host origin = (origin ≡ codes "http://" ++ host) ⊎ (origin ≡ codes "https://" ++ host)

-- the one value of `Origin` is the site that the field `Host` names
abbrev pub IsOurSite : List FieldValue → Option FieldValue → Type 0
IsOurSite origins host =
    IsSomeAnd (only_of origins) (λ origin. IsSomeAnd host (λ value. IsSiteOf value.bytes origin.bytes))

-- no page of another site made the request, as far as its browser tells: without the field `Origin` none did
abbrev pub IsSameOrigin : Request (List ℕ) → Type 0
IsSameOrigin request = (get (head_of request).headers (codes "origin") ≡ None)
    ⊎ IsOurSite (get_all (head_of request).headers (codes "origin")) (get (head_of request).headers (codes "host"))
