-- Options about HTTP that are refused are given by nothing that could be served.
use Rattle.std.proofs.Common.{◌≡◌, List, Option, Some, None, Bor, refl, sym, subst, ◌∙◌, inl, inr, codes}
use Rattle.std.specs.Prelude.{option_copied}
use Rattle.std.specs.declared.net.socket_addr.SocketAddr.{SocketAddr}
use Rattle.std.proofs.NetLemmas.Theorems.{IsSocketText_unique}
use Rattle.clap.specs.Words.{Row, Text, first_of}
use Rattle.lw_fleet.specs.declared.http_options.HttpOptions.{HttpOptions}
use Rattle.lw_fleet.specs.CommandLine.{IsAddressIfGiven, IsGivenToHttp, IsGuarded, IsHttp}

-- a text of `--http` that writes no address
pub no_address : (rows : List Row) → ((address : Option SocketAddr) → ¬ IsAddressIfGiven (first_of (codes "http") rows) address)
    → (http : Option HttpOptions) → ¬ IsHttp rows http
no_address rows none None (absent, _) = none None (subst (λ text. IsAddressIfGiven text None) (sym absent) refl)
no_address rows none (Some http) given = none (Some http.address) given.address

-- an address, with options that do not go with it
pub not_at_address : (rows : List Row) (address : SocketAddr) → IsAddressIfGiven (first_of (codes "http") rows) (Some address)
    → ((http : HttpOptions) → ¬ IsGivenToHttp rows http) → (http : Option HttpOptions) → ¬ IsHttp rows http
not_at_address rows address at none None (absent, _) =
    let is : Some address ≡ None = subst (λ text. IsAddressIfGiven text (Some address)) absent at in
    cc
not_at_address rows address at none (Some http) given = none http given

-- a text writes one address
same_address : (text : Option Text) (a b : SocketAddr) → IsAddressIfGiven text (Some a) → IsAddressIfGiven text (Some b) → a ≡ b
same_address None a b is_a is_b = cc
same_address (Some text) a b is_a is_b = IsSocketText_unique text a b is_a is_b

none_alike : (a b : Option (Bor Text)) → option_copied a ≡ option_copied b → b ≡ None → a ≡ None
none_alike None b same none = refl
none_alike (Some text) None same none = cc
none_alike (Some text) (Some other) same none = cc

guarded_alike : (address : SocketAddr) (a b : Option (Bor Text)) → option_copied a ≡ option_copied b → IsGuarded address a → IsGuarded address b
guarded_alike address a b same (inl local) = inl local
guarded_alike address a b same (inr some) = inr (λ none. some (none_alike a b same none))

-- an address off the loopback, without a token
pub not_guarded : (rows : List Row) (address : SocketAddr) (token_file : Option (Bor Text))
    → IsAddressIfGiven (first_of (codes "http") rows) (Some address) → option_copied token_file ≡ first_of (codes "http-token-file") rows
    → ¬ IsGuarded address token_file → (http : HttpOptions) → ¬ IsGivenToHttp rows http
not_guarded rows address token_file at is unguarded http given =
    unguarded (guarded_alike address http.token_file token_file (given.token_file.0 ∙ sym is)
    (subst (λ a. IsGuarded a http.token_file) (same_address _ http.address address given.address at) given.guarded))
