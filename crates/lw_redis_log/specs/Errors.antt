-- Errors of a Redis (Redis serialization protocol, version 2: simple errors; the first word is the kind of the error).
use Rattle.std.specs.Prelude.{◌≡◌, ◌==◌, ◌||◌, ◌⊎◌, ℕ, Bool, List, [], ◌∷◌, ◌++◌, codes, nat_lt}
use Rattle.std.specs.List.{before_first}

-- the prefix of an error: what stands before its first space
abbrev pub prefix_of : List ℕ → List ℕ
prefix_of text = before_first (λ byte. byte == 32) text

abbrev pub IsAmong : List ℕ → List (List ℕ) → Type 0
IsAmong x [] = ⊥
IsAmong x (y ∷ ys) = (x ≡ y) ⊎ IsAmong x ys

-- the server does not answer now: it loads its data, runs a script, moves a part of its keys, or has lost its primary
abbrev pub unready_prefixes : List (List ℕ)
unready_prefixes = codes "LOADING" ∷ codes "BUSY" ∷ codes "TRYAGAIN" ∷ codes "MASTERDOWN" ∷ []

-- it does not write now: it is a replica, in a cluster that is down, out of memory, cannot write its disk, or has fewer
-- replicas than it is to have
abbrev pub unwriting_prefixes : List (List ℕ)
unwriting_prefixes =
    codes "READONLY" ∷ codes "CLUSTERDOWN" ∷ codes "OOM" ∷ codes "MISCONF" ∷ codes "NOREPLICAS" ∷ []

-- it has as many connections as it takes, which alone of the errors with the prefix `ERR` passes
abbrev pub IsCrowded : List ℕ → Type 0
IsCrowded text = (rest : List ℕ) × (text ≡ codes "ERR max number of clients" ++ rest)

-- an error that passes
abbrev pub Passes : List ℕ → Type 0
Passes text = IsAmong (prefix_of text) unready_prefixes ⊎ (IsAmong (prefix_of text) unwriting_prefixes ⊎ IsCrowded text)

-- a byte that ASCII does not print (RFC 20)
abbrev pub is_hidden : ℕ → Bool
is_hidden byte = nat_lt byte 32 || nat_lt 126 byte
