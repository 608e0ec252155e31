-- A file of a login: a user and a password, each on a line (ASCII: control characters, RFC 20).
use Rattle.std.specs.Prelude.{◌≡◌, ◌==◌, ◌||◌, ◌<◌, ◌≤◌, ◌⊎◌, ℕ, Bool, false, List, [], ◌∷◌, ◌++◌, length, All, nat_lt}

abbrev pub is_control : ℕ → Bool
is_control byte = nat_lt byte 32 || byte == 127

-- what a user or a password can be: 1 to 256 bytes, none of which is a control character
pub record IsPart (part : List ℕ) : Type 0 where
  pub some : 0 < length part
  pub short : length part ≤ 256
  pub clean : All (λ byte. is_control byte ≡ false) part

-- a line feed, or a carriage return and a line feed
abbrev pub IsEnd : List ℕ → Type 0
IsEnd end = (end ≡ 10 ∷ []) ⊎ (end ≡ 13 ∷ 10 ∷ [])

-- the bytes are both lines, the last of which may lack its end
pub record IsLogin (bytes user password : List ℕ) : Type 0 where
  pub is_user : IsPart user
  pub is_password : IsPart password
  pub end : List ℕ
  pub last : List ℕ
  pub ended : IsEnd end
  pub may_end : (last ≡ []) ⊎ IsEnd last
  pub written : bytes ≡ user ++ (end ++ (password ++ last))
