-- The token in a file (RFC 6750, section 2.1: `b64token`).
use Rattle.std.specs.Prelude.{ℕ, ◌==◌, Bool, ◌&&◌, ◌||◌, List, length, take, drop, slice_index, nat_lt, Option, Some, None, if◌then◌else◌}
use Rattle.std.specs.List.{prefix_len}
use Rattle.std.specs.Char.{is_ascii_alphanumeric}

abbrev pub is_token_byte : ℕ → Bool
is_token_byte b =
    is_ascii_alphanumeric b || (b == 45) || (b == 46) || (b == 95) || (b == 126) || (b == 43) || (b == 47) || (b == 61)

-- the text ends here, or a line does, by LF or CRLF
abbrev pub ends_line : List ℕ → Bool
ends_line rest = (length rest == 0) || (slice_index rest 0 == 10)
    || (nat_lt 1 (length rest) && (slice_index rest 0 == 13) && (slice_index rest 1 == 10))

-- the length of a token, of 16 to 256 characters
abbrev pub is_length : ℕ → Bool
is_length n = nat_lt 15 n && nat_lt n 257

-- the first line, where it is a token
abbrev pub token_in : List ℕ → Option (List ℕ)
token_in text =
    let n = prefix_len is_token_byte text in
    if is_length n && ends_line (drop n text) then Some (take n text) else None
