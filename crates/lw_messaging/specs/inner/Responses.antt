-- Which datagrams may be responses, by their second byte.
use Rattle.std.specs.Prelude.{ℕ, Bool, false, List, ◌∷◌}
use Rattle.lw_messaging.specs.FetchMessages.{is_response_code}

abbrev pub may_respond : List ℕ → Bool
may_respond (first ∷ code ∷ rest) = is_response_code code
may_respond _ = false
