-- What is kept of the bodies whose blocks have not all come, and for how long (RFC 7959, section 2.5; RFC 7252, section
-- 4.8.2).
use Rattle.std.specs.Prelude.{ℕ, ◌+◌, ◌≤◌, ◌==◌, nat_lt, nat_le, Bool, not, ◌&&◌, if◌then◌else◌, List, [], ◌∷◌, ◌++◌}
use Rattle.std.specs.Prelude.{length, filter, sum_by}
use Rattle.std.specs.Cmp.Lexicographic.{pointwise}
use Rattle.lw_coap.specs.Message.{OptionContent}
use Rattle.lw_reg.specs.declared.addr.Addr.{Addr}
use Rattle.lw_reg.specs.AddrOrder.{same_addr}

-- a body as far as it has come: its source, the moment of its last block in milliseconds, its options, its bytes
pub record BodyContent : Type 0 where
  pub from : Addr
  pub last : ℕ
  pub options : List OptionContent
  pub payload : List ℕ

-- a body ends 247 seconds after its last block: EXCHANGE_LIFETIME
abbrev pub is_live : ℕ → BodyContent → Bool
is_live now body = nat_le now (body.last + 247000)

-- ---- whose body it is: blocks of one source that have the same options belong together
abbrev pub same_option : OptionContent → OptionContent → Bool
same_option a b = (a.number == b.number) && pointwise ◌==◌ a.value b.value

abbrev pub same_options : List OptionContent → List OptionContent → Bool
same_options a b = pointwise same_option a b

abbrev pub is_of : Addr → List OptionContent → BodyContent → Bool
is_of from options body = same_addr body.from from && same_options body.options options

-- ---- what stays beside the body of a block that has come
abbrev pub is_other : ℕ → Addr → List OptionContent → BodyContent → Bool
is_other now from options body = is_live now body && not (is_of from options body)

abbrev pub others : ℕ → Addr → List OptionContent → List BodyContent → List BodyContent
others now from options bodies = filter (is_other now from options) bodies

-- ---- room: at most 1,024 bodies, and 4,194,304 bytes of theirs, where each option counts for 32 more than its value
abbrev pub option_weight : OptionContent → ℕ
option_weight option = 32 + length option.value

abbrev pub options_weight : List OptionContent → ℕ
options_weight options = sum_by option_weight options

abbrev pub weight_of : BodyContent → ℕ
weight_of body = options_weight body.options + length body.payload

abbrev pub has_room : ℕ → List BodyContent → Bool
has_room weight bodies = nat_lt (length bodies) 1024 && nat_le (sum_by weight_of bodies + weight) 4194304

-- what is left where the oldest go until there is room
abbrev pub without_oldest : ℕ → List BodyContent → List BodyContent
without_oldest weight [] = []
without_oldest weight (body ∷ bodies) =
    if has_room weight (body ∷ bodies) then body ∷ bodies else without_oldest weight bodies

abbrev pub with_body : List BodyContent → BodyContent → List BodyContent
with_body bodies body = without_oldest (weight_of body) bodies ++ body ∷ []

pub record AreBounded (bodies : List BodyContent) : Type 0 where
  pub count : length bodies ≤ 1024
  pub bytes : sum_by weight_of bodies ≤ 4194304
