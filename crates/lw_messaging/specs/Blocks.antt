-- The option Block1, whose value says which part of a body a message has (RFC 7959, sections 2.1 and 2.2).
use Rattle.std.specs.Prelude.{ℕ, ◌+◌, ◌*◌, ◌/◌, ◌%◌, ◌^◌, ◌==◌, nat_lt, nat_le, Bool, not, ◌&&◌, ◌||◌, if◌then◌else◌}
use Rattle.std.specs.Prelude.{List, [], ◌∷◌, length, filter, Option, Some, None}
use Rattle.lw_coap.specs.Message.{OptionContent}
use Rattle.lw_coap.specs.Number.{number_of}
use Rattle.lw_messaging.specs.declared.block.Block.{Block}

abbrev pub value_of : Block → ℕ
value_of block = block.value

-- ---- a value: the number of the block, whether more blocks follow, the exponent of the block's size (section 2.2)
abbrev pub block_number : ℕ → ℕ
block_number value = value / 16

abbrev pub has_more : ℕ → Bool
has_more value = value / 8 % 2 == 1

abbrev pub size_exponent : ℕ → ℕ
size_exponent value = value % 8

-- 16 bytes for the exponent 0, and twice as many for each further one
abbrev pub block_size : ℕ → ℕ
block_size value = 2 ^ (size_exponent value + 4)

-- how many bytes of the body stand before the block
abbrev pub block_offset : ℕ → ℕ
block_offset value = block_number value * block_size value

-- The exponent 7 is reserved. A block that others follow is as long as its size says, and the last one at most so
-- (section 2.2).
abbrev pub is_block_of : ℕ → List ℕ → Bool
is_block_of value payload =
    not (size_exponent value == 7)
    && (if has_more value then length payload == block_size value else nat_le (length payload) (block_size value))

-- a number in the fewest bytes, most significant byte first, and 0 in none (RFC 7252, section 3.2)
abbrev pub shortest_bytes : ℕ → List ℕ
shortest_bytes value =
    if value == 0 then []
    else if nat_lt value 256 then value ∷ []
    else if nat_lt value 65536 then (value / 256) ∷ (value % 256) ∷ []
    else (value / 65536) ∷ (value / 256 % 256) ∷ (value % 256) ∷ []

-- ---- the options of a message: Block1 has the number 27, and Size1 60 (section 6)
abbrev pub values_of : ℕ → List OptionContent → List (List ℕ)
values_of number [] = []
values_of number (option ∷ options) =
    if option.number == number then option.value ∷ values_of number options else values_of number options

-- what the only value of an option stands for, where it has at most three bytes (section 2.2)
abbrev pub only_number : List (List ℕ) → Option ℕ
only_number [] = None
only_number (value ∷ []) = if nat_le (length value) 3 then Some (number_of value) else None
only_number (value ∷ other ∷ values) = None

-- The value of the Block1 of a message. Where there is no such option, or two, or one of more than three bytes, there
-- is none: then it is left to the store (RFC 7252, sections 5.4.1 and 5.4.5).
abbrev pub block_in : List OptionContent → Option ℕ
block_in options = only_number (values_of 27 options)

-- an option of the body, whichever of its blocks comes
abbrev pub is_of_body : OptionContent → Bool
is_of_body option = not ((option.number == 27) || (option.number == 60))

abbrev pub body_options : List OptionContent → List OptionContent
body_options options = filter is_of_body options
