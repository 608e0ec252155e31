-- The options of a message as a request or a report takes them (RFC 7252, sections 5.4 and 5.10; Observe:
-- RFC 7641, section 2).
use Rattle.std.specs.Prelude.{ℕ, ◌%◌, ◌==◌, nat_le, nat_lt, Bool, true, false, not, ◌&&◌, ◌||◌, if◌then◌else◌, List, [], ◌∷◌, length, Option, Some, None}
use Rattle.std.specs.List.{list_any}
use Rattle.lw_coap.specs.Message.{OptionContent}
use Rattle.lw_coap.specs.Number.{number_of}

-- the values of the options with a number, in their order
abbrev pub values_of : ℕ → List OptionContent → List (List ℕ)
values_of number [] = []
values_of number (option ∷ options) =
    if option.number == number then option.value ∷ values_of number options else values_of number options

-- an odd number is that of a critical option (RFC 7252, section 5.4.6)
abbrev pub is_critical : OptionContent → Bool
is_critical option = option.number % 2 == 1

abbrev pub has_critical : List OptionContent → Bool
has_critical options = list_any is_critical options

-- a critical option that a request may have: its number, the least and the most bytes of its value, and
-- whether it may stand more than once
pub record Rule : Type 0 where
  pub number : ℕ
  pub least : ℕ
  pub most : ℕ
  pub repeats : Bool

abbrev pub rule : ℕ → ℕ → ℕ → Bool → Rule
rule number least most repeats = record { number = number; least = least; most = most; repeats = repeats }

-- Uri-Host, Uri-Port, Uri-Path, Uri-Query, Accept (RFC 7252, section 5.10)
abbrev pub rules : List Rule
rules = rule 3 1 255 false ∷ rule 7 0 2 false ∷ rule 11 0 255 true ∷ rule 15 0 255 true ∷ rule 17 0 2 false ∷ []

-- the option has the rule's number, and a value of a length that the rule allows
abbrev pub admits : OptionContent → Rule → Bool
admits option rule = (option.number == rule.number) && (nat_le rule.least (length option.value) && nat_le (length option.value) rule.most)

-- a critical option that no rule admits
abbrev pub is_unrecognised : OptionContent → Bool
is_unrecognised option = is_critical option && not (list_any (admits option) rules)

-- an option that may stand once stands twice
abbrev pub is_repeated : List OptionContent → Rule → Bool
is_repeated options rule = not rule.repeats && nat_lt 1 (length (values_of rule.number options))

-- there is a critical option that a request may not have, or not once more (RFC 7252, sections 5.4.1, 5.4.3
-- and 5.4.5)
abbrev pub has_unrecognised : List OptionContent → Bool
has_unrecognised options = list_any is_unrecognised options || list_any (is_repeated options) rules

-- Proxy-Uri or Proxy-Scheme, of any length (RFC 7252, section 5.10.2)
abbrev pub is_proxy : OptionContent → Bool
is_proxy option = (option.number == 35) || (option.number == 39)

abbrev pub has_proxy : List OptionContent → Bool
has_proxy options = list_any is_proxy options

-- Of the values of an elective option the first is looked at, and its number counts. One of more bytes than
-- the option has counts as none.
abbrev pub first_number : ℕ → List (List ℕ) → Option ℕ
first_number most [] = None
first_number most (value ∷ values) = if nat_le (length value) most then Some (number_of value) else None

-- Content-Format has at most two bytes (RFC 7252, section 5.10.3)
abbrev pub content_format : List OptionContent → Option ℕ
content_format options = first_number 2 (values_of 12 options)

-- Observe has at most three bytes (RFC 7641, section 2)
abbrev pub observe_number : List OptionContent → Option ℕ
observe_number options = first_number 3 (values_of 6 options)
