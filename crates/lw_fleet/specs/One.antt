-- What the program prints of one datagram that a new node takes.
use Rattle.std.specs.Prelude.{◌≡◌, ◌≤◌, ℕ, List, [], length, Option, None, IfSome, Ok}
use Rattle.std.specs.Io.KnownBytes.{Appends}
use Rattle.std.specs.Option.{option_to_list}
use Rattle.hex.specs.Hex.{decode_of}
use Rattle.lw_stamp.specs.Moment.{ms_of}
use Rattle.lw_reg.specs.declared.addr.Addr.{Addr}
use Rattle.lw_reg.specs.Addr.{addr_text, IsAddr}
use Rattle.lw_reg.specs.Marks.{left_by}
use Rattle.lw_reg.specs.Registration.{Registration}
use Rattle.lw_table.specs.Answers.{FirstAfter}
use Rattle.lw_call.specs.Contents.{TakenContent}
use Rattle.lw_node.specs.Calls.{Takes}
use Rattle.lw_node.specs.Node.{NodeContent, fresh}
use Rattle.lw_json.specs.Answer.{answer_text}
use Rattle.lw_fleet.specs.declared.command.OneOptions.{OneOptions}
use Rattle.lw_fleet.specs.Line.{line_of, longest_line}
use Rattle.lw_serve.specs.Ending.{AppendsFront}

-- the text of an address
abbrev pub IsAddressText : List ℕ → Type 0
IsAddressText text = (address : Addr) × IsAddr address × (text ≡ addr_text address)

-- A new node, which knows of no operation, takes the datagram at this moment from this address; the text is its
-- reply, and the first registration that is then shown by the operation that it issued, if it did.
pub record IsAnswered (number now : ℕ) (source : Addr) (datagram text : List ℕ) : Type 0 where
  pub taken : TakenContent
  pub node : NodeContent
  pub shown : Option Registration
  pub takes : Takes (fresh number) (left_by []) now source datagram taken node
  pub first : FirstAfter (left_by (option_to_list takes.operation)) now None shown
  pub text_is : text ≡ answer_text taken.reply shown

-- the text is the answer to the datagram that the first line of the input spells in hex
pub record IsPrinted (options : OneOptions) (input text : List ℕ) : Type 0 where
  pub source : Addr
  pub datagram : List ℕ
  pub in_range : IsAddr source
  pub from_is : options.from.now ≡ addr_text source
  pub line_fits : length (line_of input) ≤ longest_line
  pub spelled : decode_of (line_of input) ≡ Ok datagram
  pub answered : IsAnswered options.node (ms_of options.now) source datagram text

-- the answer to the first line of the input is appended
abbrev pub Prints : OneOptions → Option (List ℕ) → Option (List ℕ) → Option (List ℕ) → Type 0
Prints options input before after =
    IfSome input (λ bytes. (text : List ℕ) × IsPrinted options bytes text × Appends before after text)

-- a front of it is appended
abbrev pub PrintsFront : OneOptions → Option (List ℕ) → Option (List ℕ) → Option (List ℕ) → Type 0
PrintsFront options input before after = IfSome input (λ bytes. (text : List ℕ) × IsPrinted options bytes text
    × AppendsFront before after text)
