-- Words of replies (Redis serialization protocol, version 2): simple strings, errors, integers, bulk strings, and heads of arrays.
use Rattle.std.specs.Prelude.{◌≡◌, ◌≢◌, ◌<◌, ◌≤◌, ◌^◌, ℕ, List, [], ◌∷◌, ◌++◌, length, All}
use Rattle.std.specs.Fmt.{decimal}
use Rattle.lw_resp.specs.Bytes.{crlf, count_line, bulk_bytes}
use Rattle.lw_resp.specs.declared.words.Word.{Word}
use Rattle.lw_resp.specs.declared.words.Word.TheVariants.{Status as StatusWord, Error as ErrorWord, Number as NumberWord, Bulk as BulkWord, Array as ArrayWord, Null as NullWord, NullArray as NullArrayWord}

pub data WordContent : Type 0 where
  Status : List ℕ → WordContent
  Error : List ℕ → WordContent
  Number : ℕ → WordContent
  Bulk : List ℕ → WordContent
  Array : ℕ → WordContent
  Null : WordContent
  NullArray : WordContent

-- ---- what the library's words are
abbrev pub word_content : Word → WordContent
word_content (StatusWord text) = Status text.now
word_content (ErrorWord text) = Error text.now
word_content (NumberWord number) = Number number
word_content (BulkWord content) = Bulk content.now
word_content (ArrayWord number) = Array number
word_content NullWord = Null
word_content NullArrayWord = NullArray

-- ---- the bytes of a word
-- a line: its kind, a text, and its end
abbrev pub text_line : ℕ → List ℕ → List ℕ
text_line kind text = kind ∷ (text ++ crlf)

-- `+` a text, `-` a text, `:` a number, `$` a bulk string, `*` how many replies follow; `$-1` and `*-1` are null
abbrev pub word_bytes : WordContent → List ℕ
word_bytes (Status text) = text_line 43 text
word_bytes (Error text) = text_line 45 text
word_bytes (Number number) = count_line 58 number
word_bytes (Bulk content) = bulk_bytes content
word_bytes (Array number) = count_line 42 number
word_bytes Null = 36 ∷ 45 ∷ 49 ∷ crlf
word_bytes NullArray = 42 ∷ 45 ∷ 49 ∷ crlf

-- ---- which words are read
-- a text has no carriage return and no line feed, so that its line ends where it does
abbrev pub IsInLine : ℕ → Type 0
IsInLine byte = (byte ≢ 13) × (byte ≢ 10)

abbrev pub IsLineText : List ℕ → Type 0
IsLineText text = All IsInLine text

-- the text of a line has at most 65,536 bytes
pub record IsText (text : List ℕ) : Type 0 where
  pub in_line : IsLineText text
  pub short : length text ≤ 65536

-- a bulk string has at most 512 megabytes
abbrev pub IsBulk : List ℕ → Type 0
IsBulk content = length content ≤ 2 ^ 29

-- a number is not below 0, and has 63 bits
abbrev pub IsNumber : ℕ → Type 0
IsNumber number = number < 2 ^ 63

abbrev pub IsWord : WordContent → Type 0
IsWord (Status text) = IsText text
IsWord (Error text) = IsText text
IsWord (Number number) = IsNumber number
IsWord (Bulk content) = IsBulk content
IsWord (Array number) = IsNumber number
IsWord Null = Unit {0}
IsWord NullArray = Unit {0}
