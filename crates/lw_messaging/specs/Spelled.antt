-- Which bodies the blocks that came spell (RFC 7959, sections 2.2 and 2.5).
use Rattle.std.specs.Prelude.{◌≡◌, ℕ, Bool, true, ◌⊎◌, List, [], ◌∷◌, ◌++◌, length, Option, Some, None}
use Rattle.lw_coap.specs.Message.{MessageContent}
use Rattle.lw_reg.specs.declared.addr.Addr.{Addr}
use Rattle.lw_messaging.specs.Blocks.{block_number, block_offset, has_more, is_block_of, body_options}
use Rattle.lw_messaging.specs.BlockAnswers.{block_of}
use Rattle.lw_messaging.specs.Kept.{BodyContent, is_live, is_of}
use Rattle.lw_messaging.specs.Bodies.{outcome, after}

-- a message that came, when and where from
pub record Came : Type 0 where
  pub now : ℕ
  pub from : Addr
  pub message : MessageContent

-- what is kept once these have come, of which the last stands first
abbrev pub kept_after : List Came → List BodyContent
kept_after [] = []
kept_after (came ∷ earlier) =
    after (kept_after earlier) came.now came.from (outcome (kept_after earlier) came.now came.from came.message)

-- what came has a block of the value, and the body is as it left it
pub record IsBlockAt (value : ℕ) (more : Bool) (came : Came) (body : BodyContent) : Type 0 where
  pub block : block_of came.message ≡ Some value
  pub followed : has_more value ≡ more
  pub sized : is_block_of value came.message.payload ≡ true
  pub from : body.from ≡ came.from
  pub last : body.last ≡ came.now
  pub options : body.options ≡ body_options came.message.options

-- block 0: the body is its payload
pub record Begins (more : Bool) (came : Came) (body : BodyContent) : Type 0 where
  pub value : ℕ
  pub is : IsBlockAt value more came body
  pub number : block_number value ≡ 0
  pub payload : body.payload ≡ came.message.payload

-- a block of the same source with the same options, which begins where the body before it ends, within its time
pub record Follows (before : BodyContent) (more : Bool) (came : Came) (body : BodyContent) : Type 0 where
  pub value : ℕ
  pub is : IsBlockAt value more came body
  pub source : is_of came.from body.options before ≡ true
  pub live : is_live came.now before ≡ true
  pub offset : length before.payload ≡ block_offset value
  pub payload : body.payload ≡ before.payload ++ came.message.payload

-- Blocks spell a body, of which the last stands first: the first begins it, each further one follows what those before
-- it spell, and others follow each but the last.
abbrev pub Spell : Bool → List Came → BodyContent → Type 0
Spell more [] body = ⊥
Spell more (came ∷ earlier) body =
    (Begins more came body × (earlier ≡ []))
    ⊎ ((before : BodyContent) × Spell true earlier before × Follows before more came body)

-- some of what came, in its order
abbrev pub AreAmong : List Came → List Came → Type 0
AreAmong [] all = Unit {0}
AreAmong (came ∷ some) [] = ⊥
AreAmong (came ∷ some) (first ∷ all) = ((came ≡ first) × AreAmong some all) ⊎ AreAmong (came ∷ some) all

-- blocks among what came spell the body
abbrev pub IsSpelled : Bool → List Came → BodyContent → Type 0
IsSpelled more came body = (blocks : List Came) × AreAmong blocks came × Spell more blocks body

abbrev pub AreSpelled : List Came → List BodyContent → Type 0
AreSpelled came [] = Unit {0}
AreSpelled came (body ∷ bodies) = IsSpelled true came body × AreSpelled came bodies
