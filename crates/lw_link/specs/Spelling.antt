-- Which bytes spell which links (a profile of RFC 6690, section 2).
use Rattle.std.specs.Prelude.{ℕ, List, IsUtf8, chars}
use Rattle.lw_link.specs.declared.style.Style.TheVariants.{Any}
use Rattle.lw_link.specs.Link.{LinkContent}
use Rattle.lw_link.specs.Grammar.{IsList}

-- the bytes are a text, and its characters are a list of these links
abbrev pub Spells : List ℕ → List LinkContent → Type 0
Spells bytes links = IsUtf8 bytes × IsList Any (chars bytes) links
