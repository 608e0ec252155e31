-- The text that a list of links is printed as: no spaces, and a backslash before `"` and `\` alone.
use Rattle.std.specs.Prelude.{ℕ, ◌||◌, ◌==◌, if◌then◌else◌, List, [], ◌∷◌, ◌++◌, encode_utf8, chars}
use Rattle.lw_link.specs.declared.link.Attr.{Attr}
use Rattle.lw_link.specs.declared.link.AttrValue.{AttrValue}
use Rattle.lw_link.specs.declared.link.AttrValue.TheVariants.{Absent, Plain, Quoted}
use Rattle.lw_link.specs.Link.{LinkContent}

-- a character between quotes
abbrev pub escaped : ℕ → List ℕ
escaped c = if c == 34 || c == 92 then 92 ∷ encode_utf8 c else encode_utf8 c

-- characters between quotes
abbrev pub escaped_all : List ℕ → List ℕ
escaped_all [] = []
escaped_all (c ∷ cs) = escaped c ++ escaped_all cs

-- nothing, or `=` and the value
abbrev pub value_text : AttrValue → List ℕ
value_text Absent = []
value_text (Plain text) = 61 ∷ text
value_text (Quoted text) = 61 ∷ 34 ∷ (escaped_all (chars text) ++ 34 ∷ [])

-- each attribute behind `;`
abbrev pub attrs_text : List Attr → List ℕ
attrs_text [] = []
attrs_text (attr ∷ attrs) = 59 ∷ ((attr.name ++ value_text attr.value) ++ attrs_text attrs)

-- the target between `<` and `>`, and the attributes
abbrev pub link_text : LinkContent → List ℕ
link_text link = 60 ∷ (link.target ++ 62 ∷ attrs_text link.attrs)

-- each link behind `,`
abbrev pub more_text : List LinkContent → List ℕ
more_text [] = []
more_text (link ∷ links) = 44 ∷ (link_text link ++ more_text links)

-- links with `,` between them
abbrev pub printing : List LinkContent → List ℕ
printing [] = []
printing (link ∷ links) = link_text link ++ more_text links
