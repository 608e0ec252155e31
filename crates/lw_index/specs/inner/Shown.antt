-- What the endpoints of a key are seen as.
use Rattle.std.specs.Prelude.{ℕ, List, [], ◌∷◌, map, string_bytes}
use Rattle.lw_index.specs.declared.texts.Form.{Form}
use Rattle.lw_index.specs.declared.texts.Form.TheVariants.{One, Several}

-- the bytes of each text
abbrev pub texts_in : Form → List (List ℕ)
texts_in (One text) = string_bytes text ∷ []
texts_in (Several set) = map string_bytes set.keys
