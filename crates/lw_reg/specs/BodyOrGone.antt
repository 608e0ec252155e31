-- What is known of a registration that was not removed.
use Rattle.std.specs.Prelude.{ℕ, List}
use Rattle.std.specs.List.{AllByRecursion}
use Rattle.lw_join.specs.Parts.{entries_of}
use Rattle.lw_join.specs.declared.last.Last.{Last}
use Rattle.lw_join.specs.declared.or_gone.OrGone.{OrGone}
use Rattle.lw_join.specs.declared.or_gone.OrGone.TheVariants.{Here, Gone}
use Rattle.lw_reg.specs.declared.body.Body.{Body}
use Rattle.lw_reg.specs.Attribute.{IsAttribute}
use Rattle.lw_reg.specs.Body.{nothing}

-- what is known; nothing of a removed registration
abbrev pub known_in : OrGone Body → Body
known_in Gone = nothing
known_in (Here body) = body

-- what is kept under a name is an attribute
abbrev pub KeepsAttributes : OrGone Body → Type 0
KeepsAttributes Gone = Unit {0}
KeepsAttributes (Here body) = AllByRecursion (λ (w : List ℕ × Last (List ℕ)). IsAttribute w.0 w.1.write.1) (entries_of body.maps.left)
