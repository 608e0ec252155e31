-- Which values of a query are texts that take memory to decode.
use Rattle.std.specs.Prelude.{Bool, true, false}
use Rattle.lw_route.specs.declared.parameters.Name.{Name}
use Rattle.lw_route.specs.declared.parameters.Name.TheVariants.{After, Path}
use Rattle.lw_route.specs.declared.parameters.Form.{Form}
use Rattle.lw_route.specs.declared.parameters.Form.TheVariants as forms

-- the value of the name is a text that takes memory to decode
abbrev pub is_text : Name → Bool
is_text After = true
is_text Path = true
is_text _ = false

-- a query of the form may have such a value
abbrev pub gives_text : Form → Bool
gives_text forms.Registrations = true
gives_text forms.Observations = true
gives_text forms.Observing = true
gives_text _ = false
