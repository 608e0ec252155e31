-- The text of a binding.
use Rattle.std.specs.Prelude.{ℕ, List}
use Rattle.lw_reg.specs.declared.binding.Binding.{Binding}
use Rattle.lw_reg.specs.BindingText.{text_in}

abbrev pub binding_text : Binding → List ℕ
binding_text b = text_in b.letters
