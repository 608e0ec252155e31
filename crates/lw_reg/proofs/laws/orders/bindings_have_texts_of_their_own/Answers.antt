use Rattle.lw_reg.specs.BindingLaws.{same_binding}
use Rattle.lw_reg.proofs.laws.orders.bindings_have_texts_of_their_own.Goals as goal

pub returns : goal.returns
returns c = same_binding
