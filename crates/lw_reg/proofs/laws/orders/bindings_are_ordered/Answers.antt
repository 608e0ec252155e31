use Rattle.lw_reg.specs.BindingLaws.{binding_texts, binding_order}
use Rattle.lw_reg.proofs.laws.orders.bindings_are_ordered.Goals as goal

pub returns-clause-by_text : goal.returns-clause-by_text
returns-clause-by_text c = binding_texts

pub returns-clause-total : goal.returns-clause-total
returns-clause-total c = binding_order
