use Rattle.lw_reg.proofs.BindingLemmas.{letters_of_text}
use Rattle.lw_reg.proofs.binding.Binding.read.Goals as goal

pub invariant_of-result : goal.invariant_of-result
invariant_of-result c = record {
  padded = (letters_of_text _ _ _ c.as_bytes-bytes.ensures.value (c.is_binding.ensures.0 c.if-is_binding.true) c.padded.ensures).0;
}

pub returns-then-is_binding-clause-value : goal.returns-then-is_binding-clause-value
returns-then-is_binding-clause-value c =
    (letters_of_text _ _ _ c.as_bytes-bytes.ensures.value (c.is_binding.ensures.0 c.if-is_binding.true) c.padded.ensures).1
