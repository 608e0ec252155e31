use Rattle.std.proofs.Common.{ℕ, List}
use Rattle.lw_stamp.specs.TextOrder.{text_cmp}
use Rattle.lw_join.specs.declared.last.Last.{Last}
use Rattle.lw_join.proofs.Lookups.{Rises-map}
use Rattle.lw_reg.proofs.AttributeLemmas.{each_value}
use Rattle.lw_reg.proofs.attributes.AttributesView.of_writes.Goals as goal

pub invariant_of-result : goal.invariant_of-result
invariant_of-result c = record {
  rise = Rises-map text_cmp (λ (l : Last (List ℕ)). l.write.1) c.args.writes.now c.requires.rise;
  each = each_value c.args.writes.now c.requires.each;
}
