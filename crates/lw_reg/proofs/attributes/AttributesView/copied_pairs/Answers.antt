use Rattle.std.proofs.Common.{[], ◌∷◌, ◌++◌, ap, ◌∙◌}
use Rattle.std.specs.Prelude.{slice_get}
use Rattle.lw_reg.proofs.AttributeLemmas.{front_next, front_whole}
use Rattle.lw_reg.proofs.attributes.AttributesView.copied_pairs.Goals as goal

pub loop-name-preserved : goal.loop-name-preserved
loop-name-preserved c =
    let pushed = c.in_ok-push.ensures.items ∙ (λ i. c.loop-name.pairs.items ++ (c.in_ok-copy_of.ensures i, c.in_ok-copy_of-2.ensures i) ∷ []) in
    front_next c.args.self.now c.loop-name.pairs.items c.push.new.self.items (c.in-Some.name.now, c.in-Some.value.now) c.loop-name.invariant.1 (c.in-Some.ensures ∙ ap (slice_get c.args.self.now) (c.len-in-loop-name.ensures ∙ c.loop-name.pairs.ok.0)) pushed

pub returns : goal.returns
returns c = record {
  value = front_whole ([], []) c.args.self.now c.loop-name.pairs.items c.loop-name.invariant.0 c.loop-name.invariant.1 (c.in_default.ensures ∙ ap (slice_get c.args.self.now) (c.len-in-loop-name.ensures ∙ c.loop-name.pairs.ok.0));
  attributes = c.len.ensures.attributes;
}
