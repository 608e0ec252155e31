use Rattle.std.proofs.Common.{◌≡◌, ◌∙◌, ℕ, List, ◌++◌, length, sym, ap, subst}
use Rattle.std.proofs.lemmas.List.{append-nil, nil_from_length}
use Rattle.lw_stamp.specs.TextOrder.{text_cmp}
use Rattle.lw_stamp.specs.declared.stamp.Stamp.{Stamp}
use Rattle.lw_join.specs.Entries.{Rises}
use Rattle.lw_join.specs.declared.last.Last.{Last}
use Rattle.lw_reg.specs.Attribute.{AreAttributes}
use Rattle.lw_reg.proofs.WriteLemmas.{stamped_pairs, stamped_rise, writes_are, writes_keep}
use Rattle.lw_reg.proofs.atoms.written.Goals as goal

-- where no pair is left, the attributes are written
all_written : (s : Stamp) (writes : List (List ℕ × Last (List ℕ))) (left pairs attributes : List (List ℕ × List ℕ)) → length left ≡ 0 → writes ++ stamped_pairs s left ≡ stamped_pairs s attributes → pairs ≡ attributes → AreAttributes pairs → AreAttributes attributes × (writes ≡ stamped_pairs s attributes)
all_written s writes left pairs attributes none kept same are = (
  subst AreAttributes same are,
  sym (append-nil writes) ∙ sym (ap (λ others. writes ++ stamped_pairs s others) (nil_from_length left none)) ∙ kept,
)

pub unreachable-requires : goal.unreachable-requires
unreachable-requires c =
    let left = c.loop-name.name-iterator.rest in
    let all = all_written c.args.stamp c.loop-name.writes.items left.items _ c.args.attributes (sym left.ok.0 ∙ c.in-None.ensures.steps.0) c.loop-name.invariant c.into_pairs-pairs.ensures.value c.into_pairs-pairs.ensures.attributes in
    let some = c.in-None-from_entries.ensures.rise.1 (subst (Rises text_cmp) (sym all.1) (stamped_rise c.args.stamp c.args.attributes all.0.rise)) in
    absurd cc

pub returns-clause-writes : goal.returns-clause-writes
returns-clause-writes c =
    let left = c.loop-name.name-iterator.rest in
    let all = all_written c.args.stamp c.loop-name.writes.items left.items _ c.args.attributes (sym left.ok.0 ∙ c.in-None.ensures.steps.0) c.loop-name.invariant c.into_pairs-pairs.ensures.value c.into_pairs-pairs.ensures.attributes in
    writes_are c.args.stamp c.args.attributes c.in-Some-from_entries.writes all.0.rise (c.in-Some-from_entries.ensures.same ∙ all.1)

pub returns-clause-keeps : goal.returns-clause-keeps
returns-clause-keeps c =
    let left = c.loop-name.name-iterator.rest in
    let all = all_written c.args.stamp c.loop-name.writes.items left.items _ c.args.attributes (sym left.ok.0 ∙ c.in-None.ensures.steps.0) c.loop-name.invariant c.into_pairs-pairs.ensures.value c.into_pairs-pairs.ensures.attributes in
    writes_keep c.args.stamp c.args.attributes c.in-Some-from_entries.writes all.0.each (c.in-Some-from_entries.ensures.same ∙ all.1)
