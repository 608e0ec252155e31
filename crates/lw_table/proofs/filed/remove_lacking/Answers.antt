use Rattle.std.proofs.Common.{◌+◌, inl, inr, sym, subst}
use Rattle.std.specs.Option.{option_copied}
use Rattle.lw_table.specs.Table.{slot_of}
use Rattle.lw_table.proofs.FiledLemmas.{Dropping, others_itself, dropping_kept, dropping_step, nothing_left}
use Rattle.lw_table.proofs.filed.remove_lacking.Goals as goal
use Rattle.lw_table.proofs.filed.remove_lacking.Goals.{then-not-has_key, else-not-has_key}

pub loop-key-init : goal.loop-key-init
loop-key-init c = record { others = others_itself c.args.place c.args.filed.now; has = c.requires.has; from = c.requires.from }

pub loop-key-preserved : goal.loop-key-preserved
loop-key-preserved c =
    let p = c.args.place in
    let slot = slot_of (option_copied c.args.row) in
    let keys = c.args.keys.now in
    let first = c.args.filed.now in
    let i = c.loop-key.key-index in
    elim c.if-not-has_key.branch [
      | then-not-has_key w ↦ subst (λ now. Dropping p slot keys first now (i + 1)) (sym w.filed-is)
          (dropping_step p slot keys first c.loop-key.filed w.drop_one.new.self i c.key-item.result c.loop-key-test.true c.key-item.is
          (λ has. let is = c.has_key.ensures.1 has in absurd cc) w.drop_one.ensures.dropped c.loop-key.invariant)
      | else-not-has_key w ↦ subst (λ now. Dropping p slot keys first now (i + 1)) (sym w.filed-is)
          (dropping_kept p slot keys first c.loop-key.filed i c.key-item.result c.loop-key-test.true c.key-item.is (c.has_key.ensures.0 w.if-not-has_key.false) c.loop-key.invariant)
    ]

pub returns : goal.returns
returns c = record {
  others = c.loop-key.invariant.others;
  keys = λ k. (
    λ h. elim (c.loop-key.invariant.from k h) [ inl has ↦ has | inr left ↦ nothing_left c.args.keys.now c.loop-key.key-index k c.loop-key-test.false left ],
    c.loop-key.invariant.has k,
  );
}
