use Rattle.std.proofs.Common.{inl, inr, List, ℕ, sym, subst}
use Rattle.lw_table.specs.inner.Filed.{IsBetween, OtherKeys}
use Rattle.lw_table.specs.declared.key.Key.{Key}
use Rattle.lw_table.proofs.FiledLemmas.{adding_none, adding_step, nothing_left}
use Rattle.lw_table.proofs.filed.add_keys.Goals as goal

pub loop-key-init : goal.loop-key-init
loop-key-init c = adding_none c.args.place c.args.keys.now c.args.filed.now

pub loop-key-preserved : goal.loop-key-preserved
loop-key-preserved c =
    adding_step c.args.place c.args.keys.now c.args.filed.now c.loop-key.filed c.add.new.self c.loop-key.key-index c.key-item.result
    c.loop-key-test.true c.key-item.is c.in_ok-add.ensures.added c.loop-key.invariant

pub returns-in_err-add-clause-others : goal.returns-in_err-add-clause-others
returns-in_err-add-clause-others c = subst (OtherKeys c.args.place c.args.filed.now) (sym c.in_err-add.ensures.unchanged) c.loop-key.invariant.others

pub returns-in_err-add-clause-between : goal.returns-in_err-add-clause-between
returns-in_err-add-clause-between c =
    subst (λ (now : List (Key × ℕ)). IsBetween c.args.filed.now now c.args.place c.args.keys.now) (sym c.in_err-add.ensures.unchanged) (record { stay = c.loop-key.invariant.stay; from = c.loop-key.invariant.from })

pub returns : goal.returns
returns c = record {
  others = c.loop-key.invariant.others;
  between = record { stay = c.loop-key.invariant.stay; from = c.loop-key.invariant.from };
  all = λ k h. elim (c.loop-key.invariant.all k h) [ inl has ↦ has | inr left ↦ nothing_left c.args.keys.now c.loop-key.key-index k c.loop-key-test.false left ];
}
