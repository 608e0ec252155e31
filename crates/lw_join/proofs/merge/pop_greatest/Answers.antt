use Rattle.std.proofs.Common.{◌≡◌, length, sym, ◌∙◌, arith}
use Rattle.std.specs.declared.cmp.Ordering.TheVariants.{Less, Equal, Greater}
use Rattle.lw_stamp.specs.Order.{IsExactOrder}
use Rattle.lw_join.specs.inner.Ends.{ends_cmp}
use Rattle.lw_join.proofs.Greatest.{taken_both, popped_left, popped_right, left_empty, right_empty, rises_popped, always_none}
use Rattle.lw_join.proofs.merge.pop_greatest.Goals as goal

pub returns-in_err-key-in-Equal-clause-none : goal.returns-in_err-key-in-Equal-clause-none
returns-in_err-key-in-Equal-clause-none g c =
    let order : IsExactOrder g.K.Ord.cmp = record { total = g.met.K.Ord.total; exact = g.met.K.Exact.exact } in
    let tied : ends_cmp g.K.Ord.cmp c.args.left.now.items c.args.right.now.items ≡ Equal = (λ i. ends_cmp g.K.Ord.cmp (sym c.deref.ensures.value i) (sym c.deref-2.ensures.value i)) ∙ sym c.in-Equal.ensures in
    let empty : length c.args.left.now.items ≡ 0 = omega (arith, c.args.left.now.ok.0, c.in_err-key-in-Equal.ensures.cases.0) in
    always_none c.from_residual.result (left_empty order g.J.Join.join c.args.left.now.items c.args.right.now.items empty tied)

pub returns-in_err-other-in-Equal-clause-none : goal.returns-in_err-other-in-Equal-clause-none
returns-in_err-other-in-Equal-clause-none g c =
    let order : IsExactOrder g.K.Ord.cmp = record { total = g.met.K.Ord.total; exact = g.met.K.Exact.exact } in
    let tied : ends_cmp g.K.Ord.cmp c.args.left.now.items c.args.right.now.items ≡ Equal = (λ i. ends_cmp g.K.Ord.cmp (sym c.deref.ensures.value i) (sym c.deref-2.ensures.value i)) ∙ sym c.in-Equal.ensures in
    let empty : length c.args.right.now.items ≡ 0 = omega (arith, c.args.right.now.ok.0, c.in_err-other-in-Equal.ensures.cases.0) in
    always_none c.from_residual-in_err-other-in-Equal.result (right_empty order g.J.Join.join c.args.left.now.items c.args.right.now.items empty tied)

pub returns-in_err-other-in-Equal-clause-left_rises : goal.returns-in_err-other-in-Equal-clause-left_rises
returns-in_err-other-in-Equal-clause-left_rises g c =
    rises_popped g.K.Ord.cmp c.pop-in-Equal.result c.args.left.now.items c.pop-in-Equal.new.self.items c.pop-in-Equal.ensures.items c.requires.left

pub returns-in-Less-clause-last : goal.returns-in-Less-clause-last
returns-in-Less-clause-last g c =
    let order : IsExactOrder g.K.Ord.cmp = record { total = g.met.K.Ord.total; exact = g.met.K.Exact.exact } in
    let less : ends_cmp g.K.Ord.cmp c.args.left.now.items c.args.right.now.items ≡ Less = (λ i. ends_cmp g.K.Ord.cmp (sym c.deref.ensures.value i) (sym c.deref-2.ensures.value i)) ∙ sym c.in-Less.ensures in
    popped_right order g.J.Join.join c.pop.result c.args.left.now.items c.args.right.now.items c.pop.new.self.items c.pop.ensures.items c.requires.left c.requires.right less

pub returns-in-Less-clause-right_rises : goal.returns-in-Less-clause-right_rises
returns-in-Less-clause-right_rises g c =
    rises_popped g.K.Ord.cmp c.pop.result c.args.right.now.items c.pop.new.self.items c.pop.ensures.items c.requires.right

pub returns-in-Greater-clause-last : goal.returns-in-Greater-clause-last
returns-in-Greater-clause-last g c =
    let order : IsExactOrder g.K.Ord.cmp = record { total = g.met.K.Ord.total; exact = g.met.K.Exact.exact } in
    let greater : ends_cmp g.K.Ord.cmp c.args.left.now.items c.args.right.now.items ≡ Greater = (λ i. ends_cmp g.K.Ord.cmp (sym c.deref.ensures.value i) (sym c.deref-2.ensures.value i)) ∙ sym c.in-Greater.ensures in
    popped_left order g.J.Join.join c.pop-in-Greater.result c.args.left.now.items c.args.right.now.items c.pop-in-Greater.new.self.items c.pop-in-Greater.ensures.items c.requires.right greater

pub returns-in-Greater-clause-left_rises : goal.returns-in-Greater-clause-left_rises
returns-in-Greater-clause-left_rises g c =
    rises_popped g.K.Ord.cmp c.pop-in-Greater.result c.args.left.now.items c.pop-in-Greater.new.self.items c.pop-in-Greater.ensures.items c.requires.left

pub returns-in_ok-other-in-Equal-clause-last : goal.returns-in_ok-other-in-Equal-clause-last
returns-in_ok-other-in-Equal-clause-last g c =
    let order : IsExactOrder g.K.Ord.cmp = record { total = g.met.K.Ord.total; exact = g.met.K.Exact.exact } in
    let tied : ends_cmp g.K.Ord.cmp c.args.left.now.items c.args.right.now.items ≡ Equal = (λ i. ends_cmp g.K.Ord.cmp (sym c.deref.ensures.value i) (sym c.deref-2.ensures.value i)) ∙ sym c.in-Equal.ensures in
    rw c.join_calm.ensures (taken_both order g.J.Join.join c.args.left.now.items c.args.right.now.items c.pop-in-Equal.new.self.items c.pop-in-Equal-2.new.self.items (c.in_ok-key-in-Equal.key, c.in_ok-key-in-Equal.value) (c.in_ok-other-in-Equal.field-0-0, c.in_ok-other-in-Equal.other) c.in_ok-key-in-Equal.ensures.items c.in_ok-other-in-Equal.ensures.items c.requires.left c.requires.right tied)

pub returns-in_ok-other-in-Equal-clause-left_rises : goal.returns-in_ok-other-in-Equal-clause-left_rises
returns-in_ok-other-in-Equal-clause-left_rises g c =
    rises_popped g.K.Ord.cmp c.pop-in-Equal.result c.args.left.now.items c.pop-in-Equal.new.self.items c.pop-in-Equal.ensures.items c.requires.left

pub returns-in_ok-other-in-Equal-clause-right_rises : goal.returns-in_ok-other-in-Equal-clause-right_rises
returns-in_ok-other-in-Equal-clause-right_rises g c =
    rises_popped g.K.Ord.cmp c.pop-in-Equal-2.result c.args.right.now.items c.pop-in-Equal-2.new.self.items c.pop-in-Equal-2.ensures.items c.requires.right
