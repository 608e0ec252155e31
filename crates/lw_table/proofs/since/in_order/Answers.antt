use Rattle.std.proofs.Common.{sym, subst, map}
use Rattle.std.specs.Cmp.Lexicographic.{on_texts, texts_ties}
use Rattle.std.specs.List.Sorted.{IsStrictlySortedBy}
use Rattle.std.specs.Prelude.{◌↔◌, Contains}
use Rattle.std.proofs.lemmas.List.Filters.{dedup_is}
use Rattle.std.proofs.lemmas.List.Kept.{IsStrictlySortedBy-dedup}
use Rattle.lw_stamp.specs.TextOrder.{text_cmp}
use Rattle.lw_table.proofs.OrderLemmas.{same_texts, texts_rise}
use Rattle.lw_table.proofs.since.in_order.Goals as goal

pub returns-clause-members : goal.returns-clause-members
returns-clause-members c = λ e. subst (λ l. Contains (map (λ t. t.now) l) e ↔ Contains (map (λ t. t.now) c.args.endpoints.items) e) (sym (dedup_is _ _ _ c.dedup.ensures.filtered))
    (same_texts (λ t. t.now) _ _ c.sort_unstable.ensures.permutation e)

pub returns-clause-rise : goal.returns-clause-rise
returns-clause-rise c = subst (λ l. IsStrictlySortedBy text_cmp (map (λ t. t.now) l)) (sym (dedup_is _ _ _ c.dedup.ensures.filtered))
    (texts_rise (λ t. t.now) _ (IsStrictlySortedBy-dedup (on_texts (λ t. t.now)) (λ x y. texts_ties x.now y.now) _ c.sort_unstable.ensures.sorted))
