use Rattle.std.proofs.Common.{arith, refl, sym, ap, length, eqb, eqb-true, ◌∙◌}
use Rattle.std.proofs.lemmas.List.{nil_from_length}
use Rattle.lw_fleet.proofs.RedisLemmas.{has_sign}
use Rattle.lw_fleet.proofs.redis_options.host_alone.Goals.{then-is_empty-via-then-is_empty, then-is_empty-via-else-is_empty+then-contains, then-is_empty-via-else-is_empty+else-contains+then-contains-2}
use Rattle.lw_fleet.proofs.redis_options.host_alone.Goals as goal

pub returns-then-is_empty-clause-none : goal.returns-then-is_empty-clause-none
returns-then-is_empty-clause-none c = λ host. elim c.then-is_empty.branch [
  | then-is_empty-via-then-is_empty w ↦ host.0 (nil_from_length c.args.text.now (eqb-true _ 0 (sym c.is_empty.ensures ∙ w.if-is_empty.true)))
  | then-is_empty-via-else-is_empty+then-contains w ↦ host.1 ((has_sign 91 _ _ w.contains.ensures.cases (omega arith)).0 w.if-contains.true)
  | then-is_empty-via-else-is_empty+else-contains+then-contains-2 w ↦ host.2 ((has_sign 93 _ _ w.contains-else-contains.ensures.cases (omega arith)).0 w.if-contains-2.true)
]

pub returns-clause-some : goal.returns-clause-some
returns-clause-some c = (
  refl,
  (
    (λ none. let is = c.is_empty.ensures ∙ ap (λ n. eqb n 0) (ap length none) in cc (is, c.if-is_empty.false)),
    (λ has. let is = (has_sign 91 _ _ c.contains.ensures.cases (omega arith)).1 has in cc (is, c.if-contains.false)),
    (λ has. let is = (has_sign 93 _ _ c.contains-else-contains.ensures.cases (omega arith)).1 has in cc (is, c.if-contains-2.false)),
  ),
)
