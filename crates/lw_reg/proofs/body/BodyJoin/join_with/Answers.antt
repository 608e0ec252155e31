use Rattle.lw_reg.proofs.body.BodyJoin.join_with.Goals as goal

pub returns-clause-ok : goal.returns-clause-ok
returns-clause-ok c = simp (
  c.join_calm.ensures,
  c.join_calm-2.ensures,
  c.join_calm-3.ensures,
  c.join_calm-4.ensures,
  c.join_calm-5.ensures,
  c.join_calm-6.ensures,
  c.join_calm-7.ensures,
  c.join_calm-8.ensures,
  c.in_ok-join_with.ensures.ok,
)
