use Rattle.std.proofs.Common.{sym, refl}
use Rattle.lw_join.proofs.lex.LexJoin.join_with.Goals as goal

pub returns-in-Greater-clause-ok : goal.returns-in-Greater-clause-ok
returns-in-Greater-clause-ok g c = rw (sym c.in-Greater.ensures) refl

pub returns-in-Greater-clause-never_refused : goal.returns-in-Greater-clause-never_refused
returns-in-Greater-clause-never_refused g c = λ _. refl
