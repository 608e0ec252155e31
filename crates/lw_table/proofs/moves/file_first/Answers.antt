use Rattle.std.proofs.Common.{None, ◌∙◌}
use Rattle.lw_table.proofs.FiledLemmas.{numbers_stay}
use Rattle.lw_table.proofs.MoveLemmas.{others_then}
use Rattle.lw_table.proofs.moves.file_first.Goals as goal

pub returns-in-Err-clause-others : goal.returns-in-Err-clause-others
returns-in-Err-clause-others c = others_then c.args.endpoint.now c.args.place c.args.filed.now c.try_file.new.filed c.remove_stale.new.self c.try_file.ensures.others c.remove_stale.ensures.others

pub returns-in-Err-clause-unchanged : goal.returns-in-Err-clause-unchanged
returns-in-Err-clause-unchanged c = (
  c.remove_stale.ensures.settled,
  numbers_stay c.args.place None c.args.filed.now.numbers c.remove_stale.new.self.numbers (c.remove_stale.ensures.numbers ∙ c.in-Err.ensures.unchanged.1) c.requires.numbers,
)
