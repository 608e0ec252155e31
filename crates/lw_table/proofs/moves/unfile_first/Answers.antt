use Rattle.std.proofs.Common.{None, refl}
use Rattle.lw_table.specs.declared.filed.Filed.{Filed}
use Rattle.lw_table.proofs.FiledLemmas.{numbered}
use Rattle.lw_table.proofs.MoveLemmas.{numbers_still, others_then, over_none}
use Rattle.lw_table.proofs.moves.unfile_first.Goals as goal

pub remove_stale-requires : goal.remove_stale-requires
remove_stale-requires c =
    let f = c.args.filed.now in
    let after : Filed = record { keys = f.keys; numbers = c.drop_number.new.numbers; due = f.due } in
    over_none f after c.args.endpoint.now c.args.place c.requires.filed.row c.args.keys.now refl c.requires.filed.is c.requires.filed.keys_are

pub returns-clause-others : goal.returns-clause-others
returns-clause-others c =
    let f = c.args.filed.now in
    let after : Filed = record { keys = f.keys; numbers = c.drop_number.new.numbers; due = f.due } in
    others_then c.args.endpoint.now c.args.place f after c.remove_stale.new.self (numbered f c.args.endpoint.now c.args.place c.drop_number.new.numbers) c.remove_stale.ensures.others

pub returns-clause-numbers : goal.returns-clause-numbers
returns-clause-numbers c =
    numbers_still c.args.place None c.args.filed.now.numbers c.drop_number.new.numbers c.remove_stale.new.self.numbers
    (record { here = c.drop_number.ensures.none; others = c.drop_number.ensures.others }) c.remove_stale.ensures.numbers
