use Rattle.std.proofs.Common.{None, refl}
use Rattle.lw_table.specs.declared.filed.Filed.{Filed}
use Rattle.lw_table.proofs.FiledLemmas.{keyed, numbered, on_err, on_ok, put_due}
use Rattle.lw_table.proofs.MoveLemmas.{err_not, err_then, over_old, over_numbered, filed_first, others_then}
use Rattle.lw_table.proofs.moves.try_file.Goals as goal

pub returns-in_err-add_keys : goal.returns-in_err-add_keys
returns-in_err-add_keys c = record {
  others = keyed c.args.filed.now c.args.endpoint.now c.args.place c.add_keys.new.filed c.add_keys.ensures.others;
  filed = err_not _ c.from_residual.result c.from_residual.ensures.0;
  unchanged = err_then _ c.from_residual.result (over_old c.args.filed.now c.add_keys.new.filed c.args.endpoint.now c.args.place c.args.keys.now c.add_keys.ensures.between None c.requires.filed, refl);
}

pub returns-in_err-add_due : goal.returns-in_err-add_due
returns-in_err-add_due c =
    let e = c.args.endpoint.now in
    let p = c.args.place in
    let f = c.args.filed.now in
    let keys = c.add_keys.new.filed in
    let entered : Filed = record { keys = keys; numbers = f.numbers; due = f.due } in
    let due = c.add_due.new.due in
    record {
      others = others_then e p f entered (record { keys = keys; numbers = f.numbers; due = due }) (keyed f e p keys c.add_keys.ensures.others) (put_due entered e p due c.add_due.ensures.others);
      filed = err_not _ c.from_residual-in_err-add_due.result c.from_residual-in_err-add_due.ensures.0;
      unchanged = err_then _ c.from_residual-in_err-add_due.result
          (over_numbered entered e p c.args.keys.now (over_old f keys e p c.args.keys.now c.add_keys.ensures.between None c.requires.filed) f.numbers due, refl);
    }

pub returns-clause-others : goal.returns-clause-others
returns-clause-others c =
    let e = c.args.endpoint.now in
    let p = c.args.place in
    let f = c.args.filed.now in
    let keys = c.add_keys.new.filed in
    let due = c.add_due.new.due in
    let entered : Filed = record { keys = keys; numbers = f.numbers; due = f.due } in
    let dued : Filed = record { keys = keys; numbers = f.numbers; due = due } in
    others_then e p f dued (record { keys = keys; numbers = c.add_number.new.numbers; due = due })
    (others_then e p f entered dued (keyed f e p keys c.add_keys.ensures.others) (put_due entered e p due c.add_due.ensures.others))
    (numbered dued e p c.add_number.new.numbers)

pub returns-clause-filed : goal.returns-clause-filed
returns-clause-filed c =
    let row = c.args.row.now in
    on_ok _ _ c.add_number.result
    (λ number. (
      filed_first c.args.filed.now c.add_keys.new.filed c.args.endpoint.now c.args.place c.args.keys.now c.add_keys.ensures.between c.in_ok-add_keys.ensures.all row.slot row.number c.add_number.new.numbers c.add_due.new.due
          c.in_ok-add_due.ensures.kept c.requires.filed c.requires.keys c.in_ok-add_due.ensures.due,
      record { here = number; others = c.add_number.ensures.others },
    ))
    c.add_number.ensures.number

pub returns-clause-unchanged : goal.returns-clause-unchanged
returns-clause-unchanged c =
    let e = c.args.endpoint.now in
    let p = c.args.place in
    let f = c.args.filed.now in
    let keys = c.add_keys.new.filed in
    let entered : Filed = record { keys = keys; numbers = f.numbers; due = f.due } in
    on_err _ _ c.add_number.result
    (λ same. (
      over_numbered entered e p c.args.keys.now (over_old f keys e p c.args.keys.now c.add_keys.ensures.between None c.requires.filed) c.add_number.new.numbers c.add_due.new.due,
      same,
    ))
    c.add_number.ensures.unchanged
