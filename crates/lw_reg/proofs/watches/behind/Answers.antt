use Rattle.std.proofs.Common.{◌+◌, ◌∙◌, true, ap}
use Rattle.std.proofs.lemmas.List.{take_rest}
use Rattle.lw_reg.specs.Reading.{first_watch}
use Rattle.lw_reg.proofs.AboveLemmas.{above_gap, above_place}
use Rattle.lw_reg.proofs.watches.behind.Goals as goal

pub returns-in-Ok : goal.returns-in-Ok
returns-in-Ok c =
    ap (first_watch (λ _. true)) (take_rest c.args.entries.now (c.in-Ok.place + 1)) ∙ above_place c.args.path.now c.args.entries.now c.in-Ok.place c.requires c.in-Ok.ensures.found

pub returns-in-Err : goal.returns-in-Err
returns-in-Err c = ap (first_watch (λ _. true)) (take_rest c.args.entries.now c.in-Err.place) ∙ above_gap c.args.path.now c.args.entries.now c.in-Err.place c.in-Err.ensures.absent
