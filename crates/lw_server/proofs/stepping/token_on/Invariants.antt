use Rattle.lw_stamp.specs.Moment.{ms_of}
use Rattle.lw_reg.specs.Reading.{shown_in}
use Rattle.lw_server.specs.Stepping.{LookedAt}
use Rattle.lw_server.proofs.stepping.token_on.Given as goal

abbrev pub invariant-loop-watch : goal.invariant-loop-watch
invariant-loop-watch l = LookedAt (shown_in l.node.table.state) (ms_of l.now) l.id l.path l.after l._watch
