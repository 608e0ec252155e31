use Rattle.std.proofs.Common.{sym, subst}
use Rattle.lw_held.specs.Transcript.{Transcript}
use Rattle.lw_crew.specs.Continues.{Continues}
use Rattle.lw_crew.proofs.Back.{one_back}
use Rattle.lw_crew.proofs.work.+work_with.Goals.{in-Ok, in-Err}
use Rattle.lw_crew.proofs.work.+work_with.Goals as goal

pub returns-then-not-has_own_thread-clause-all : goal.returns-then-not-has_own_thread-clause-all
returns-then-not-has_own_thread-clause-all g t c = one_back c.args.passes.items _ c.work_with-back.result.items _ c.in-Some.pass _ c.in-Some.ensures.items c.work_with-back.ensures.all c.do_jobs.ensures c.push_reserved.ensures.items

pub returns-clause-all : goal.returns-clause-all
returns-clause-all g t c =
    let one : Continues c.in-Some.pass c.match-started.last = elim c.match-started.branch [
      | in-Ok w ↦ subst (λ (x : Transcript). Continues x c.match-started.last) w.in-Ok.ensures.ok (subst (λ (y : Transcript). Continues w.in-Ok.handle.promise.0.value y) (sym w.last-is) w.join-last.ensures)
      | in-Err w ↦ subst (λ (y : Transcript). Continues c.in-Some.pass y) (sym w.last-is) w.in-Err.ensures.err
    ] in
    one_back c.args.passes.items _ c.work_with-back-2.result.items _ c.in-Some.pass c.match-started.last c.in-Some.ensures.items c.work_with-back-2.ensures.all one c.push_reserved-2.ensures.items
