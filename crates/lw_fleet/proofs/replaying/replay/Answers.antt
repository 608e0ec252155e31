use Rattle.std.proofs.Common.{ℕ, List, Err, ap, sym, subst, refl, arith}
use Rattle.lw_world.specs.declared.outcome.Outcome.{Outcome}
use Rattle.lw_world.specs.Run.{Runs, begun}
use Rattle.lw_script.specs.Script.{lines_of, IsFirstBad}
use Rattle.lw_fleet.proofs.OneLemmas.{if_err_is, if_err_then, on_ok}
use Rattle.lw_fleet.proofs.ReplayLemmas.{keeps_same, replays, spelled, stopped_at_a_line, stopped_for_memory, stopped_reading, stopped_writing}
use Rattle.lw_fleet.proofs.replaying.replay.Goals as goal

pub returns-in_err-bytes-clause-stopped : goal.returns-in_err-bytes-clause-stopped
returns-in_err-bytes-clause-stopped g c =
    if_err_is c.from_residual.result _ _ c.from_residual.ensures.1
    (stopped_reading _ _ _ _ c.in_err-bytes.ensures.faults (λ long. c.in_err-bytes.ensures.too_long (ap Err long)) (keeps_same _))

pub returns-in_err-script-clause-stopped : goal.returns-in_err-script-clause-stopped
returns-in_err-script-clause-stopped g c =
    let bytes = c.in_ok-bytes.bytes.items in
    if_err_is c.from_residual-in_err-script.result _ _ c.from_residual-in_err-script.ensures.1
    (stopped_at_a_line _ _ _ bytes _ c.in_ok-bytes.ensures.all (omega (arith, c.in_ok-bytes.ensures.fits)) c.in_err-script.ensures.faults
    (λ line is. subst (λ (b : List ℕ). IsFirstBad (lines_of b) line) c.deref.ensures.value (c.in_err-script.ensures.refused line (ap Err is))) (keeps_same _))

pub returns-in_err-world-clause-stopped : goal.returns-in_err-world-clause-stopped
returns-in_err-world-clause-stopped g c =
    if_err_is c.from_residual-in_err-world.result _ _ c.from_residual-in_err-world.ensures.1 (stopped_for_memory _ _ _ _ refl (keeps_same _))

pub returns-clause-printed : goal.returns-clause-printed
returns-clause-printed g c =
    let ran = c.in_ok-world.ensures in
    let is = spelled _ _ c.in_ok-script.script.nodes c.in_ok-script.script.events _ _ c.deref.ensures.value c.script.view_is c.deref-2.ensures.value c.in_ok-script.ensures.is in
    let runs = subst (λ (os : List Outcome). Runs (begun c.script.inside.nodes) c.deref-2.result.now os ran.0) (sym c.deref-3.ensures.value) ran.1 in
    on_ok c.write_lines.result _ _ c.write_lines.ensures.whole
    (replays _ _ _ _ _ _ _ _ c.in_ok-bytes.ensures.all (omega (arith, c.in_ok-bytes.ensures.fits)) is (ran.0, runs, ran.2))

pub returns-clause-stopped : goal.returns-clause-stopped
returns-clause-stopped g c =
    let ran = c.in_ok-world.ensures in
    let is = spelled _ _ c.in_ok-script.script.nodes c.in_ok-script.script.events _ _ c.deref.ensures.value c.script.view_is c.deref-2.ensures.value c.in_ok-script.ensures.is in
    let runs = subst (λ (os : List Outcome). Runs (begun c.script.inside.nodes) c.deref-2.result.now os ran.0) (sym c.deref-3.ensures.value) ran.1 in
    if_err_then c.write_lines.result _ _ _ c.write_lines.ensures.faults c.write_lines.ensures.front
    (stopped_writing _ _ _ _ _ _ _ _ c.in_ok-bytes.ensures.all (omega (arith, c.in_ok-bytes.ensures.fits)) is (ran.0, runs, ran.2))
