use Rattle.std.proofs.Common.{◌≡◌, refl, sym, subst, ◌+◌}
use Rattle.std.proofs.lemmas.Option.{slice_get_read}
use Rattle.lw_held.specs.Agree.{IsFirstBreak, IsLaid}
use Rattle.lw_held.specs.inner.Looks.{TurnIsLaid}
use Rattle.lw_held.proofs.Pieces.{first_turns, turn_more, turns_all}
use Rattle.lw_held.proofs.laying.first_unlaid.Goals as goal

pub loop-volume-init : goal.loop-volume-init
loop-volume-init c =
    subst (IsFirstBreak (TurnIsLaid c.args.node c.args.volumes.now c.args.held.now 0)) (sym c.lesser-least.ensures)
    (first_turns c.args.node c.args.volumes.now c.args.held.now _ _ c.unlaid_at-begins.ensures (subst (λ q. IsFirstBreak (λ p. p ≡ q → IsLaid c.args.node c.args.volumes.now c.args.held.now p) c.unlaid_at.result) c.first.ensures.value c.unlaid_at.ensures))

pub loop-volume-preserved : goal.loop-volume-preserved
loop-volume-preserved c =
    let item = slice_get_read _ _ _ _ refl c.loop-volume-test.true c.volume-item.is in
    subst (IsFirstBreak (TurnIsLaid c.args.node c.args.volumes.now c.args.held.now (c.loop-volume.volume-index + 1))) (sym c.lesser-least-in-loop-volume.ensures)
    (turn_more c.args.node c.args.volumes.now c.args.held.now _ c.volume-item.result item _ _ c.loop-volume.invariant c.unlaid_end.ensures)

pub returns : goal.returns
returns c = turns_all _ _ _ _ _ c.loop-volume-test.false c.loop-volume.auto.volume-index-end c.loop-volume.invariant
