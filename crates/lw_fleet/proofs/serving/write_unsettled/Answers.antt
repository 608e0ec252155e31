use Rattle.std.proofs.Common.{[], codes}
use Rattle.lw_fleet.specs.Output.{numbered}
use Rattle.lw_fleet.proofs.OneLemmas.{err_then, on_err}
use Rattle.lw_fleet.proofs.ReplayLemmas.{front_after, front_before}
use Rattle.lw_fleet.proofs.serving.write_unsettled.Goals as goal

pub returns-in_err-write_number-clause-front : goal.returns-in_err-write_number-clause-front
returns-in_err-write_number-clause-front g c =
    on_err c.from_residual.result _ (front_before _ _ (numbered (codes "unsettled ") c.args.node (codes " ")) (numbered [] c.args.place (codes "\n")) c.in_err-write_number.ensures.front)

pub returns-clause-front : goal.returns-clause-front
returns-clause-front g c =
    err_then c.write_number-2.result _ _ c.write_number-2.ensures.front
    (λ in_part. front_after _ _ _ (numbered (codes "unsettled ") c.args.node (codes " ")) (numbered [] c.args.place (codes "\n")) c.in_ok-write_number.ensures.whole in_part)
