use Rattle.lw_script.proofs.LineLemmas.{named_fault}
use Rattle.lw_script.proofs.kinds.endpoint.Goals as goal

pub returns-in-Err : goal.returns-in-Err
returns-in-Err c = named_fault _ _ _ c.in-Err.ensures
