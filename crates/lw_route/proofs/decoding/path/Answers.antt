use Rattle.std.proofs.Common.{refl}
use Rattle.lw_route.proofs.PathValueLemmas.{no_path_read}
use Rattle.lw_route.proofs.decoding.path.Goals as goal

pub returns : goal.returns
returns c = (refl, no_path_read _ _ c.args.text.now c.in_ok-name.ensures c.as_str.ensures c.in-None.ensures.none)
