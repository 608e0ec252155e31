use Rattle.lw_route.proofs.StepLemmas.{path_behind, no_path_behind}
use Rattle.lw_route.proofs.api_query.after_path.Goals as goal

pub returns-in-Some-read_path : goal.returns-in-Some-read_path
returns-in-Some-read_path c =
    path_behind c.args.after.now _ _ c.in-Some-read_path.path c.in-Some.is c.as_str.ensures c.in-Some-read_path.ensures.found

pub returns-in-None : goal.returns-in-None
returns-in-None c = no_path_behind c.args.after.now _ _ c.in-Some.is c.as_str.ensures c.in-None.ensures.none
