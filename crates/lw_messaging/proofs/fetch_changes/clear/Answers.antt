use Rattle.std.proofs.Common.{rules}
use Rattle.std.proofs.lemmas.Fn.{filter_same}
use Rattle.lw_messaging.specs.Fetches.{is_beside}
use Rattle.lw_messaging.proofs.fetch_changes.clear.Goals as goal

pub returns-clause-left : goal.returns-clause-left
returns-clause-left c =
    filter_same _ (is_beside c.args.new.now) _ (λ x b q r. search rules) _ _ c.retain.ensures.filtered
