use Rattle.std.proofs.Common.{rules}
use Rattle.std.proofs.lemmas.Fn.{filter_same}
use Rattle.lw_messaging.specs.Fetches.{is_other}
use Rattle.lw_messaging.proofs.fetch_changes.forget.Goals as goal

pub returns-clause-left : goal.returns-clause-left
returns-clause-left c =
    filter_same _ (is_other c.args.number) _ (λ x b q r. search rules) _ _ c.retain.ensures.filtered
