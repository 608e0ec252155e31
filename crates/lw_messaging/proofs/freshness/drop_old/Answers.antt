use Rattle.std.proofs.Common.{rules}
use Rattle.std.proofs.lemmas.Map.Made.{filter_same_pairs}
use Rattle.lw_messaging.specs.Freshness.{is_young}
use Rattle.lw_messaging.proofs.freshness.drop_old.Goals as goal

pub returns-clause-young : goal.returns-clause-young
returns-clause-young c =
    filter_same_pairs _ (is_young c.args.now) _ (λ k v b w q r. search rules) _ _ c.retain.ensures.filtered
