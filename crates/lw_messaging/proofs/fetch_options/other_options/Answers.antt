use Rattle.std.proofs.Common.{rules}
use Rattle.std.proofs.lemmas.List.Elements.{filter_from_retain}
use Rattle.lw_messaging.specs.FetchMessages.{is_no_block2}
use Rattle.lw_messaging.proofs.fetch_options.other_options.Goals as goal

pub returns : goal.returns
returns c = filter_from_retain _ is_no_block2 (λ p x b q r. search rules) _ _ _ c.retain.ensures.filtered
