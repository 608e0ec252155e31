use Rattle.std.proofs.Common.{rules}
use Rattle.std.proofs.lemmas.List.Elements.{filter_from_retain}
use Rattle.lw_messaging.specs.FetchMessages.{is_of_notification}
use Rattle.lw_messaging.proofs.fetch_options.options_of_notification.Goals as goal

pub returns : goal.returns
returns c = filter_from_retain _ is_of_notification (λ p x b q r. search rules) _ _ _ c.retain.ensures.filtered
