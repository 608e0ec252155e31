use Rattle.std.proofs.Common.{rules}
use Rattle.std.proofs.lemmas.List.Elements.{filter_from_retain}
use Rattle.lw_messaging.specs.Blocks.{is_of_body}
use Rattle.lw_messaging.proofs.block_options.body_options.Goals as goal

pub returns : goal.returns
returns c = filter_from_retain _ is_of_body (λ p x b q r. search rules) _ _ _ c.retain.ensures.filtered
