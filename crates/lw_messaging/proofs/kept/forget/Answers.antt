use Rattle.std.proofs.Common.{rules}
use Rattle.std.proofs.lemmas.Fn.{filter_same}
use Rattle.lw_stamp.specs.Moment.{ms_of}
use Rattle.lw_messaging.specs.Kept.{is_other}
use Rattle.lw_messaging.proofs.kept.forget.Goals as goal

pub returns-clause-left : goal.returns-clause-left
returns-clause-left c =
    filter_same _ (is_other (ms_of c.args.arrival.now) c.args.arrival.from c.args.options.now) _
    (λ x b q r. search rules) _ _ c.retain.ensures.filtered
