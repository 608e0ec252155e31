use Rattle.lw_messaging.proofs.SpelledLemmas.{kept_spelled, whole_spelled}
use Rattle.lw_messaging.proofs.laws.bodies_are_spelled.Goals as goal

pub returns-clause-kept : goal.returns-clause-kept
returns-clause-kept c = kept_spelled

pub returns-clause-whole : goal.returns-clause-whole
returns-clause-whole c = whole_spelled
