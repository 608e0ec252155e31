use Rattle.std.proofs.Common.{ap, ◌∙◌}
use Rattle.std.specs.Prelude.{Option}
use Rattle.lw_messaging.specs.declared.freshness.Newest.{Newest}
use Rattle.lw_messaging.specs.Freshness.{Kept, newest_of, is_newer_than}
use Rattle.lw_messaging.proofs.freshness.Freshness.is_newer.Goals as goal

pub returns-in-Some : goal.returns-in-Some
returns-in-Some c =
    c.is_before.ensures
    ∙ ap (λ (newest : Option Newest). is_newer_than newest c.args.now c.args.observe)
    (c.in-Some.ensures.value ∙ ap (λ (kept : Kept). newest_of kept c.args.token) c.self.view_is)
