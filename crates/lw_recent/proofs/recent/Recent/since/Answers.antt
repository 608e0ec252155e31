use Rattle.std.proofs.Common.{ap, subst, ◌∙◌}
use Rattle.lw_recent.specs.Entries.{pairs_in, places_in}
use Rattle.lw_recent.specs.Recent.{AreSince}
use Rattle.lw_recent.proofs.recent.Recent.since.Goals as goal

pub returns : goal.returns
returns c = subst (λ l. AreSince c.args.number l (places_in c.entries_above.result.now)) (ap pairs_in c.deref.ensures.value ∙ c.self.view_is) c.entries_above.ensures
