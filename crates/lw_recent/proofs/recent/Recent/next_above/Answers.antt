use Rattle.std.proofs.Common.{ap, subst, ◌∙◌}
use Rattle.lw_recent.specs.Entries.{pairs_in}
use Rattle.lw_recent.specs.Recent.{IsNextAbove}
use Rattle.lw_recent.proofs.recent.Recent.next_above.Goals as goal

pub returns : goal.returns
returns c = subst (λ l. IsNextAbove c.args.number l c.first_above.result) (ap pairs_in c.deref.ensures.value ∙ c.self.view_is) c.first_above.ensures
