use Rattle.std.proofs.Common.{◌≡◌, ℕ, List, [], Bool, ◌||◌, ap, ◌∙◌}
use Rattle.std.specs.Prelude.{String, bytes_eq}
use Rattle.std.specs.BTreeSet.{BTreeSet, contains_text}
use Rattle.lw_index.proofs.texts.two.Goals as goal

only : {Z : Type 0} (set : BTreeSet (String Z)) (e : List ℕ) (b : Bool) → set.keys ≡ [] → (contains_text set e || b) ≡ b
only set e b none = rw none

pub returns-clause-members : goal.returns-clause-members
returns-clause-members c = λ e.
    c.in_ok-put-2.ensures.members e
    ∙ ap (λ b. b || bytes_eq c.args.second.now e)
    (c.in_ok-put.ensures.members e ∙ only c.new-set.result e (bytes_eq c.args.first.now e) c.new-set.ensures.empty)
