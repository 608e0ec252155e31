use Rattle.std.proofs.Common.{subst, ◌↔◌, ◌≡◌, ℕ, List}
use Rattle.std.specs.Prelude.{IsTrue}
use Rattle.std.proofs.lemmas.Slice.Eq.{slice_eq-Decides}
use Rattle.lw_reg.proofs.AttributeLemmas.{same_pair}
use Rattle.lw_reg.proofs.attributes.Attributes.same.Goals as goal

pub returns : goal.returns
returns c =
    let same = slice_eq-Decides same_pair c.as_slice.result.now c.as_slice-2.result.now c.eq.result c.eq.ensures in
    subst (λ (pairs : List (List ℕ × List ℕ)). IsTrue c.eq.result ↔ (pairs ≡ c.args.other.now)) c.as_slice.ensures.value
    (subst (λ (pairs : List (List ℕ × List ℕ)). IsTrue c.eq.result ↔ (c.as_slice.result.now ≡ pairs)) c.as_slice-2.ensures.value same)
