use Rattle.std.proofs.Common.{ℕ, List, [], ◌∷◌, Bor, refl, sym, ap, arith}
use Rattle.lw_resp.specs.Words.{IsBulk, IsText, IsWord, word_bytes}
use Rattle.lw_resp.specs.Words.WordContent.{Null}
use Rattle.lw_resp.specs.inner.Parts.{AreThese, IsAtMost, as_they_are, bulk_ended, ended, number_ended}
use Rattle.lw_resp.proofs.Composed.{read_none, cut_behind}
use Rattle.lw_resp.proofs.WordLemmas.{null_malformed}
use Rattle.lw_resp.proofs.words.null.Goals as goal

pub returns-in-Ok-None : goal.returns-in-Ok-None
returns-in-Ok-None c =
    let cut = read_none (AreThese (49 ∷ 13 ∷ 10 ∷ [])) as_they_are c.args.behind.now (λ (x : Bor (List ℕ)). 49 ∷ 13 ∷ 10 ∷ []) (λ x. x.now) c.in-Ok-None.field-0 c.in-Ok-None.field-0-is c.in-Ok-None.ensures in
    cut_behind (AreThese (49 ∷ 13 ∷ 10 ∷ [])) as_they_are IsWord word_bytes (36 ∷ 45 ∷ c.args.behind.now) (36 ∷ 45 ∷ []) c.args.behind.now refl cut Null tt (ap (λ (s : List ℕ). 36 ∷ 45 ∷ s) (sym cut.valid))

pub returns-in-Err : goal.returns-in-Err
returns-in-Err c = null_malformed c.args.behind.now c.in-Err.ensures
