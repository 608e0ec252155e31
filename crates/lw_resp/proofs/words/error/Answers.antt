use Rattle.std.proofs.Common.{ℕ, List, [], ◌∷◌, Bor, refl, sym, ap, arith}
use Rattle.lw_resp.specs.Words.{IsBulk, IsText, IsWord, word_bytes}
use Rattle.lw_resp.specs.Words.WordContent.{Error}
use Rattle.lw_resp.specs.inner.Parts.{AreThese, IsAtMost, as_they_are, bulk_ended, ended, number_ended}
use Rattle.lw_resp.proofs.Composed.{read_none, cut_behind}
use Rattle.lw_resp.proofs.words.error.Goals as goal

pub returns-in-Ok-None : goal.returns-in-Ok-None
returns-in-Ok-None c =
    let cut = read_none IsText ended c.args.behind.now (λ (x : Bor (List ℕ) × Bor (List ℕ)). x.0.now) (λ x. x.1.now) c.in-Ok-None.field-0 c.in-Ok-None.field-0-is c.in-Ok-None.ensures in
    cut_behind IsText ended IsWord word_bytes (45 ∷ c.args.behind.now) (45 ∷ []) c.args.behind.now refl cut (Error cut.value) cut.valid refl
