use Rattle.std.proofs.Common.{ℕ, List, [], ◌∷◌, Bor, refl, sym, ap, arith}
use Rattle.lw_resp.specs.Words.{IsBulk, IsText, IsWord, word_bytes}
use Rattle.lw_resp.specs.Words.WordContent.{Array}
use Rattle.lw_resp.specs.inner.Parts.{AreThese, IsAtMost, as_they_are, bulk_ended, ended, number_ended}
use Rattle.lw_resp.proofs.Composed.{read_none, cut_behind}
use Rattle.lw_resp.proofs.words.array_word.Goals as goal

pub returns-in-Ok-None : goal.returns-in-Ok-None
returns-in-Ok-None c =
    let cut = read_none (IsAtMost 9223372036854775807) number_ended c.args.behind.now (λ (x : ℕ × Bor (List ℕ)). x.0) (λ x. x.1.now) c.in-Ok-None.field-0 c.in-Ok-None.field-0-is c.in-Ok-None.ensures in
    cut_behind (IsAtMost 9223372036854775807) number_ended IsWord word_bytes (42 ∷ c.args.behind.now) (42 ∷ []) c.args.behind.now refl cut (Array cut.value) (omega (arith, cut.valid)) refl
