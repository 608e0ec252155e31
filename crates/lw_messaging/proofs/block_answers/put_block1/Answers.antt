use Rattle.std.proofs.Common.{◌≡◌, ℕ, ap, ◌∙◌}
use Rattle.std.specs.Prelude.{insert}
use Rattle.std.specs.List.{prefix_len}
use Rattle.lw_messaging.specs.BlockAnswers.{block1_of}
use Rattle.lw_messaging.specs.inner.BlockAnswers.{is_not_above_block1}
use Rattle.lw_messaging.proofs.AnswerLemmas.{put_by_prefix}
use Rattle.lw_messaging.proofs.block_answers.put_block1.Goals as goal

pub returns : goal.returns
returns c =
    let place : c.place_of_block-place.result ≡ prefix_len is_not_above_block1 c.args.options.now.items =
    c.place_of_block-place.ensures.value ∙ ap (prefix_len is_not_above_block1) c.deref.ensures.value in
    c.in_ok-insert.ensures.items
    ∙ ap (λ (k : ℕ). insert c.args.options.now.items k (block1_of c.args.value.items)) place
    ∙ put_by_prefix c.args.value.items c.args.options.now.items
