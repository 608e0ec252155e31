use Rattle.std.proofs.Common.{ap, ◌∙◌, ◌++◌, sym, [], ◌∷◌}
use Rattle.std.proofs.lemmas.List.{append-nil}
use Rattle.lw_table.specs.declared.key.Key.TheVariants.{Id}
use Rattle.lw_table.proofs.KeyChangeLemmas.{removed_key, here_key}
use Rattle.lw_table.proofs.key_changes.push_id.Goals as goal

pub returns-then-is_removed : goal.returns-then-is_removed
returns-then-is_removed c =
    let v = c.args.slot.now.registration.value in
    let s = c.args.slot.now.registration.stamp in
    sym (ap (λ l. c.args.keys.now.items ++ l) (removed_key v s (c.is_removed.ensures.0 c.if-is_removed.true)) ∙ append-nil c.args.keys.now.items)

pub returns : goal.returns
returns c =
    let v = c.args.slot.now.registration.value in
    let s = c.args.slot.now.registration.stamp in
    let old = c.args.keys.now.items in
    c.in_ok-push.ensures.items ∙ ap (λ t. old ++ (Id t ∷ [])) c.stamp.ensures
    ∙ ap (λ l. old ++ l) (sym (here_key v s (λ gone. let removed = c.is_removed.ensures.1 gone in absurd cc)))
