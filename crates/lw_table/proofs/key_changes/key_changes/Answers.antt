use Rattle.std.proofs.Common.{ap, ◌∙◌, ◌++◌, sym, subst}
use Rattle.std.specs.Option.{option_copied}
use Rattle.lw_table.specs.inner.KeyChanges.{HasKeyChanges, changes}
use Rattle.lw_table.proofs.KeyChangeLemmas.{is_turning}
use Rattle.lw_table.proofs.key_changes.key_changes.Goals as goal

pub returns : goal.returns
returns c =
    let old = option_copied c.args.old in
    let other = c.args.other.now in
    subst (HasKeyChanges old other) (sym (c.in_ok-push_changes.ensures ∙ ap (λ l. l ++ changes old other) c.new-keys.ensures.items)) (is_turning old other)
