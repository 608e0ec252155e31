use Rattle.std.proofs.Common.{ap, ◌∙◌, ◌++◌, refl}
use Rattle.lw_join.specs.Entries.{get as entry_of}
use Rattle.lw_reg.specs.Orders.{path_cmp}
use Rattle.lw_reg.specs.Reading.{watches_of}
use Rattle.lw_table.specs.inner.Keys.{token_in}
use Rattle.lw_table.specs.inner.KeyChanges.{differing_tokens, token_was, turned_tokens}
use Rattle.lw_table.proofs.KeyChangeLemmas.{list_step, list_end}
use Rattle.lw_table.proofs.key_changes.push_turned.Goals as goal

pub loop-path-preserved : goal.loop-path-preserved
loop-path-preserved c =
    let old = watches_of c.args.old.now in
    list_step (turned_tokens old) (λ e. differing_tokens (token_was (entry_of path_cmp old e.0)) (token_in e.1)) (λ e es. refl) refl
    c.args.keys.now.items c.loop-path.keys.items c.push_differing.new.keys.items c.args.watches.now c.loop-path.path-index c.loop-path-item.result
    c.loop-path-test.true c.loop-path-item.is
    (c.in_ok-push_differing.ensures ∙ ap (λ o. c.loop-path.keys.items ++ differing_tokens (token_was o) (token_in c.loop-path-item.result.1)) c.watching.ensures) c.loop-path.invariant

pub returns : goal.returns
returns c =
    let old = watches_of c.args.old.now in
    list_end (turned_tokens old) (λ e. differing_tokens (token_was (entry_of path_cmp old e.0)) (token_in e.1)) (λ e es. refl) refl c.args.keys.now.items c.loop-path.keys.items c.args.watches.now c.loop-path.path-index
    c.loop-path-test.false c.loop-path.invariant
