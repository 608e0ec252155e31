use Rattle.std.proofs.Common.{ap, ◌∙◌, ◌++◌, refl}
use Rattle.lw_table.specs.inner.Keys.{token_in}
use Rattle.lw_table.specs.inner.KeyChanges.{token_key, token_keys}
use Rattle.lw_table.proofs.KeyChangeLemmas.{list_step, list_end, token_keys_cons}
use Rattle.lw_table.proofs.key_changes.push_tokens.Goals as goal

pub loop-watching-preserved : goal.loop-watching-preserved
loop-watching-preserved c =
    list_step token_keys (λ e. token_key (token_in e.1)) token_keys_cons refl
    c.args.keys.now.items c.loop-watching.keys.items c.push_token.new.keys.items c.args.watches.now c.loop-watching.watching-index c.loop-watching-item.result
    c.loop-watching-test.true c.loop-watching-item.is (c.in_ok-push_token.ensures ∙ ap (λ t. c.loop-watching.keys.items ++ token_key t) c.token_of.ensures) c.loop-watching.invariant

pub returns : goal.returns
returns c =
    list_end token_keys (λ e. token_key (token_in e.1)) token_keys_cons refl c.args.keys.now.items c.loop-watching.keys.items c.args.watches.now c.loop-watching.watching-index
    c.loop-watching-test.false c.loop-watching.invariant
