use Rattle.std.proofs.Common.{ap, ◌∙◌, ◌++◌}
use Rattle.lw_reg.specs.Reading.{address_of, stamp_of, watches_of}
use Rattle.lw_table.specs.inner.KeyChanges.{address_key, id_key, token_keys}
use Rattle.lw_table.proofs.FiledLemmas.{on_ok}
use Rattle.lw_table.proofs.KeyChangeLemmas.{pushed_three}
use Rattle.lw_table.proofs.key_changes.push_all.Goals as goal

pub returns : goal.returns
returns c =
    let slot = c.args.slot.now in
    on_ok _ _ c.push_tokens.result
    (λ last. pushed_three c.args.keys.now.items c.push_id.new.keys.items c.push_address.new.keys.items c.push_tokens.new.keys.items
    (id_key slot.registration.value (stamp_of slot)) (address_key (address_of slot)) (token_keys (watches_of slot))
    c.in_ok-push_id.ensures
    (c.in_ok-push_address.ensures ∙ ap (λ w. c.push_id.new.keys.items ++ address_key w) c.address.ensures)
    (last ∙ ap (λ ws. c.push_address.new.keys.items ++ token_keys ws) c.watches.ensures.watches))
    c.push_tokens.ensures
