use Rattle.std.proofs.Common.{ap, ◌∙◌, ◌++◌, sym, cond}
use Rattle.lw_reg.specs.Reading.{address_of, watches_of}
use Rattle.lw_table.specs.inner.KeyChanges.{differing_addresses, keys_in, turned_tokens}
use Rattle.lw_table.proofs.FiledLemmas.{on_ok}
use Rattle.lw_table.proofs.KeyChangeLemmas.{pushed_two}
use Rattle.lw_table.proofs.key_changes.push_key_changes.Goals as goal

pub returns-then-is_one : goal.returns-then-is_one
returns-then-is_one c =
    let old = c.args.old.now in
    let other = c.args.other.now in
    let one = differing_addresses (address_of old) (address_of other) ++ turned_tokens (watches_of old) (watches_of other) in
    on_ok _ _ c.push_turned.result
    (λ last. pushed_two c.args.keys.now.items c.push_addresses.new.keys.items c.push_turned.new.keys.items
    (differing_addresses (address_of old) (address_of other)) (turned_tokens (watches_of old) (watches_of other))
    c.in_ok-push_addresses.ensures
    (last ∙ ap (λ ws. c.push_addresses.new.keys.items ++ turned_tokens (watches_of old) ws) c.watches.ensures.watches)
    ∙ ap (λ b. c.args.keys.now.items ++ cond b one (keys_in old ++ keys_in other)) (sym (sym c.is_one.ensures ∙ c.if-is_one.true)))
    c.push_turned.ensures

pub returns : goal.returns
returns c =
    let old = c.args.old.now in
    let other = c.args.other.now in
    let one = differing_addresses (address_of old) (address_of other) ++ turned_tokens (watches_of old) (watches_of other) in
    on_ok _ _ c.push_all-2.result
    (λ last. pushed_two c.args.keys.now.items c.push_all.new.keys.items c.push_all-2.new.keys.items (keys_in old) (keys_in other) c.in_ok-push_all.ensures last
    ∙ ap (λ b. c.args.keys.now.items ++ cond b one (keys_in old ++ keys_in other)) (sym (sym c.is_one.ensures ∙ c.if-is_one.false)))
    c.push_all-2.ensures
