use Rattle.std.proofs.Common.{rules, ◌≡◌, ◌+◌, [], length, vec_len, sym, subst}
use Rattle.lw_held.proofs.Longer.{new_longer}
use Rattle.lw_held.proofs.shelf.passes_of.Goals as goal

pub loop-number-preserved : goal.loop-number-preserved
loop-number-preserved c =
    let many : length c.loop-number.passes.items ≡ c.loop-number.number = search rules in
    let count : vec_len c.push.new.self ≡ c.loop-number.number + 1 = search rules in
    let next = subst (λ n. c.new.result ≡ record { number = n; parts = [] }) (sym many) c.new.ensures in
    record { length = count; are_new = new_longer c.loop-number.passes.items c.push.new.self.items c.new.result c.loop-number.invariant.are_new c.in_ok-push.ensures.items next }
