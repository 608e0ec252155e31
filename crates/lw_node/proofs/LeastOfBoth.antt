-- The least that is above two of what nodes know: there is one, and it is a join.
use Rattle.std.proofs.Common.{◌≡◌, ℕ, arith}
use Rattle.lw_reg.specs.State.{State}
use Rattle.lw_reg.proofs.States.{state_laws}
use Rattle.lw_node.specs.Exchange.{IsBelow, LeastIsOne, LeastCommutes, LeastAssociates, LeastRepeats}

below_itself : (a : ℕ × State) → IsBelow a a
below_itself a = (omega arith, state_laws.reflexive a.1)

below_then : (a b c : ℕ × State) → IsBelow a b → IsBelow b c → IsBelow a c
below_then a b c h g = (let x = h.0 in let y = g.0 in omega (arith, x, y), state_laws.transitive a.1 b.1 c.1 h.1 g.1)

below_both : (a b : ℕ × State) → IsBelow a b → IsBelow b a → a ≡ b
below_both a b h g =
    let clock : a.0 ≡ b.0 = let x = h.0 in let y = g.0 in omega (arith, x, y) in
    let state : a.1 ≡ b.1 = state_laws.antisymmetric a.1 b.1 h.1 g.1 in
    λ i. (clock i, state i)

pub least_is_one : LeastIsOne
least_is_one a b c d h g = below_both c d (h.least d g.above_first g.above_second) (g.least c h.above_first h.above_second)

pub least_commutes : LeastCommutes
least_commutes a b c h = record { above_first = h.above_second; above_second = h.above_first; least = λ d x y. h.least d y x }

pub least_associates : LeastAssociates
least_associates a b c ab bc one other left one_is right other_is =
    below_both one other
    (one_is.least other
    (left.least other other_is.above_first (below_then b bc other right.above_first other_is.above_second))
    (below_then c bc other right.above_second other_is.above_second))
    (other_is.least one
    (below_then a ab one left.above_first one_is.above_first)
    (right.least one (below_then b ab one left.above_second one_is.above_first) one_is.above_second))

pub least_repeats : LeastRepeats
least_repeats a b ab again h g = below_both again ab (g.least ab (below_itself ab) h.above_second) g.above_first
