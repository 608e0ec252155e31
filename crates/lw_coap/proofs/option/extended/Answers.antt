use Rattle.std.proofs.Common.{◌≡◌, [], ◌∷◌, get_or, refl, arith, inr}
use Rattle.lw_coap.proofs.Bytes.{first_one, first_two}
use Rattle.lw_coap.proofs.option.extended.Goals as goal

pub returns-then-nibble-eq13-clause-some : goal.returns-then-nibble-eq13-clause-some
returns-then-nibble-eq13-clause-some c =
    let bytes = c.args.bytes.now in
    (get_or bytes 0 0 ∷ [], (c.if-nibble-eq13.true, omega (arith, c.type_inv.bytes 0), refl), first_one bytes c.in-len1-up.len_at_least)

pub returns-in_default-bytes-clause-none : goal.returns-in_default-bytes-clause-none
returns-in_default-bytes-clause-none c =
    let e : c.args.nibble ≡ 14 = omega (arith, c.if-nibble-eq13.false) in
    (2, inr (inr (e, refl)), c.in_default-bytes.len_below)

pub returns-clause-some : goal.returns-clause-some
returns-clause-some c =
    let bytes = c.args.bytes.now in
    let e : c.args.nibble ≡ 14 = omega (arith, c.if-nibble-eq13.false) in
    (get_or bytes 0 0 ∷ get_or bytes 1 0 ∷ [], (e, omega (arith, c.type_inv.bytes 0), omega (arith, c.type_inv.bytes 1), omega arith), first_two bytes c.in-len2-up.len_at_least)
