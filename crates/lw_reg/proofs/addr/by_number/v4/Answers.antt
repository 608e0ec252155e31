use Rattle.std.proofs.Common.{◌∙◌, arith}
use Rattle.std.specs.Ordering.{nat_cmp}
use Rattle.lw_reg.proofs.AddrNumbers.{by_four}
use Rattle.lw_reg.proofs.addr.by_number.v4.Goals as goal

pub returns : goal.returns
returns c =
    c.cmp.ensures ∙ (λ i. nat_cmp (c.from_be_bytes.ensures i) (c.from_be_bytes-2.ensures i))
    ∙ by_four c.args.left.now c.args.right.now (λ k. omega (arith, c.fits-left k)) (λ k. omega (arith, c.fits-right k)) c.told-left c.told-right
