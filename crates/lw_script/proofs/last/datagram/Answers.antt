use Rattle.std.proofs.Common.{IsOk, refl, subst}
use Rattle.hex.specs.Hex.{decode_of}
use Rattle.lw_script.proofs.LineLemmas.{hex_some}
use Rattle.lw_script.proofs.last.datagram.Goals as goal

pub returns-in-Err : goal.returns-in-Err
returns-in-Err c =
    hex_some _ _ refl (subst (λ t. IsOk (decode_of t)) c.as_bytes.ensures.value (c.is_hex.ensures.0 c.if-not-is_hex.false))
