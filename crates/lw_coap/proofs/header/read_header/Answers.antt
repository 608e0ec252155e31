use Rattle.std.proofs.Common.{◌-◌, ◌/◌, ◌%◌, ◌<◌, ◌⊎◌, length, ℕ, get_or, take, drop, arith, refl, subst, inl, inr}
use Rattle.std.proofs.lemmas.Grind.{common_steps}
use Rattle.lw_coap.specs.Grammar.{kind_number}
use Rattle.lw_coap.specs.Faults.{HasHead}
use Rattle.lw_coap.proofs.Bytes.{header_and_rest, head_at}
use Rattle.lw_coap.proofs.header.read_header.Goals as goal
use Rattle.lw_coap.proofs.header.read_header.Goals.{then-token_length-gt0, else-token_length-gt0}

pub returns-then-version-ne-VERSION-clause-fault : goal.returns-then-version-ne-VERSION-clause-fault
returns-then-version-ne-VERSION-clause-fault c =
    let bytes = c.args.bytes.now in (
      get_or bytes 0 0 / 64,
      get_or bytes 0 0 % 16,
      get_or bytes 1 0,
      take (length bytes - 4) (drop 4 bytes),
      head_at bytes (get_or bytes 0 0 / 64) (λ i. omega (arith, c.type_inv.bytes i)) c.in-len4-up.len_at_least (omega arith) refl,
      c.if-version-ne-VERSION.true,
    )

pub returns-then-token_length-gt-MAX_TOKEN-clause-fault : goal.returns-then-token_length-gt-MAX_TOKEN-clause-fault
returns-then-token_length-gt-MAX_TOKEN-clause-fault c =
    let bytes = c.args.bytes.now in (
      get_or bytes 0 0 % 16,
      get_or bytes 1 0,
      take (length bytes - 4) (drop 4 bytes),
      head_at bytes 1 (λ i. omega (arith, c.type_inv.bytes i)) c.in-len4-up.len_at_least (omega arith) c.if-version-ne-VERSION.false,
      omega arith,
    )

-- a rest that is not empty, or a token
is_more : (c : goal.Then-not-is_empty) → (0 < get_or c.args.bytes.now 0 0 % 16) ⊎ (0 < length (take (length c.args.bytes.now - 4) (drop 4 c.args.bytes.now)))
is_more c =
    elim c.if-token_length-gt0.branch [
      | then-token_length-gt0 w ↦ inl (omega arith)
      | else-token_length-gt0 w ↦ inr (grind (arith, common_steps))
    ]

pub returns-then-not-is_empty-clause-fault : goal.returns-then-not-is_empty-clause-fault
returns-then-not-is_empty-clause-fault c =
    let bytes = c.args.bytes.now in
    let rest = take (length bytes - 4) (drop 4 bytes) in
    let head : HasHead bytes 1 (get_or bytes 0 0 % 16) (get_or bytes 1 0) rest = head_at bytes 1 (λ i. omega (arith, c.type_inv.bytes i)) c.in-len4-up.len_at_least (omega arith) c.if-version-ne-VERSION.false in
    (get_or bytes 0 0 % 16, rest, subst (λ (code : ℕ). HasHead bytes 1 (get_or bytes 0 0 % 16) code rest) c.if-code-eq0.true head, omega arith, is_more c)

pub returns-clause-header : goal.returns-clause-header
returns-clause-header c =
    let bytes = c.args.bytes.now in
    header_and_rest bytes 1 (kind_number c.kind_in.result) c.from_be_bytes.result (λ i. omega (arith, c.type_inv.bytes i)) c.in-len4-up.len_at_least (omega arith) c.kind_in.ensures (omega arith)
