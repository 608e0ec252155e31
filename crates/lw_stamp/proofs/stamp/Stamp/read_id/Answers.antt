use Rattle.std.proofs.Common.{sym, ◌∙◌}
use Rattle.lw_stamp.proofs.StampLemmas.{not_decoded, not_found, same_text, other_text, texts_alike, texts_differ}
use Rattle.lw_stamp.proofs.stamp.Stamp.read_id.Goals as goal

pub returns-in_err-ok : goal.returns-in_err-ok
returns-in_err-ok c =
    not_decoded c.args.text.now _ _ _ c.from_hex.ensures c.ok.ensures.value c.in_err-ok.was c.from_residual.ensures

pub returns-in_err-stamp : goal.returns-in_err-stamp
returns-in_err-stamp c =
    not_found c.args.text.now _ _ _ _ _ c.from_hex.ensures c.ok.ensures.value c.in_ok-ok.was c.from_bytes.ensures.some c.in_err-stamp.was c.from_residual-in_err-stamp.ensures

pub returns-then-eq : goal.returns-then-eq
returns-then-eq c =
    same_text c.args.text.now _ _ _ _ c.in_ok-stamp.stamp c.from_hex.ensures c.ok.ensures.value c.in_ok-ok.was c.from_bytes.ensures.some c.in_ok-stamp.was
    (sym (sym (c.as_slice.ensures ∙ c.id_text.ensures) ∙ texts_alike _ _ _ c.eq.ensures c.if-eq.true))

pub returns-else-eq : goal.returns-else-eq
returns-else-eq c =
    other_text c.args.text.now _ _ _ _ c.in_ok-stamp.stamp c.from_hex.ensures c.ok.ensures.value c.in_ok-ok.was c.from_bytes.ensures.some c.in_ok-stamp.was
    (λ same. texts_differ _ _ _ c.eq.ensures c.if-eq.false (c.as_slice.ensures ∙ c.id_text.ensures ∙ sym same))
