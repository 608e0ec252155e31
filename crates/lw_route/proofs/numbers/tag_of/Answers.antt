use Rattle.std.proofs.Common.{sym, ◌∙◌}
use Rattle.lw_route.proofs.TagLemmas.{not_decoded, other_text, texts_alike, texts_differ}
use Rattle.lw_route.proofs.numbers.tag_of.Goals as goal

pub returns-in_err-bytes-clause-none : goal.returns-in_err-bytes-clause-none
returns-in_err-bytes-clause-none c =
    not_decoded c.args.text.now _ _ _ c.from_hex.ensures c.ok.ensures.value c.in_err-bytes.was

pub returns-then-eq-clause-found : goal.returns-then-eq-clause-found
returns-then-eq-clause-found c = record {
  fits = c.from_be_bytes-tag.type_inv;
  printed = sym (sym (c.as_slice.ensures ∙ c.tag_text.ensures) ∙ texts_alike _ _ _ c.eq.ensures c.if-eq.true);
}

pub returns-else-eq-clause-none : goal.returns-else-eq-clause-none
returns-else-eq-clause-none c =
    other_text c.args.text.now _ _ _ c.from_be_bytes-tag.result c.from_hex.ensures c.ok.ensures.value c.in_ok-bytes.was c.from_be_bytes-tag.ensures
    (λ same. texts_differ _ _ _ c.eq.ensures c.if-eq.false (c.as_slice.ensures ∙ c.tag_text.ensures ∙ sym same))
