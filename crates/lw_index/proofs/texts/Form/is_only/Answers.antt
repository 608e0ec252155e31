use Rattle.std.proofs.Common.{◌≡◌, length, map, sym, ◌∙◌, arith}
use Rattle.std.specs.Prelude.{string_bytes}
use Rattle.lw_index.proofs.TextLemmas.{has_contains, length_texts, only_text}
use Rattle.lw_index.proofs.texts.Form.is_only.Goals as goal

pub returns-then-len-eq1 : goal.returns-then-len-eq1
returns-then-len-eq1 c =
    let one : length (map string_bytes c.in-Several.set.keys) ≡ 1 = omega (arith, length_texts c.in-Several.set.keys, c.len.ensures.len, c.if-len-eq1.true) in
    let only = only_text (map string_bytes c.in-Several.set.keys) c.args.text.now one in
    let has = has_contains c.in-Several.set c.args.text.now in
    rw c.in-Several.is (λ h. only.0 (has ∙ sym c.contains.ensures ∙ h), λ is. c.contains.ensures ∙ sym has ∙ only.1 is)
