use Rattle.std.proofs.Common.{◌≡◌, ◌||◌, map, true, sym, ap, ◌∙◌, subst}
use Rattle.std.specs.Prelude.{bytes_eq, string_bytes}
use Rattle.lw_index.specs.inner.Shown.{texts_in}
use Rattle.lw_index.specs.inner.Texts.{has_text}
use Rattle.lw_index.proofs.TextLemmas.{has_contains, on_ok, one_again, one_has, one_is, other_text, same_text, some_texts}
use Rattle.lw_index.proofs.texts.Form.add.Goals as goal

pub returns-then-eq-clause-members : goal.returns-then-eq-clause-members
returns-then-eq-clause-members c = λ e.
    let same = same_text c.as_str.result.now c.args.text.now c.eq.result c.eq.ensures c.if-eq.true in
    rw c.in-One.is (one_again (string_bytes c.in-One.only) c.args.text.now (sym c.as_str.ensures.value ∙ same) e)

pub returns-in_err-set-in-One-clause-present : goal.returns-in_err-set-in-One-clause-present
returns-in_err-set-in-One-clause-present c = λ h.
    let is = one_is (string_bytes c.in-One.only) c.args.text.now (subst (λ f. has_text (texts_in f) c.args.text.now ≡ true) c.in-One.is h) in
    absurd (other_text c.as_str.result.now c.args.text.now c.eq.result c.eq.ensures c.if-eq.false (c.as_str.ensures.value ∙ is))

pub returns-in_ok-set-in-One-clause-members : goal.returns-in_ok-set-in-One-clause-members
returns-in_ok-set-in-One-clause-members c = λ e.
    has_contains c.in_ok-set-in-One.set e
    ∙ c.in_ok-set-in-One.ensures.members e
    ∙ ap (λ b. b || bytes_eq c.args.text.now e) (ap (λ a. bytes_eq a e) c.as_str-in-One.ensures.value ∙ sym (one_has (string_bytes c.in-One.only) e) ∙ ap (λ f. has_text (texts_in f) e) (sym c.in-One.is))

pub returns-in_ok-set-in-One-clause-present : goal.returns-in_ok-set-in-One-clause-present
returns-in_ok-set-in-One-clause-present c = λ h.
    let is = one_is (string_bytes c.in-One.only) c.args.text.now (subst (λ f. has_text (texts_in f) c.args.text.now ≡ true) c.in-One.is h) in
    absurd (other_text c.as_str.result.now c.args.text.now c.eq.result c.eq.ensures c.if-eq.false (c.as_str.ensures.value ∙ is))

pub returns-in-Several-clause-members : goal.returns-in-Several-clause-members
returns-in-Several-clause-members c =
    on_ok _ _ c.put.result
    (λ members e. has_contains c.put.new.set e ∙ members e ∙ ap (λ b. b || bytes_eq c.args.text.now e) (sym (has_contains c.in-Several.set e) ∙ ap (λ f. has_text (texts_in f) e) (sym c.in-Several.is)))
    c.put.ensures.members

pub returns-in-Several-clause-some : goal.returns-in-Several-clause-some
returns-in-Several-clause-some c = on_ok _ _ c.put.result (some_texts c.put.new.set.keys) c.put.ensures.some

pub returns-in-Several-clause-present : goal.returns-in-Several-clause-present
returns-in-Several-clause-present c = λ h.
    let put = c.put.ensures.present (sym (has_contains c.in-Several.set c.args.text.now) ∙ subst (λ f. has_text (texts_in f) c.args.text.now ≡ true) c.in-Several.is h) in
    (put.0, ap (map string_bytes) put.1 ∙ ap texts_in (sym c.in-Several.is))
