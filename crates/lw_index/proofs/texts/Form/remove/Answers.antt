use Rattle.std.proofs.Common.{◌≡◌, ◌<◌, ◌&&◌, not, map, length, false, sym, ap, ◌∙◌, subst, ◌∷◌, [], arith}
use Rattle.std.specs.Prelude.{bytes_eq, string_bytes}
use Rattle.std.specs.BTreeSet.{contains_text}
use Rattle.std.proofs.lemmas.Map.Text.{btree_set_updates_text}
use Rattle.lw_index.specs.inner.Shown.{texts_in}
use Rattle.lw_index.specs.inner.Texts.{has_text}
use Rattle.lw_index.proofs.TextLemmas.{has_contains, left_of, length_texts, one_absent, one_less, unchanged_at}
use Rattle.lw_index.proofs.texts.Form.remove.Goals as goal

pub returns-in_default-clause-members : goal.returns-in_default-clause-members
returns-in_default-clause-members c = λ e.
    rw c.in_default.is (one_absent (string_bytes c.in_default.field-0) c.args.text.now e (λ p. c.requires (ap texts_in c.in_default.is ∙ ap (λ x. x ∷ []) p)))

pub returns-in-Some-clause-members : goal.returns-in-Some-clause-members
returns-in-Some-clause-members c = λ e.
    ap (λ ks. has_text (map string_bytes ks) e) (sym c.in-Some.ensures.one)
    ∙ has_contains c.remove.new.self e
    ∙ one_less (contains_text c.in-Several.set e) (bytes_eq c.args.text.now e) _ (btree_set_updates_text c.args.text.now c.in-Several.set c.remove.new.self _ c.remove.ensures.updates e)
    ∙ ap (λ b. b && not (bytes_eq c.args.text.now e)) (sym (has_contains c.in-Several.set e) ∙ ap (λ f. has_text (texts_in f) e) (sym c.in-Several.is))

pub returns-in-Some-clause-absent : goal.returns-in-Some-clause-absent
returns-in-Some-clause-absent c = λ none.
    let absent = has_contains c.in-Several.set c.args.text.now in
    let same = unchanged_at c.remove.result c.remove.ensures.unchanged (c.remove.ensures.test ∙ sym absent ∙ subst (λ f. has_text (texts_in f) c.args.text.now ≡ false) c.in-Several.is none) in
    ap (map string_bytes) (sym c.in-Some.ensures.one ∙ same) ∙ ap texts_in (sym c.in-Several.is)

pub returns-in_default-take_last-clause-members : goal.returns-in_default-take_last-clause-members
returns-in_default-take_last-clause-members c = λ e.
    ap (λ ks. has_text (map string_bytes ks) e) c.in_default-take_last.ensures.none
    ∙ has_contains c.remove.new.self e
    ∙ one_less (contains_text c.in-Several.set e) (bytes_eq c.args.text.now e) _ (btree_set_updates_text c.args.text.now c.in-Several.set c.remove.new.self _ c.remove.ensures.updates e)
    ∙ ap (λ b. b && not (bytes_eq c.args.text.now e)) (sym (has_contains c.in-Several.set e) ∙ ap (λ f. has_text (texts_in f) e) (sym c.in-Several.is))

pub returns-in_default-take_last-clause-some : goal.returns-in_default-take_last-clause-some
returns-in_default-take_last-clause-some c = λ some gone.
    let before = ap texts_in (sym c.in-Several.is) in
    let more : 0 < length c.remove.new.self.keys = left_of (map string_bytes c.in-Several.set.keys) c.args.text.now (length c.remove.new.self.keys) c.remove.result
    (c.remove.ensures.test ∙ sym (has_contains c.in-Several.set c.args.text.now))
    (c.remove.ensures.len ∙ sym (length_texts c.in-Several.set.keys))
    (λ e. some (sym before ∙ e))
    (λ e. c.requires (sym before ∙ e)) in
    let none : length (map string_bytes c.take_last.new.set.keys) ≡ 0 = ap length gone in
    absurd (omega (arith, more, none, length_texts c.take_last.new.set.keys, ap length c.in_default-take_last.ensures.none))

pub returns-in_default-take_last-clause-absent : goal.returns-in_default-take_last-clause-absent
returns-in_default-take_last-clause-absent c = λ none.
    let absent = has_contains c.in-Several.set c.args.text.now in
    let same = unchanged_at c.remove.result c.remove.ensures.unchanged (c.remove.ensures.test ∙ sym absent ∙ subst (λ f. has_text (texts_in f) c.args.text.now ≡ false) c.in-Several.is none) in
    ap (map string_bytes) (c.in_default-take_last.ensures.none ∙ same) ∙ ap texts_in (sym c.in-Several.is)
