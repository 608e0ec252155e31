use Rattle.std.proofs.Common.{ap, ◌∙◌, List, ℕ, cond, true, rules}
use Rattle.std.specs.Prelude.{bytes_eq, string_bytes}
use Rattle.std.specs.BTreeSet.{contains_text}
use Rattle.std.proofs.lemmas.Map.Text.{btree_set_updates_text}
use Rattle.lw_index.proofs.TextLemmas.{one_more}
use Rattle.lw_index.proofs.texts.put.Goals as goal

pub returns-clause-members : goal.returns-clause-members
returns-clause-members c = λ e.
    one_more _ (bytes_eq c.args.text.now e) _
    (btree_set_updates_text (string_bytes c.in_ok-from_str.field-0) c.args.set.now c.insert.new.self _ c.in_ok-insert.ensures.updates e
    ∙ ap (λ (bs : List ℕ). cond (bytes_eq bs e) true (contains_text c.args.set.now e)) c.in_ok-from_str.ensures.ok)

pub returns-then-contains-clause-members : goal.returns-then-contains-clause-members
returns-then-contains-clause-members c = search rules

pub returns-in_err-from_str-clause-present : goal.returns-in_err-from_str-clause-present
returns-in_err-from_str-clause-present c = search rules

pub returns-clause-present : goal.returns-clause-present
returns-clause-present c = search rules
