use Rattle.std.proofs.Common.{◌≡◌, ℕ, List, [], ◌++◌, ap, sym, ◌∙◌}
use Rattle.std.proofs.lemmas.List.{append-nil}
use Rattle.lw_delta.specs.declared.form.Form.{Form}
use Rattle.lw_delta.specs.Form.{magic_of, latest}
use Rattle.lw_delta.specs.Writing.{number48_bytes, begun_bytes}
use Rattle.lw_delta.proofs.writer.Writer.new.Goals as goal

begun_with : (clock : ℕ) (a b c : List ℕ) → a ≡ [] → b ≡ a ++ magic_of latest → c ≡ b ++ number48_bytes clock → c ≡ begun_bytes clock []
begun_with clock a b c e f g =
    g ∙ (ap (λ (x : List ℕ). x ++ number48_bytes clock) (f ∙ ap (λ (x : List ℕ). x ++ magic_of latest) e) ∙ sym (append-nil (magic_of latest ++ number48_bytes clock)))

magic_put : (a b magic : List ℕ) (form : Form) → b ≡ a ++ magic → magic ≡ magic_of form → form ≡ latest → b ≡ a ++ magic_of latest
magic_put a b magic form e f g = e ∙ ap (λ (x : List ℕ). a ++ x) (f ∙ ap magic_of g)

pub invariant_of-result : goal.invariant_of-result
invariant_of-result c = (
  [],
  record { bytes = begun_with c.args.clock _ _ _ c.in_ok-bytes.ensures.items (magic_put _ _ _ _ c.in_ok-put_bytes.ensures.written c.magic.ensures c.latest.ensures) c.in_ok-put_number48.ensures.written; in_range = c.requires; good = tt },
)

pub returns-clause-begun : goal.returns-clause-begun
returns-clause-begun c =
    record { bytes = begun_with c.args.clock _ _ _ c.in_ok-bytes.ensures.items (magic_put _ _ _ _ c.in_ok-put_bytes.ensures.written c.magic.ensures c.latest.ensures) c.in_ok-put_number48.ensures.written; in_range = c.requires; good = tt }
