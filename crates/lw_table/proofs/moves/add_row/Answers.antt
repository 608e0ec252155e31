use Rattle.std.proofs.Common.{◌≡◌, None, Some, length, refl, sym, ◌∙◌, subst, rules}
use Rattle.std.specs.Prelude.{string_bytes}
use Rattle.lw_table.specs.inner.Filed.{HasNumber, IsFiled, NumbersRow, OthersSame}
use Rattle.lw_table.specs.inner.KeyChanges.{HasKeyChanges}
use Rattle.lw_table.specs.inner.Moves.{FilesRow}
use Rattle.lw_table.proofs.FiledLemmas.{numbers_after}
use Rattle.lw_table.proofs.MoveLemmas.{err_then, others_then}
use Rattle.lw_table.proofs.moves.add_row.Goals as goal

pub file_first-requires-clause-filed : goal.file_first-requires-clause-filed
file_first-requires-clause-filed c =
    let at : c.in-Ok.place ≡ length c.args.rows.now.rows.items = search rules in
    subst (λ e. IsFiled c.args.filed.now e c.in-Ok.place None) (sym c.as_str.ensures.value) (subst (λ p. IsFiled c.args.filed.now (string_bytes c.args.endpoint) p None) (sym at) c.requires.filed)

pub file_first-requires-clause-numbers : goal.file_first-requires-clause-numbers
file_first-requires-clause-numbers c =
    let at : c.in-Ok.place ≡ length c.args.rows.now.rows.items = search rules in
    subst (λ p. HasNumber c.args.filed.now.numbers p None) (sym at) c.requires.numbers

pub returns-in_err-file_first-clause-unchanged : goal.returns-in_err-file_first-clause-unchanged
returns-in_err-file_first-clause-unchanged c =
    let at : c.in-Ok.place ≡ length c.args.rows.now.rows.items = search rules in
    err_then _ c.from_residual-in_err-file_first.result (
      record { same = λ e. refl; held = λ p. refl; rows = c.requires.rows },
      subst (λ p. FilesRow (string_bytes c.args.endpoint) p None c.args.filed.now c.file_first.new.filed) at
          (subst (λ e. FilesRow e c.in-Ok.place None c.args.filed.now c.file_first.new.filed) c.as_str.ensures.value c.in_err-file_first.ensures.unchanged),
    )

pub returns-in-Ok-insert-clause-added : goal.returns-in-Ok-insert-clause-added
returns-in-Ok-insert-clause-added c =
    let at : c.in-Ok.place ≡ length c.args.rows.now.rows.items = search rules in (
      c.in-Ok-insert.ensures.put,
      subst (λ p. FilesRow (string_bytes c.args.endpoint) p (Some c.args.row) c.args.filed.now c.file_first.new.filed) at
          (subst (λ e. FilesRow e c.in-Ok.place (Some c.args.row) c.args.filed.now c.file_first.new.filed) c.as_str.ensures.value c.in_ok-file_first.ensures.filed),
    )

pub unfile_first-requires : goal.unfile_first-requires
unfile_first-requires c =
    let back : c.as_str-in-Err.result.now ≡ c.as_str.result.now = c.as_str-in-Err.ensures.value ∙ c.in-Err.ensures.returned ∙ sym c.as_str.ensures.value in
    record {
      filed = record {
        row = c.args.row;
        is = subst (λ e. IsFiled c.file_first.new.filed e c.in-Ok.place (Some c.args.row)) (sym back) c.in_ok-file_first.ensures.filed.0;
        keys_are = subst (λ keys. HasKeyChanges None c.args.row.slot keys) (sym c.deref-in-Err.ensures.value) c.in_ok-keys.ensures;
      };
      numbers = c.in_ok-file_first.ensures.filed.1.here;
    }

pub returns-in_err-file_first-clause-others : goal.returns-in_err-file_first-clause-others
returns-in_err-file_first-clause-others c =
    let at : c.in-Ok.place ≡ length c.args.rows.now.rows.items = search rules in
    subst (OthersSame c.args.filed.now c.file_first.new.filed (string_bytes c.args.endpoint)) at
    (subst (λ e. OthersSame c.args.filed.now c.file_first.new.filed e c.in-Ok.place) c.as_str.ensures.value c.file_first.ensures.others)

pub returns-in-Ok-insert-clause-others : goal.returns-in-Ok-insert-clause-others
returns-in-Ok-insert-clause-others c =
    let at : c.in-Ok.place ≡ length c.args.rows.now.rows.items = search rules in
    subst (OthersSame c.args.filed.now c.file_first.new.filed (string_bytes c.args.endpoint)) at
    (subst (λ e. OthersSame c.args.filed.now c.file_first.new.filed e c.in-Ok.place) c.as_str.ensures.value c.file_first.ensures.others)

pub returns-clause-others : goal.returns-clause-others
returns-clause-others c =
    let e = string_bytes c.args.endpoint in
    let p = c.in-Ok.place in
    let at : p ≡ length c.args.rows.now.rows.items = search rules in
    let back : c.as_str-in-Err.result.now ≡ e = c.as_str-in-Err.ensures.value ∙ c.in-Err.ensures.returned in
    subst (OthersSame c.args.filed.now c.unfile_first.new.filed e) at
    (others_then e p c.args.filed.now c.file_first.new.filed c.unfile_first.new.filed (subst (λ x. OthersSame c.args.filed.now c.file_first.new.filed x p) c.as_str.ensures.value c.file_first.ensures.others)
    (subst (λ x. OthersSame c.file_first.new.filed c.unfile_first.new.filed x p) back c.unfile_first.ensures.others))

pub returns-clause-unchanged : goal.returns-clause-unchanged
returns-clause-unchanged c =
    let at : c.in-Ok.place ≡ length c.args.rows.now.rows.items = search rules in
    let back : c.as_str-in-Err.result.now ≡ string_bytes c.args.endpoint = c.as_str-in-Err.ensures.value ∙ c.in-Err.ensures.returned in (
      c.in-Err.ensures.unchanged,
      (
        subst (λ p. IsFiled c.unfile_first.new.filed (string_bytes c.args.endpoint) p None) at (subst (λ e. IsFiled c.unfile_first.new.filed e c.in-Ok.place None) back c.unfile_first.ensures.none),
        subst (λ p. NumbersRow p None c.args.filed.now.numbers c.unfile_first.new.filed.numbers) at
            (numbers_after c.in-Ok.place (Some c.args.row) None c.args.filed.now.numbers c.file_first.new.filed.numbers c.unfile_first.new.filed.numbers c.in_ok-file_first.ensures.filed.1 c.unfile_first.ensures.numbers),
      ),
    )
