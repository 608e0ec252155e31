use Rattle.std.proofs.Common.{[], ◌∷◌, ◌++◌, ap, sym, ◌∙◌, subst}
use Rattle.lw_replica.specs.declared.looking.FirstLook.{FirstLook}
use Rattle.lw_replica.specs.Reading.{AreNoted}
use Rattle.lw_replica.proofs.Numbering.{noted_one, noted_then}
use Rattle.lw_replica.proofs.Beginnings.{begins, beginning_before, not_empty}
use Rattle.lw_replica.proofs.looking.FirstLook.note.Goals as goal
use Rattle.lw_replica.proofs.looking.FirstLook.note.Goals.{then-is_beginning, else-is_beginning}

pub returns : goal.returns
returns c = λ es seen. record {
  none = λ f. absurd cc;
  some = λ t. not_empty es c.args.bytes.now;
  whole = λ h. elim c.if-is_beginning.branch [
    | then-is_beginning w ↦ begins es c.args.self.now c.args.bytes.now seen (c.is_beginning.ensures w.if-is_beginning.true)
    | else-is_beginning w ↦ beginning_before es (c.args.bytes.now ∷ []) (seen.whole (sym (ap (λ (l : FirstLook). l.whole) w.self-is) ∙ h))
  ];
  used_numbers =
      let now = c.note_bytes.new.self.bytes.value in
      let all : AreNoted [] (es ++ c.args.bytes.now ∷ []) now =
      noted_then [] c.args.self.now.used_numbers.bytes.value now es (c.args.bytes.now ∷ []) seen.used_numbers (noted_one c.args.self.now.used_numbers.bytes.value now c.args.bytes.now c.note_bytes.ensures) in
      elim c.if-is_beginning.branch [
        | then-is_beginning w ↦ subst (λ xs. AreNoted [] (es ++ c.args.bytes.now ∷ []) xs) (sym (ap (λ (l : FirstLook). l.used_numbers.bytes.value) w.self-is)) all
        | else-is_beginning w ↦ subst (λ xs. AreNoted [] (es ++ c.args.bytes.now ∷ []) xs) (sym (ap (λ (l : FirstLook). l.used_numbers.bytes.value) w.self-is)) all
      ];
}
