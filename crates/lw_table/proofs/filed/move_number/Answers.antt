use Rattle.std.proofs.Common.{inl, inr, ap, Some, refl, sym}
use Rattle.lw_table.proofs.FiledLemmas.{one_number}
use Rattle.lw_table.proofs.filed.move_number.Goals as goal

pub move_to-requires : goal.move_to-requires
move_to-requires c = (c.requires c.args.last).1 refl

pub returns : goal.returns
returns c =
    let p = c.args.place in
    record {
      others = record {
        same = λ n d other. (
          λ h. elim ((c.move_to.ensures n d).0 h) [ inl was ↦ was.0 | inr pair ↦ absurd (other pair.1) ],
          λ h. (c.move_to.ensures n d).1 (inl (h, λ pair. other pair.1)),
        );
      };
      number = λ n. (
        λ h. elim ((c.move_to.ensures n p).0 h) [ inl was ↦ absurd (was.1 (sym (one_number c.args.last n ((c.requires n).0 was.0)), refl)) | inr pair ↦ ap Some (sym pair.0) ],
        λ h. (c.move_to.ensures n p).1 (inr (sym (one_number c.args.number n h), refl)),
      );
    }
