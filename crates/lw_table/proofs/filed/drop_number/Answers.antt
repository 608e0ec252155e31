use Rattle.std.proofs.Common.{refl, sym}
use Rattle.lw_table.proofs.FiledLemmas.{one_number}
use Rattle.lw_table.proofs.filed.drop_number.Goals as goal

pub returns : goal.returns
returns c = record {
  others = record { same = λ n p other. (λ h. ((c.drop_one.ensures n p).0 h).0, λ h. (c.drop_one.ensures n p).1 (h, λ pair. other pair.1)) };
  none = λ n. (
    λ h. let left = (c.drop_one.ensures n c.args.place).0 h in absurd (left.1 (sym (one_number c.args.number n ((c.requires n).0 left.0)), refl)),
    λ h. absurd cc,
  );
}
