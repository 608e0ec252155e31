use Rattle.std.proofs.Common.{chars}
use Rattle.lw_link.specs.declared.style.Style.TheVariants.{Any}
use Rattle.lw_link.proofs.Complete.{one_list}
use Rattle.lw_link.proofs.laws.bytes_spell_one_list.Goals as goal

pub returns : goal.returns
returns c = λ bytes a b x y. one_list Any (chars bytes) a b x.1 y.1
