use Rattle.std.proofs.Common.{rules, tests}
use Rattle.std.proofs.lemmas.Iterator.{YieldsList-from_slice}
use Rattle.std.proofs.lemmas.Iterator.Search.{all_from_yields_List}
use Rattle.lw_reg.specs.PathNumbers.{is_number}
use Rattle.lw_reg.proofs.path.are_numbers.Goals as goal

pub returns : goal.returns
returns c = all_from_yields_List is_number _ _ _ c.all.ensures.ran (YieldsList-from_slice c.args.numbers.now cc) (λ x b q k. search (rules, tests))
