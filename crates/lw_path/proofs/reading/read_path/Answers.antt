use Rattle.std.proofs.Common.{None, arith}
use Rattle.std.proofs.lemmas.Str.Pattern.{strip_prefix_char}
use Rattle.lw_path.proofs.PathLemmas.{path_none}
use Rattle.lw_path.proofs.reading.read_path.Goals as goal

pub returns-in_err-strip_prefix-clause-none : goal.returns-in_err-strip_prefix-clause-none
returns-in_err-strip_prefix-clause-none c =
    path_none _ _ (strip_prefix_char 47 c.args.text.now None c.in_err-strip_prefix.ensures.cases (omega arith))
