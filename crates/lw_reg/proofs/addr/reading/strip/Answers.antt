use Rattle.std.proofs.lemmas.Str.Pattern.{strip_prefix_char}
use Rattle.lw_reg.proofs.Addresses.Cuts.{strip_prefix_is}
use Rattle.lw_reg.proofs.addr.reading.strip.Goals as goal

pub returns : goal.returns
returns c = strip_prefix_is _ _ _ (strip_prefix_char _ _ _ c.strip_prefix.ensures.cases c.requires)
