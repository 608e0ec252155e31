use Rattle.std.proofs.Common.{arith}
use Rattle.lw_resp.specs.Words.{IsWord, word_bytes}
use Rattle.lw_resp.specs.Words.WordContent.{Null}
use Rattle.lw_resp.proofs.Composed.{none_come}
use Rattle.lw_resp.proofs.words.read_word.Goals as goal

pub returns-in-None : goal.returns-in-None
returns-in-None c = none_come IsWord word_bytes c.args.bytes.now Null tt (omega arith) c.in-None.ensures.cases
