use Rattle.lw_resp.specs.Words.{IsWord, word_bytes, word_content}
use Rattle.lw_resp.proofs.Exact.{read_only, read_cut, read_malformed}
use Rattle.lw_resp.proofs.WordLemmas.{one_word}
use Rattle.lw_resp.proofs.words.first_word.Goals as goal

pub returns-clause-only : goal.returns-clause-only
returns-clause-only c = read_only IsWord word_bytes c.args.bytes.now (λ x. word_content x.0) (λ x. x.1.now) one_word c.read_word.result c.read_word.ensures

pub returns-clause-cut : goal.returns-clause-cut
returns-clause-cut c = read_cut IsWord word_bytes c.args.bytes.now (λ x. word_content x.0) (λ x. x.1.now) one_word c.read_word.result c.read_word.ensures

pub returns-clause-malformed : goal.returns-clause-malformed
returns-clause-malformed c = read_malformed IsWord word_bytes c.args.bytes.now (λ x. word_content x.0) (λ x. x.1.now) c.read_word.result c.read_word.ensures
