use Rattle.std.proofs.Common.{◌∙◌}
use Rattle.lw_json.proofs.TokenLemmas.{printed}
use Rattle.lw_json.proofs.values.json_text.Goals as goal

pub returns : goal.returns
returns g c = c.text_of.ensures ∙ printed (g.T.Print.json c.args.printed.now) c.new-out.ensures.tokens c.in_ok-put.ensures
