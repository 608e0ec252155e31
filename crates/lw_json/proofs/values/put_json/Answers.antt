use Rattle.std.proofs.Common.{◌∙◌, ap}
use Rattle.lw_json.proofs.TokenLemmas.{put_printed}
use Rattle.lw_json.proofs.values.put_json.Goals as goal

pub returns : goal.returns
returns g c =
    put_printed c.put-put.result (g.T.Print.json c.args.printed.now) _ _ c.new-out.ensures.tokens (c.new-out.ensures.before ∙ ap (λ v. v.items) c.replace.ensures.value)
    c.put-put.ensures c.into_inner.ensures.items
