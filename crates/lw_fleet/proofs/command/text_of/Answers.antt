use Rattle.std.proofs.Common.{◌≡◌, Option, Some, None, option_map, Bor, refl, ap, ◌∙◌}
use Rattle.std.specs.Prelude.{unwrap_or}
use Rattle.clap.specs.Words.{Text}
use Rattle.lw_fleet.proofs.command.text_of.Goals as goal

now_of : (o : Option (Bor Text)) (d : Bor Text) → (unwrap_or o d).now ≡ unwrap_or (option_map (λ s. s.now) o) d.now
now_of None d = refl
now_of (Some s) d = refl

pub returns : goal.returns
returns c =
    ap (λ (s : Bor Text). s.now) c.unwrap_or.ensures ∙ now_of c.given_text.result c.args.default ∙ ap (λ (o : Option Text). unwrap_or o c.args.default.now) c.given_text.ensures
