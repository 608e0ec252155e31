use Rattle.std.proofs.Common.{◌≡◌, [], ◌++◌, ◌∙◌, subst}
use Rattle.std.specs.Prelude.{OnErr}
use Rattle.std.specs.Option.{unwrap_or}
use Rattle.lw_json.specs.Lines.{outcome_text}
use Rattle.lw_serve.specs.Ending.{AppendsFront}
use Rattle.lw_fleet.specs.Replay.{line_text}
use Rattle.lw_fleet.proofs.replaying.write_line.Goals as goal

pub returns-clause-front : goal.returns-clause-front
returns-clause-front g c =
    let outcome = c.args.outcome.now in
    let text : c.deref.result.now ≡ line_text c.args.world.now.messages outcome =
    c.deref.ensures.value ∙ c.in_ok-put_outcome.ensures.added ∙ (λ i. c.clear.ensures.items i ++ outcome_text outcome (unwrap_or (c.sent_message.ensures i) [])) in
    subst (λ t. OnErr c.write_all.result (AppendsFront (g.W.Write.contents c.args.writer.now) (g.W.Write.contents c.write_all.new.writer) t)) text c.write_all.ensures.front
