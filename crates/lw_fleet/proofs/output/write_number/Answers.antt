use Rattle.std.proofs.Common.{◌++◌, decimal, subst, ◌∙◌}
use Rattle.std.specs.Io.KnownBytes.{Appends}
use Rattle.lw_serve.specs.Ending.{AppendsFront}
use Rattle.lw_fleet.proofs.OneLemmas.{err_then, on_err}
use Rattle.lw_fleet.proofs.ReplayLemmas.{front_after, front_before}
use Rattle.lw_fleet.proofs.output.write_number.Goals as goal

pub returns-in_err-write_text-clause-front : goal.returns-in_err-write_text-clause-front
returns-in_err-write_text-clause-front g c =
    on_err c.from_residual.result _ (front_before _ _ c.args.before.now (decimal c.args.number ++ c.args.after.now) c.in_err-write_text.ensures.front)

pub returns-in_err-write_text-2-clause-front : goal.returns-in_err-write_text-2-clause-front
returns-in_err-write_text-2-clause-front g c =
    let number_is = c.as_bytes.ensures.value ∙ c.format.ensures.text in
    let in_part = front_before _ _ (decimal c.args.number) c.args.after.now
    (subst (AppendsFront (g.W.Write.contents c.write_text.new.writer) (g.W.Write.contents c.write_text-2.new.writer)) number_is c.in_err-write_text-2.ensures.front) in
    on_err c.from_residual-in_err-write_text-2.result _
    (front_after _ _ _ c.args.before.now (decimal c.args.number ++ c.args.after.now) c.in_ok-write_text.ensures.whole in_part)

pub returns-clause-front : goal.returns-clause-front
returns-clause-front g c =
    let number_is = c.as_bytes.ensures.value ∙ c.format.ensures.text in
    let number = subst (Appends (g.W.Write.contents c.write_text.new.writer) (g.W.Write.contents c.write_text-2.new.writer)) number_is c.in_ok-write_text-2.ensures.whole in
    err_then c.write_text-3.result _ _ c.write_text-3.ensures.front
    (λ in_part. front_after _ _ _ c.args.before.now (decimal c.args.number ++ c.args.after.now) c.in_ok-write_text.ensures.whole
    (front_after _ _ _ (decimal c.args.number) c.args.after.now number in_part))
