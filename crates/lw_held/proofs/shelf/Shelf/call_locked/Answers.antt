use Rattle.std.proofs.Common.{◌≡◌, length}
use Rattle.lw_held.specs.Transcript.{with_part}
use Rattle.lw_held.proofs.Longer.{answered}
use Rattle.lw_held.proofs.shelf.Shelf.call_locked.Goals as goal

pub returns-clause-answered : goal.returns-clause-answered
returns-clause-answered g c =
    answered c.step.result c.args.pass.now.number (length c.args.pass.now.parts) c.args.call.now c.deref_mut-held.result.now c.step.new.held (λ place entry. c.step.new.self ≡ with_part c.args.pass.now c.args.self.now.number place entry)
    c.legal.ensures c.step.ensures.entered
