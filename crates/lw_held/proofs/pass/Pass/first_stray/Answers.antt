use Rattle.std.proofs.Common.{◌∙◌, ap, subst, length, List}
use Rattle.lw_held.specs.declared.entry.Part.{Part}
use Rattle.lw_held.specs.Transcript.{Transcript}
use Rattle.lw_held.specs.Agree.{IsFirstBreak}
use Rattle.lw_held.specs.inner.Looks.{FitBelow}
use Rattle.lw_held.proofs.pass.Pass.first_stray.Goals as goal

pub returns : goal.returns
returns c = subst (λ (ts : List Part). IsFirstBreak (FitBelow c.args.node c.args.volumes.now c.args.held.now ts (length ts)) c.first_stray.result)
    (c.as_slice.ensures.value ∙ ap (λ (x : Transcript). x.parts) c.self.view_is) c.first_stray.ensures
