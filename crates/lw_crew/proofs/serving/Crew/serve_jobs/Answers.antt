use Rattle.std.proofs.Common.{◌≡◌, ◌∙◌, List, [], ap, subst, sym}
use Rattle.std.specs.Prelude.{IfErr}
use Rattle.lw_held.specs.Transcript.{Transcript}
use Rattle.lw_crew.specs.declared.job.Done.{Done}
use Rattle.lw_crew.specs.Jobs.{lengths}
use Rattle.lw_crew.specs.Refusals.{IsRefused}
use Rattle.lw_crew.proofs.Refusing.{in_err}
use Rattle.lw_crew.proofs.serving.Crew.serve_jobs.Goals.{in-Ok-told, in-Err}
use Rattle.lw_crew.proofs.serving.Crew.serve_jobs.Goals as goal

pub returns-clause-refused : goal.returns-clause-refused
returns-clause-refused g c = elim c.match-told.branch [
  | in-Ok-told w ↦
      let dones = w.in-Ok-told.dones.items in
      let counts : c.in-Ok.before.items ≡ lengths c.args.passes.items = c.in-Ok.ensures ∙ ap lengths c.deref.ensures.value in
      subst (λ r. IfErr r (λ fault. (told : List Done) × IsRefused c.args.shelves.now (lengths c.args.passes.items) c.run-passes.result.0.items c.args.jobs.now told fault)) (sym w.result-is)
      (in_err w.checked-result.result (λ fault. IsRefused c.args.shelves.now c.in-Ok.before.items w.deref-in-Ok-told.result.now c.args.jobs.now dones fault)
      (λ fault. (told : List Done) × IsRefused c.args.shelves.now (lengths c.args.passes.items) c.run-passes.result.0.items c.args.jobs.now told fault)
      (λ fault is. (
        dones,
        subst (λ ns. IsRefused c.args.shelves.now ns c.run-passes.result.0.items c.args.jobs.now dones fault) counts
            (subst (λ (after : List Transcript). IsRefused c.args.shelves.now c.in-Ok.before.items after c.args.jobs.now dones fault) w.deref-in-Ok-told.ensures.value is),
      ))
      w.checked-result.ensures.err)
  | in-Err w ↦ subst (λ r. IfErr r (λ fault. (told : List Done) × IsRefused c.args.shelves.now (lengths c.args.passes.items) c.run-passes.result.0.items c.args.jobs.now told fault)) (sym w.result-is) ([], tt)
]
