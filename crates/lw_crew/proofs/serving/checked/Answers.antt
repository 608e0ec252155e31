use Rattle.std.proofs.Common.{◌≡◌, ◌∙◌, length, rules, subst, sym, true, false}
use Rattle.lw_crew.specs.declared.job.CrewFault.{CrewFault}
use Rattle.lw_crew.specs.Gather.{IsFault}
use Rattle.lw_crew.specs.Refusals.{IsRefused}
use Rattle.lw_crew.specs.inner.Refusals.{AreTrueTo, IsFirstUntrue}
use Rattle.lw_crew.proofs.Refusing.{earlier, in_err, missing, stranger, whole}
use Rattle.lw_crew.proofs.serving.checked.Goals.{then-is_missing, else-is_missing}
use Rattle.lw_crew.proofs.serving.checked.Goals as goal

pub returns-in_default-clause-ok : goal.returns-in_default-clause-ok
returns-in_default-clause-ok c = search rules

pub returns-in_default-clause-err : goal.returns-in_default-clause-err
returns-in_default-clause-err c =
    let each = subst (λ ds. AreTrueTo c.args.shelves.now c.args.before.items c.args.after.now c.args.jobs.now ds (length ds)) c.deref.ensures.value
    (subst (λ ns. AreTrueTo c.args.shelves.now ns c.args.after.now c.args.jobs.now c.deref.result.now (length c.deref.result.now)) c.deref_mut.ensures.value c.in_default.ensures.each) in
    in_err c.gather.result (λ fault. IsFault (length c.args.jobs.now) c.args.dones.items fault) (λ fault. IsRefused c.args.shelves.now c.args.before.items c.args.after.now c.args.jobs.now c.args.dones.items fault)
    (λ fault is. whole c.args.shelves.now c.args.before.items c.args.after.now c.args.jobs.now c.args.dones.items fault each is) c.gather.ensures.err

pub returns-in-Ok-clause-err : goal.returns-in-Ok-clause-err
returns-in-Ok-clause-err c =
    let first = subst (λ ds. IsFirstUntrue c.args.shelves.now c.args.before.items c.args.after.now c.args.jobs.now ds c.in-Some.place) c.deref.ensures.value
    (subst (λ ns. IsFirstUntrue c.args.shelves.now ns c.args.after.now c.args.jobs.now c.deref.result.now c.in-Some.place) c.deref_mut.ensures.value c.in-Some.ensures.untrue) in
    stranger c.args.shelves.now c.args.before.items c.args.after.now c.args.jobs.now c.args.dones.items c.truncate.new.self.items c.in-Some.place c.index.result.now first c.index.ensures c.truncate.ensures.items c.in-Ok.ensures.ok.clean

pub returns-clause-err : goal.returns-clause-err
returns-clause-err c =
    let first = subst (λ ds. IsFirstUntrue c.args.shelves.now c.args.before.items c.args.after.now c.args.jobs.now ds c.in-Some.place) c.deref.ensures.value
    (subst (λ ns. IsFirstUntrue c.args.shelves.now ns c.args.after.now c.args.jobs.now c.deref.result.now c.in-Some.place) c.deref_mut.ensures.value c.in-Some.ensures.untrue) in
    elim c.if-is_missing.branch [
      | then-is_missing w ↦
          let known = c.is_missing.ensures.0 w.if-is_missing.true in
          let clean = missing (length c.args.jobs.now) c.truncate.new.self.items c.in-Err.earlier c.in-Err.ensures.err known in
          subst (λ (fault : CrewFault). IsRefused c.args.shelves.now c.args.before.items c.args.after.now c.args.jobs.now c.args.dones.items fault) (sym w.result-is)
          (stranger c.args.shelves.now c.args.before.items c.args.after.now c.args.jobs.now c.args.dones.items c.truncate.new.self.items c.in-Some.place c.index.result.now first c.index.ensures c.truncate.ensures.items clean)
      | else-is_missing w ↦
          subst (λ (fault : CrewFault). IsRefused c.args.shelves.now c.args.before.items c.args.after.now c.args.jobs.now c.args.dones.items fault) (sym w.result-is)
          (earlier c.args.shelves.now c.args.before.items c.args.after.now c.args.jobs.now c.args.dones.items c.truncate.new.self.items c.in-Some.place c.in-Err.earlier first c.truncate.ensures.items
          (λ known. let e : false ≡ true = sym w.if-is_missing.false ∙ c.is_missing.ensures.1 known in cc)
          c.in-Err.ensures.err)
    ]
