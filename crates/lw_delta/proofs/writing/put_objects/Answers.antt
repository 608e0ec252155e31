use Rattle.std.proofs.Common.{ℕ, List, ◌++◌, IfSome, ap, ◌∙◌, subst}
use Rattle.std.proofs.lemmas.Result.{on_ok_weaker}
use Rattle.lw_delta.specs.Writable.{IsOwnObjects}
use Rattle.lw_delta.specs.Writing.{written_bytes, objects_bytes}
use Rattle.lw_delta.proofs.Present.{objects_same, objects_are}
use Rattle.lw_delta.proofs.writing.put_objects.Goals as goal

pub returns-clause-written : goal.returns-clause-written
returns-clause-written c = on_ok_weaker c.put_present.result (λ e. e ∙ ap (λ (x : List ℕ). c.args.out.now.items ++ x) (objects_same c.objects.result ∙ ap (λ o. written_bytes objects_bytes o) c.objects.ensures)) c.put_present.ensures.written

pub returns-clause-typed : goal.returns-clause-typed
returns-clause-typed c = on_ok_weaker c.put_present.result (λ t. subst (λ o. IfSome o (λ w. IsOwnObjects w.1)) c.objects.ensures (objects_are IsOwnObjects c.objects.result t)) c.put_present.ensures.typed
