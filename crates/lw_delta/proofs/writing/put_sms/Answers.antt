use Rattle.std.proofs.Common.{ℕ, ◌≤◌, List, ◌++◌, length, IfSome, ap, ◌∙◌, subst}
use Rattle.std.proofs.lemmas.Result.{on_ok_weaker}
use Rattle.lw_delta.specs.Writable.{IsOwnText}
use Rattle.lw_delta.specs.Writing.{written_bytes, sms_bytes}
use Rattle.lw_delta.proofs.Present.{sms_same, sms_is}
use Rattle.lw_delta.proofs.writing.put_sms.Goals as goal

pub returns-clause-written : goal.returns-clause-written
returns-clause-written c = on_ok_weaker c.put_present.result (λ e. e ∙ ap (λ (x : List ℕ). c.args.out.now.items ++ x) (sms_same c.sms.result ∙ ap (λ o. written_bytes sms_bytes o) c.sms.ensures)) c.put_present.ensures.written

pub returns-clause-typed : goal.returns-clause-typed
returns-clause-typed c =
    let Q : List ℕ → Type 0 = λ text. IsOwnText text × (length text ≤ 251) in
    on_ok_weaker c.put_present.result (λ t. subst (λ o. IfSome o (λ w. IfSome w.1 Q)) c.sms.ensures (sms_is Q c.sms.result t)) c.put_present.ensures.typed
