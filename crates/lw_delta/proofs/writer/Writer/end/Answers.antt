use Rattle.std.proofs.Common.{ℕ, List, [], ◌∷◌, ◌++◌, ◌∙◌, ap, subst}
use Rattle.lw_delta.specs.Writable.{Begun, IsBegun}
use Rattle.lw_delta.proofs.BegunLemmas.{end_spelled}
use Rattle.lw_delta.proofs.writer.Writer.end.Goals as goal

pub returns-clause-written : goal.returns-clause-written
returns-clause-written c = λ slots h. c.in_ok-push.ensures.items ∙ (ap (λ (w : Begun). w.bytes ++ 0 ∷ []) c.self.view_is ∙ ap (λ (x : List ℕ). x ++ 0 ∷ []) h.bytes)

pub returns-clause-spelled : goal.returns-clause-spelled
returns-clause-spelled c = λ slots h. end_spelled c.args.self slots c.push.new.self.items (c.in_ok-push.ensures.items ∙ ap (λ (w : Begun). w.bytes ++ 0 ∷ []) c.self.view_is) h

pub returns-clause-whole : goal.returns-clause-whole
returns-clause-whole c =
    let slots = c.self.invariant.0 in
    (slots, end_spelled c.args.self slots c.push.new.self.items (c.in_ok-push.ensures.items ∙ ap (λ (w : Begun). w.bytes ++ 0 ∷ []) c.self.view_is) (subst (λ (w : Begun). IsBegun w slots) c.self.view_is c.self.invariant.1))
