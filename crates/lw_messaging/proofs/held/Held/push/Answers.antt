use Rattle.std.proofs.Common.{◌≡◌, ◌∷◌, ◌++◌, ◌+◌, [], ap, ◌∙◌, arith}
use Rattle.lw_messaging.proofs.HeldLemmas.{numbered-put, size-put, last-put}
use Rattle.lw_messaging.proofs.held.Held.push.Goals as goal

pub invariant_of-self-2 : goal.invariant_of-self-2
invariant_of-self-2 c =
    let all : c.push_back.new.self.items ≡ c.self.inside.exchanges.items ++ c.args.exchange ∷ [] =
    c.in-Ok.ensures.items ∙ ap (λ xs. xs ++ c.args.exchange ∷ []) c.reserve.ensures.items in
    let size = c.len.ensures ∙ c.self.inside.exchanges.ok.0 in
    let at = ap (λ n. c.self.inside.first + n) size in
    record {
      numbered = numbered-put _ _ _ _ _ _ c.args.exchange _ c.key.ensures at all c.self.invariant.numbered c.in_ok-insert.ensures.updates.0;
      size_is = size-put c.self.inside.size _ _ _ c.args.exchange c.in-Some.ensures.1 c.self.invariant.size_is all;
      last = last-put _ _ _ c.args.exchange c.self.invariant.last (λ h. c.if-number.false (ap (λ n. c.self.inside.first + n) size ∙ h)) all;
    }
