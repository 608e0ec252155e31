-- Calls that are made, one after another.
use Rattle.std.proofs.Common.{List, [], ◌∷◌, ◌++◌, refl, subst}
use Rattle.lw_call.specs.declared.call.Call.{Call}
use Rattle.lw_call.specs.declared.reply.Reply.{Reply}
use Rattle.lw_node.specs.Node.{NodeContent}
use Rattle.lw_node.specs.Steps.{IsStep}
use Rattle.lw_replica.specs.Rounds.{Makes}
use Rattle.lw_replica.specs.inner.Going.{Goes}
use Rattle.lw_replica.proofs.Going.{goes_same, goes_step, goes_then}

pub makes_more : (old mid new : NodeContent) (calls : List Call) (replies : List Reply) (call : Call) (reply : Reply) → Makes old calls replies mid → IsStep mid call reply new → Makes old (calls ++ call ∷ []) (replies ++ reply ∷ []) new
makes_more old mid new [] [] call reply made step = (new, subst (λ (n : NodeContent). IsStep n call reply new) made step, refl)
makes_more old mid new (c ∷ calls) (r ∷ replies) call reply made step = (made.0, made.1, makes_more made.0 mid new calls replies call reply made.2 step)
makes_more old mid new [] (r ∷ replies) call reply made step = absurd made
makes_more old mid new (c ∷ calls) [] call reply made step = absurd made

pub makes_goes : (old new : NodeContent) (calls : List Call) (replies : List Reply) → Makes old calls replies new → Goes old new
makes_goes old new [] [] made = goes_same old new made
makes_goes old new (call ∷ calls) (reply ∷ replies) made = goes_then old made.0 new (goes_step old call reply made.0 made.1) (makes_goes made.0 new calls replies made.2)
makes_goes old new [] (reply ∷ replies) made = absurd made
makes_goes old new (call ∷ calls) [] made = absurd made
