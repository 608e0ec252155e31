use Rattle.std.proofs.Common.{subst, inr}
use Rattle.lw_delta.specs.Part.{Found, optional}
use Rattle.lw_delta.specs.Format.{watch}
use Rattle.lw_delta.proofs.Decided.{optional_takes}
use Rattle.lw_delta.proofs.Grammar.{watch_decided}
use Rattle.lw_delta.proofs.Parts.{none_walked, walked_more, walked_end, walked_fails, raised}
use Rattle.lw_delta.proofs.reading.watches.Goals as goal

pub returns-in_err-next-clause-fault : goal.returns-in_err-next-clause-fault
returns-in_err-next-clause-fault c = raised _ c.from_residual-in_err-next.result c.from_residual-in_err-next.ensures.1 (inr (walked_fails c.loop-entries.invariant c.in_err-next.ensures.fault))

pub returns-in_default-clause-found : goal.returns-in_default-clause-found
returns-in_default-clause-found c = (c.in_ok-next.behind.now, walked_end c.loop-entries.invariant (subst (λ o. Found (optional (watch c.args.clock c.loop-entries.after)) c.loop-entries.rest.now o c.in_ok-next.behind.now) c.in_default.is c.in_ok-next.ensures.found))

pub loop-entries-smaller : goal.loop-entries-smaller
loop-entries-smaller c = optional_takes (watch_decided c.args.clock c.loop-entries.after) c.loop-entries.rest.now c.in_ok-next.next c.in_ok-next.behind.now c.in_ok-next.ensures.found

pub loop-entries-preserved : goal.loop-entries-preserved
loop-entries-preserved c = rw c.in_ok-push.ensures.items (walked_more c.loop-entries.invariant (subst (λ o. Found (optional (watch c.args.clock c.loop-entries.after)) c.loop-entries.rest.now o c.in_ok-next.behind.now) c.in-Some.is c.in_ok-next.ensures.found))

pub loop-entries-init : goal.loop-entries-init
loop-entries-init c = rw c.in_ok-entries.ensures.items (none_walked _ _ c.args.bytes.now)
