use Rattle.std.proofs.Common.{refl}
use Rattle.lw_replica.proofs.Owning.{claims_write, claimed_write, reads_write, reads_write_more, if_ok}
use Rattle.lw_replica.proofs.RoundLemmas.{idle_round, claimed_round}
use Rattle.lw_replica.specs.Parts.{content_of}
use Rattle.lw_replica.proofs.Sequences.{used_numbers_read, used_numbers_then}
use Rattle.lw_replica.proofs.Refusing.{if_err, refuses_then}
use Rattle.lw_replica.proofs.rounds.round.Goals as goal

pub returns-in_err-claim-clause-own : goal.returns-in_err-claim-clause-own
returns-in_err-claim-clause-own g c = claims_write _ _ c.args.state.now c.claim.new.state c.in_err-claim.ensures.own c.requires.number c.in_err-claim.ensures.same

pub returns-then-is_claiming-clause-round : goal.returns-then-is_claiming-clause-round
returns-then-is_claiming-clause-round g c =
    if_ok _ _ c.finish.result c.finish.ensures.finished (λ replies f.
    claimed_round _ _ _ c.args.state.now c.claim.new.state f.mid c.finish.new.state c.args.calls.now replies.items
    (c.in_ok-claim.ensures.claimed c.requires) c.in_ok-claim.ensures.start.0 c.in_ok-claim.ensures.start.1 f.made f.written (c.if-is_claiming.ensures.0 refl))

pub returns-then-is_claiming-clause-own : goal.returns-then-is_claiming-clause-own
returns-then-is_claiming-clause-own g c =
    claimed_write _ _ _ c.args.state.now c.claim.new.state c.finish.new.state (c.in_ok-claim.ensures.claimed c.requires) c.in_ok-claim.ensures.start.0 c.in_ok-claim.ensures.start.1 c.finish.ensures.same
    c.finish.ensures.own

pub returns-in_err-catch_up-clause-own : goal.returns-in_err-catch_up-clause-own
returns-in_err-catch_up-clause-own g c = reads_write _ _ c.args.state.now c.catch_up.new.state c.catch_up.ensures.same c.catch_up.ensures.asked

pub returns-clause-round : goal.returns-clause-round
returns-clause-round g c =
    let read = c.in_ok-catch_up.ensures.read in
    if_ok _ _ c.finish-2.result c.finish-2.ensures.finished (λ replies f.
    idle_round _ _ _ c.args.state.now c.catch_up.new.state f.mid c.finish-2.new.state c.args.calls.now replies.items read.0 c.in_ok-catch_up.field-0 read.1 read.2 read.3 read.4 read.5
    c.catch_up.ensures.same c.requires (c.catch_up.ensures.replica c.requires) f.made f.written (λ h. let bad = c.if-is_claiming.ensures.1 h in cc))

pub returns-clause-own : goal.returns-clause-own
returns-clause-own g c =
    let read = c.in_ok-catch_up.ensures.read in
    reads_write_more _ _ _ c.args.state.now c.catch_up.new.state c.finish-2.new.state read.0 read.1 read.2 read.3.merged read.5 c.catch_up.ensures.same c.finish-2.ensures.same c.finish-2.ensures.own

pub returns-then-is_claiming-clause-sequence : goal.returns-then-is_claiming-clause-sequence
returns-then-is_claiming-clause-sequence g c = used_numbers_then (content_of _ c.args.state.now) (content_of _ c.claim.new.state) (content_of _ c.finish.new.state) c.claim.ensures.sequence c.finish.ensures.sequence

pub returns-in_err-catch_up-clause-sequence : goal.returns-in_err-catch_up-clause-sequence
returns-in_err-catch_up-clause-sequence g c = used_numbers_read (content_of _ c.args.state.now) (content_of _ c.catch_up.new.state) c.catch_up.ensures.asked.0 c.catch_up.ensures.asked.1 c.catch_up.ensures.asked.2 c.catch_up.ensures.sequence

pub returns-clause-sequence : goal.returns-clause-sequence
returns-clause-sequence g c = used_numbers_then (content_of _ c.args.state.now) (content_of _ c.catch_up.new.state) (content_of _ c.finish-2.new.state) (used_numbers_read (content_of _ c.args.state.now) (content_of _ c.catch_up.new.state) c.catch_up.ensures.asked.0 c.catch_up.ensures.asked.1 c.catch_up.ensures.asked.2 c.catch_up.ensures.sequence) c.finish-2.ensures.sequence

pub returns-then-is_claiming-clause-refused : goal.returns-then-is_claiming-clause-refused
returns-then-is_claiming-clause-refused g c =
    if_err _ _ c.finish.result c.finish.ensures.refused (λ fault why.
    refuses_then (content_of _ c.args.state.now) (content_of _ c.claim.new.state) (content_of _ c.finish.new.state) _ fault (c.in_ok-claim.ensures.claimed c.requires).asked why)

pub returns-clause-refused : goal.returns-clause-refused
returns-clause-refused g c =
    if_err _ _ c.finish-2.result c.finish-2.ensures.refused (λ fault why.
    refuses_then (content_of _ c.args.state.now) (content_of _ c.catch_up.new.state) (content_of _ c.finish-2.new.state) c.catch_up.ensures.asked.0 fault c.catch_up.ensures.asked.1 why)
