use Rattle.std.proofs.Common.{List, subst}
use Rattle.std.specs.Prelude.{Option, IfOk}
use Rattle.lw_stamp.specs.Moment.{ms_of}
use Rattle.lw_coap.specs.Message.{MessageContent}
use Rattle.lw_coap.specs.Grammar.{IsSpelling}
use Rattle.lw_coap.proofs.Written.{spelled_fits}
use Rattle.lw_messaging.specs.inner.Reading.{Spells}
use Rattle.lw_messaging.proofs.TakenLemmas.{taken_nothing, taken_result, bounded_result}
use Rattle.lw_messaging.proofs.BodyLemmas.{outcome_bounded}
use Rattle.lw_messaging.specs.Bodies.{outcome, IsTaken}
use Rattle.lw_messaging.specs.Kept.{BodyContent}
use Rattle.lw_messaging.proofs.bodies.Bodies.take.Goals as goal

pub returns-in-None-clause-taken : goal.returns-in-None-clause-taken
returns-in-None-clause-taken c =
    taken_nothing c.args.self.now (ms_of c.args.now) c.args.from c.args.bytes.now
    (subst (λ (o : Option MessageContent). Spells c.args.bytes.now o) c.in-None.is c.in_ok-read_lent.ensures)

pub take_message-requires-clause-fits : goal.take_message-requires-clause-fits
take_message-requires-clause-fits c =
    spelled_fits c.args.bytes.now c.in-Some.message
    (subst (λ (o : Option MessageContent). Spells c.args.bytes.now o) c.in-Some.is c.in_ok-read_lent.ensures)

pub invariant_of-self : goal.invariant_of-self
invariant_of-self c =
    bounded_result c.self.inside.bodies.items c.take_message.new.bodies.items (ms_of c.args.now) c.args.from
    (outcome c.self.inside.bodies.items (ms_of c.args.now) c.args.from c.in-Some.message) c.take_message.result
    c.take_message.ensures.done c.take_message.ensures.memory c.self.invariant
    (outcome_bounded c.self.inside.bodies.items (ms_of c.args.now) c.args.from c.in-Some.message c.self.invariant)

pub returns-in-Some-clause-taken : goal.returns-in-Some-clause-taken
returns-in-Some-clause-taken c =
    let spelled : IsSpelling c.args.bytes.now c.in-Some.message =
    subst (λ (o : Option MessageContent). Spells c.args.bytes.now o) c.in-Some.is c.in_ok-read_lent.ensures in
    subst (λ (l : List BodyContent). IfOk c.take_message.result
    (λ piece. IsTaken l (ms_of c.args.now) c.args.from c.args.bytes.now piece c.take_message.new.bodies.items))
    c.self.view_is
    (taken_result c.self.inside.bodies.items c.take_message.new.bodies.items (ms_of c.args.now) c.args.from
    c.args.bytes.now c.in-Some.message
    c.take_message.result spelled c.take_message.ensures.done)

pub returns-in-Some-clause-bounded : goal.returns-in-Some-clause-bounded
returns-in-Some-clause-bounded c =
    bounded_result c.self.inside.bodies.items c.take_message.new.bodies.items (ms_of c.args.now) c.args.from
    (outcome c.self.inside.bodies.items (ms_of c.args.now) c.args.from c.in-Some.message) c.take_message.result
    c.take_message.ensures.done c.take_message.ensures.memory c.self.invariant
    (outcome_bounded c.self.inside.bodies.items (ms_of c.args.now) c.args.from c.in-Some.message c.self.invariant)
