use Rattle.std.proofs.Common.{◌∙◌, sym, subst}
use Rattle.std.specs.Prelude.{Option}
use Rattle.lw_stamp.specs.Moment.{ms_of}
use Rattle.lw_coap.specs.Message.{MessageContent}
use Rattle.lw_coap.proofs.Written.{spelled_fits}
use Rattle.lw_messaging.specs.inner.Reading.{Spells}
use Rattle.lw_messaging.proofs.FetchTaken.{passed_unread, passed_by, taken_so}
use Rattle.lw_messaging.proofs.fetches.Fetches.take.Goals as goal

pub returns-then-not-may_respond-clause-taken : goal.returns-then-not-may_respond-clause-taken
returns-then-not-may_respond-clause-taken c =
    passed_unread c.args.self.now (ms_of c.args.now) c.args.from c.args.watch c.args.bytes.now
    (sym c.may_respond.ensures ∙ c.if-not-may_respond.true)

pub returns-in-None-clause-taken : goal.returns-in-None-clause-taken
returns-in-None-clause-taken c =
    passed_by c.args.self.now (ms_of c.args.now) c.args.from c.args.watch c.args.bytes.now
    (subst (λ (o : Option MessageContent). Spells c.args.bytes.now o) c.in-None.is c.in_ok-read.ensures)

pub take_message-requires : goal.take_message-requires
take_message-requires c =
    spelled_fits c.args.bytes.now c.in-Some.message
    (subst (λ (o : Option MessageContent). Spells c.args.bytes.now o) c.in-Some.is c.in_ok-read.ensures)

pub returns-in-Some-clause-taken : goal.returns-in-Some-clause-taken
returns-in-Some-clause-taken c =
    taken_so c.args.self.now c.take_message.new.self (ms_of c.args.now) c.args.from c.args.watch c.args.bytes.now
    c.in-Some.message c.take_message.result
    (subst (λ (o : Option MessageContent). Spells c.args.bytes.now o) c.in-Some.is c.in_ok-read.ensures)
    c.take_message.ensures.done
