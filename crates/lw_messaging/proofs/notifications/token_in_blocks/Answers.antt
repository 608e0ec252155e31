use Rattle.std.proofs.Common.{◌∙◌, sym, subst}
use Rattle.std.specs.Prelude.{Option}
use Rattle.lw_coap.specs.Message.{MessageContent}
use Rattle.lw_messaging.specs.inner.Reading.{Spells}
use Rattle.lw_messaging.proofs.FetchTaken.{token_unread, no_token, token_read}
use Rattle.lw_messaging.proofs.notifications.token_in_blocks.Goals as goal

pub returns-then-not-may_respond : goal.returns-then-not-may_respond
returns-then-not-may_respond c = token_unread c.args.bytes.now (sym c.may_respond.ensures ∙ c.if-not-may_respond.true)

pub returns-in-None : goal.returns-in-None
returns-in-None c =
    no_token c.args.bytes.now
    (subst (λ (o : Option MessageContent). Spells c.args.bytes.now o) c.in-None.is c.in_ok-read.ensures)

pub returns-in-Some : goal.returns-in-Some
returns-in-Some c =
    token_read c.args.bytes.now c.in-Some.message c.token_of.result
    (subst (λ (o : Option MessageContent). Spells c.args.bytes.now o) c.in-Some.is c.in_ok-read.ensures)
    c.token_of.ensures
