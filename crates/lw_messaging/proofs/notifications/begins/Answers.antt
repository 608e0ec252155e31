use Rattle.std.proofs.Common.{◌≤◌, length, sym, subst}
use Rattle.lw_stamp.specs.Moment.{ms_of}
use Rattle.lw_coap.specs.Message.{MessageContent}
use Rattle.lw_messaging.specs.Blocks.{value_of}
use Rattle.lw_messaging.specs.FetchMessages.{acknowledgement_of, told_by}
use Rattle.lw_messaging.specs.Fetches.{FetchContent, IsSent, begun}
use Rattle.lw_messaging.proofs.FetchLemmas.{begun_kept, told_kept, short_payload}
use Rattle.lw_messaging.proofs.FetchTaken.{decided_to_begin}
use Rattle.lw_messaging.proofs.notifications.begins.Goals as goal

pub request-requires : goal.request-requires
request-requires c =
    subst (λ (f : FetchContent). length f.message.payload ≤ 8192) (sym c.in_ok-fetch.ensures)
    (short_payload (told_by c.args.message) (told_kept c.args.message c.requires))

pub returns : goal.returns
returns c =
    decided_to_begin (acknowledgement_of c.args.message) c.in_ok-fetch.fetch
    (begun c.args.number (ms_of c.args.now) c.args.from c.args.watch c.args.message) (value_of c.args.block.now)
    c.in_ok-acknowledgement.acknowledgement c.in_ok-request.field-0 c.in_ok-fetch.ensures
    (begun_kept c.args.number (ms_of c.args.now) c.args.from c.args.watch c.args.message c.requires)
    (subst (λ (m : MessageContent). IsSent (acknowledgement_of m) c.in_ok-acknowledgement.acknowledgement)
    c.message.view_is c.in_ok-acknowledgement.ensures)
    c.in_ok-request.ensures
