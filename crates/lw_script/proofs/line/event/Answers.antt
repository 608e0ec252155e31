use Rattle.std.proofs.Common.{rules}
use Rattle.lw_script.proofs.LineLemmas.{option_reads}
use Rattle.lw_script.proofs.line.event.Goals as goal

pub returns-in-Take : goal.returns-in-Take
returns-in-Take c = rw c.in-Take.is c.take.ensures

pub returns-in-Endpoint : goal.returns-in-Endpoint
returns-in-Endpoint c = rw c.in-Endpoint.is c.endpoint.ensures

pub returns-in-Observe : goal.returns-in-Observe
returns-in-Observe c =
    rw c.in-Observe.is (option_reads _ _ _ c.observe.ensures.found c.observe.ensures.none (search rules))

pub returns-in-Cancel : goal.returns-in-Cancel
returns-in-Cancel c =
    rw c.in-Cancel.is (option_reads _ _ _ c.cancel.ensures.found c.cancel.ensures.none (search rules))

pub returns-in-Sweep : goal.returns-in-Sweep
returns-in-Sweep c =
    rw c.in-Sweep.is (option_reads _ _ _ c.sweep.ensures.found c.sweep.ensures.none (search rules))

pub returns-in-Send : goal.returns-in-Send
returns-in-Send c =
    rw c.in-Send.is (option_reads _ _ _ c.send.ensures.found c.send.ensures.none (search rules))

pub returns-in-Deliver : goal.returns-in-Deliver
returns-in-Deliver c =
    rw c.in-Deliver.is (option_reads _ _ _ c.deliver.ensures.found c.deliver.ensures.none (search rules))

pub returns-in-Id : goal.returns-in-Id
returns-in-Id c =
    rw c.in-Id.is (option_reads _ _ _ c.id.ensures.found c.id.ensures.none (search rules))

pub returns-in-Address : goal.returns-in-Address
returns-in-Address c =
    rw c.in-Address.is (option_reads _ _ _ c.address.ensures.found c.address.ensures.none (search rules))

pub returns-in-Token : goal.returns-in-Token
returns-in-Token c =
    rw c.in-Token.is (option_reads _ _ _ c.token.ensures.found c.token.ensures.none (search rules))

pub returns-in-Change : goal.returns-in-Change
returns-in-Change c =
    rw c.in-Change.is (option_reads _ _ _ c.change.ensures.found c.change.ensures.none (search rules))
