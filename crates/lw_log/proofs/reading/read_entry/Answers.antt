use Rattle.lw_log.specs.declared.entry_fault.EntryFault.TheVariants.{Newer}
use Rattle.lw_log.specs.Entries.{content_of}
use Rattle.lw_log.proofs.Entries.{only_entry, fault_is_first}
use Rattle.lw_log.proofs.reading.read_entry.Goals as goal

pub returns-clause-only : goal.returns-clause-only
returns-clause-only c = only_entry content_of c.args.bytes.now c.read.result c.read.ensures.found c.read.ensures.fault

pub returns-clause-faults : goal.returns-clause-faults
returns-clause-faults c = λ fault. fault_is_first content_of c.args.bytes.now c.read.result c.read.ensures.found c.read.ensures.fault fault

pub returns-clause-newer : goal.returns-clause-newer
returns-clause-newer c = fault_is_first content_of c.args.bytes.now c.read.result c.read.ensures.found c.read.ensures.fault Newer
