-- What is given and left where a command is carried out.
use Rattle.std.specs.Prelude.{◌≡◌, Result, Ok, Err}
use Rattle.lw_call.specs.declared.observe_fault.ObserveFault.{ObserveFault}
use Rattle.lw_call.specs.declared.observe_fault.ObserveFault.TheVariants.{NoMemory}
use Rattle.lw_call.specs.Contents.{OutgoingContent}
use Rattle.lw_node.specs.inner.Calls.{CommandContent}
use Rattle.lw_node.specs.Node.{NodeContent, Issued}

-- What was decided is sent, and its operation issued, or there is no memory for that; what was refused stays so.
abbrev pub IsDone : NodeContent → Result CommandContent ObserveFault → Result OutgoingContent ObserveFault → NodeContent → Type 0
IsDone old (Ok command) (Ok outgoing) new = (outgoing ≡ command.outgoing) × Issued old command.operation new
IsDone old (Ok command) (Err fault) new = (fault ≡ NoMemory) × (new ≡ old)
IsDone old (Err refused) (Ok outgoing) new = ⊥
IsDone old (Err refused) (Err fault) new = (fault ≡ refused) × (new ≡ old)
