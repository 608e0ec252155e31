-- What a server of one's own does with a new node, and with that of another server.
use Rattle.std.specs.Prelude.{◌≡◌, ℕ, List, Option, None, Ok}
use Rattle.lw_stamp.specs.declared.stamp.Stamp.{Stamp}
use Rattle.lw_reg.specs.declared.addr.Addr.{Addr}
use Rattle.lw_reg.specs.declared.path.Path.{Path}
use Rattle.lw_reg.specs.Reading.{shown_in}
use Rattle.lw_call.specs.Contents.{OutgoingContent, TakenContent}
use Rattle.lw_node.specs.Calls.{Takes, Observes, Sweeps}
use Rattle.lw_node.specs.Exchange.{IsDeltaSince, Merges}
use Rattle.lw_node.specs.Node.{NodeContent, fresh}

-- A new node takes a datagram, observes a path, and ends a registration that has expired, if there is one. The peer merges
-- the whole delta of what has changed since a change number. The next delta begins at the node's own.
pub record AreTenLines (now : ℕ) (source : Addr) (datagram : List ℕ) (id : Stamp) (path : Path) (mid since : ℕ)
    (old : NodeContent) (next : ℕ) (new : NodeContent) : Type 0 where
  pub taken : TakenContent
  pub after_take : NodeContent
  pub takes : Takes (fresh 7) (shown_in (fresh 7).table.state) now source datagram taken after_take
  pub request : OutgoingContent
  pub after_observe : NodeContent
  pub observes : Observes after_take (shown_in after_take.table.state) now id path None mid (Ok request) after_observe
  pub ended : Option Stamp
  pub node : NodeContent
  pub sweeps : Sweeps after_observe (shown_in after_observe.table.state) now (Ok ended) node
  pub delta : List ℕ
  pub is_delta : IsDeltaSince node since delta
  pub count : ℕ
  pub merges : Merges old delta (Ok count) new
  pub next_is : next ≡ node.table.count.change
