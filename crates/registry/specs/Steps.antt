-- What a line does at both nodes, and what is printed of it: over all that a node knows, in the words of the calls.
use Rattle.std.specs.Prelude.{◌≡◌, ◌≢◌, ◌++◌, ◌+◌, ◌%◌, ◌^◌, ℕ, List, [], ◌∷◌, Option, None, Ok}
use Rattle.lw_stamp.specs.declared.moment.Moment.{Moment}
use Rattle.lw_stamp.specs.declared.stamp.Stamp.{Stamp}
use Rattle.lw_stamp.specs.Moment.{ms_of}
use Rattle.lw_reg.specs.declared.addr.Addr.{Addr}
use Rattle.lw_reg.specs.declared.path.Path.{Path}
use Rattle.lw_reg.specs.Path.{path_numbers}
use Rattle.lw_reg.specs.Reading.{shown_in}
use Rattle.lw_reg.specs.Registration.{Registration}
use Rattle.lw_table.specs.LookUps.{ExpiredAfter}
use Rattle.lw_call.specs.Contents.{OutgoingContent, TakenContent}
use Rattle.lw_node.specs.Calls.{Takes, Observes, Sweeps}
use Rattle.lw_node.specs.Exchange.{IsDeltaSince, Merges}
use Rattle.lw_node.specs.Node.{NodeContent, fresh}
use Rattle.registry.specs.declared.event.Event.{Event}
use Rattle.registry.specs.declared.event.Event.TheVariants.{Registered, Updated, Removed, Nothing}
use Rattle.registry.specs.declared.registry.Registry.{Registry}
use Rattle.registry.specs.Events.{reply_code, IsEvent}
use Rattle.registry.specs.Line.{IsReceived}
use Rattle.registry.specs.Texts.{expired_line, taken_text, send_line, HasDevice}

-- two new nodes, of which the other has what the first knows: nothing
pub record IsNew (registry : Registry) : Type 0 where
  pub node_is : registry.node ≡ fresh 1
  pub other_is : registry.other ≡ fresh 2
  pub passed_is : registry.passed ≡ 0
  pub mid_is : registry.mid ≡ 1
  pub moment_is : ms_of registry.moment ≡ 0

-- the registration of the least endpoint that has expired ends, if there is one, and is told
pub record Expires (old : NodeContent) (now : ℕ) (text : List ℕ) (new : NodeContent) : Type 0 where
  pub found : Option (List ℕ × Stamp)
  pub is_found : ExpiredAfter (shown_in old.table.state) now None found
  pub ended : Option Stamp
  pub sweeps : Sweeps old (shown_in old.table.state) now (Ok ended) new
  pub text_is : text ≡ expired_line found

-- a datagram is taken, and the event is what it has changed
pub record IsTaken (old : NodeContent) (now : ℕ) (source : Addr) (datagram : List ℕ) (taken : TakenContent) (event : Event)
    (new : NodeContent) : Type 0 where
  pub takes : Takes old (shown_in old.table.state) now source datagram taken new
  pub happened : IsEvent new now old.table.count.change (reply_code taken.reply) event

-- the device object is observed, and the request is to be sent
pub record ObservesDevice (old : NodeContent) (now mid : ℕ) (id : Stamp) (text : List ℕ) (new : NodeContent) : Type 0 where
  pub path : Path
  pub path_is : path_numbers path ≡ 3 ∷ 0 ∷ []
  pub request : OutgoingContent
  pub observes : Observes old (shown_in old.table.state) now id path None mid (Ok request) new
  pub text_is : text ≡ send_line request

-- nothing is done, and nothing printed
abbrev pub DoesNothing : NodeContent → List ℕ → NodeContent → Type 0
DoesNothing old text new = (text ≡ []) × (new ≡ old)

-- the device object of a registration is observed, if it has one
pub record ObservesRegistered (old : NodeContent) (now mid : ℕ) (r : Registration) (text : List ℕ) (new : NodeContent) : Type 0 where
  pub with_device : HasDevice r.objects → ObservesDevice old now mid r.id text new
  pub without : ¬ HasDevice r.objects → DoesNothing old text new

-- what has registered is observed
abbrev pub IsObserved : NodeContent → ℕ → ℕ → Event → List ℕ → NodeContent → Type 0
IsObserved old now mid (Registered r) text new = ObservesRegistered old now mid r text new
IsObserved old now mid (Updated r) text new = DoesNothing old text new
IsObserved old now mid (Removed endpoint id) text new = DoesNothing old text new
IsObserved old now mid Nothing text new = DoesNothing old text new

-- the other node merges the whole delta since the change number, and the next is since the node's own
pub record PassesOn (node : NodeContent) (since : ℕ) (old : NodeContent) (next : ℕ) (new : NodeContent) : Type 0 where
  pub delta : List ℕ
  pub is_delta : IsDeltaSince node since delta
  pub count : ℕ
  pub merges : Merges old delta (Ok count) new
  pub next_is : next ≡ node.table.count.change

-- what a datagram does, from first to last
pub record Receives (old : Registry) (now : Moment) (source : Addr) (datagram text : List ℕ) (new : Registry) : Type 0 where
  pub expired : List ℕ
  pub swept : NodeContent
  pub expires : Expires old.node (ms_of now) expired swept
  pub taken : TakenContent
  pub event : Event
  pub after : NodeContent
  pub takes : IsTaken swept (ms_of now) source datagram taken event after
  pub sent : List ℕ
  pub observed : IsObserved after (ms_of now) old.mid event sent new.node
  pub passes : PassesOn new.node old.passed old.other new.passed new.other
  pub mid_is : new.mid ≡ (old.mid + 1) % 2 ^ 16
  pub moment_is : new.moment ≡ now
  pub text_is : text ≡ expired ++ (taken_text taken event ++ sent)

-- a line that spells a datagram
pub record ReceivesLine (old : Registry) (line text : List ℕ) (new : Registry) : Type 0 where
  pub now : Moment
  pub source : Addr
  pub datagram : List ℕ
  pub spelled : IsReceived now source datagram line
  pub receives : Receives old now source datagram text new

-- an empty line does nothing, and any other spells a datagram
pub record TakesLine (old : Registry) (line text : List ℕ) (new : Registry) : Type 0 where
  pub empty : line ≡ [] → (text ≡ []) × (new ≡ old)
  pub full : line ≢ [] → ReceivesLine old line text new
