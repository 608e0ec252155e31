-- The datagrams of a turn, sorted by what became of them.
use Rattle.std.specs.Prelude.{◌≡◌, ◌++◌, List, map, filter_map}
use Rattle.std.specs.Option.{option_to_list}
use Rattle.lw_stamp.specs.declared.moment.Moment.{Moment}
use Rattle.lw_udp.specs.declared.datagram.Datagram.{Datagram}
use Rattle.lw_messaging.specs.declared.piece.Piece.{Piece}
use Rattle.lw_messaging.specs.Kept.{BodyContent}
use Rattle.lw_server.specs.declared.blocks.Sorted.{Sorted}
use Rattle.lw_server.specs.Blocks.{Arrival, datagram_of, AreTaken, call_of, origin_of, answered_of}

abbrev pub arrival_of : Datagram → Piece → Arrival
arrival_of datagram piece = record { datagram = datagram; piece = piece }

pub record IsSorted (now : Moment) (arrivals : List Arrival) (sorted : Sorted) : Type 0 where
  pub calls : sorted.calls.items ≡ filter_map (call_of now) arrivals
  pub origins : sorted.origins.items ≡ filter_map origin_of arrivals
  pub handled : sorted.handled.items ≡ filter_map answered_of arrivals

-- one more is put behind the others
pub record Puts (now : Moment) (old : Sorted) (arrival : Arrival) (new : Sorted) : Type 0 where
  pub calls : new.calls.items ≡ old.calls.items ++ option_to_list (call_of now arrival)
  pub origins : new.origins.items ≡ old.origins.items ++ option_to_list (origin_of arrival)
  pub handled : new.handled.items ≡ old.handled.items ++ option_to_list (answered_of arrival)

pub record AreSorted (now steady : Moment) (old : List BodyContent) (datagrams : List Datagram) (sorted : Sorted) (new : List BodyContent) : Type 0 where
  pub arrivals : List Arrival
  pub are : map datagram_of arrivals ≡ datagrams
  pub taken : AreTaken steady old arrivals new
  pub sorted_are : IsSorted now arrivals sorted
