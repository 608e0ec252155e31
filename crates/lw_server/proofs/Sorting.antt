-- The datagrams of a turn, sorted one after another by what became of them.
use Rattle.std.specs.Prelude.{◌≡◌, Option, None, Some, Result, Ok, Err, OnErr, List, [], ◌∷◌, ◌++◌, map, filter_map, refl}
use Rattle.std.proofs.Common.{sym, ap, ◌∙◌, append_assoc, subst}
use Rattle.std.proofs.lemmas.List.{append-nil, map-append}
use Rattle.std.proofs.lemmas.List.Elements.{filter_map-append}
use Rattle.std.specs.Option.{option_to_list}
use Rattle.lw_stamp.specs.declared.moment.Moment.{Moment}
use Rattle.lw_stamp.specs.Moment.{ms_of}
use Rattle.lw_udp.specs.declared.datagram.Datagram.{Datagram}
use Rattle.lw_messaging.specs.declared.piece.Piece.{Piece}
use Rattle.lw_messaging.specs.Bodies.{IsTaken}
use Rattle.lw_messaging.specs.Kept.{BodyContent}
use Rattle.lw_server.specs.declared.blocks.Sorted.{Sorted}
use Rattle.lw_server.specs.Blocks.{Arrival, datagram_of, AreTaken, GoOn, call_of, origin_of, answered_of}
use Rattle.lw_server.specs.inner.Sorting.{arrival_of, IsSorted, Puts, AreSorted}

filter_map-one : {X Y : Type 0} (f : X → Option Y) (x : X) (o : Option Y) → f x ≡ o → filter_map f (x ∷ []) ≡ option_to_list o
filter_map-one f x None is = simp is
filter_map-one f x (Some y) is = simp is

pub filter_map-snoc : {X Y : Type 0} (f : X → Option Y) (xs : List X) (x : X) → filter_map f (xs ++ x ∷ []) ≡ filter_map f xs ++ option_to_list (f x)
filter_map-snoc f xs x = filter_map-append f xs (x ∷ []) ∙ ap (λ more. filter_map f xs ++ more) (filter_map-one f x (f x) refl)

-- one more datagram is taken behind the others
pub taken_behind : (now : Moment) (old mid new : List BodyContent) (front : List Arrival) (a : Arrival) → AreTaken now old front mid
    → IsTaken mid (ms_of now) a.datagram.from a.datagram.bytes a.piece new → AreTaken now old (front ++ a ∷ []) new
taken_behind now old mid new [] a same is =
    (new, (subst (λ (b : List BodyContent). IsTaken b (ms_of now) a.datagram.from a.datagram.bytes a.piece new) same is, refl))
taken_behind now old mid new (b ∷ front) a way is = (way.0, (way.1.0, taken_behind now way.0 mid new front a way.1.1 is))

sorted_behind : (now : Moment) (front : List Arrival) (a : Arrival) (old new : Sorted) → IsSorted now front old → Puts now old a new
    → IsSorted now (front ++ a ∷ []) new
sorted_behind now front a old new are puts = record {
  calls = puts.calls ∙ ap (λ c. c ++ option_to_list (call_of now a)) are.calls ∙ sym (filter_map-snoc (call_of now) front a);
  origins = puts.origins ∙ ap (λ c. c ++ option_to_list (origin_of a)) are.origins ∙ sym (filter_map-snoc origin_of front a);
  handled = puts.handled ∙ ap (λ c. c ++ option_to_list (answered_of a)) are.handled ∙ sym (filter_map-snoc answered_of front a);
}

-- some of the datagrams are sorted, and the rest is to be
pub record IsGoingOn (now steady : Moment) (old : List BodyContent) (all : List Datagram) (bodies : List BodyContent) (sorted : Sorted) (rest : List Datagram) : Type 0 where
  pub front : List Arrival
  pub are : all ≡ map datagram_of front ++ rest
  pub taken : AreTaken steady old front bodies
  pub sorted_are : IsSorted now front sorted

pub sorting_begins : (now steady : Moment) (old : List BodyContent) (all rest : List Datagram) (sorted : Sorted) → sorted.calls.items ≡ []
    → sorted.origins.items ≡ [] → sorted.handled.items ≡ [] → rest ≡ all → IsGoingOn now steady old all old sorted rest
sorting_begins now steady old all rest sorted calls origins handled is = record {
  front = [];
  are = sym is;
  taken = refl;
  sorted_are = record { calls = calls; origins = origins; handled = handled };
}

-- what the datagrams are, with one more in front of the rest
more_are : (front : List Arrival) (a : Arrival) (all rest left : List Datagram) → all ≡ map datagram_of front ++ rest
    → rest ≡ datagram_of a ∷ left → all ≡ map datagram_of (front ++ a ∷ []) ++ left
more_are front a all rest left are is =
    are ∙ ap (λ r. map datagram_of front ++ r) is ∙ sym (append_assoc (map datagram_of front) (datagram_of a ∷ []) left)
    ∙ ap (λ m. m ++ left) (sym (map-append datagram_of front (a ∷ [])))

pub sorting_goes_on : (now steady : Moment) (old mid new : List BodyContent) (all rest left : List Datagram) (sorted more : Sorted) (d : Datagram) (piece : Piece)
    → rest ≡ d ∷ left → IsTaken mid (ms_of steady) d.from d.bytes piece new → Puts now sorted (arrival_of d piece) more
    → IsGoingOn now steady old all mid sorted rest → IsGoingOn now steady old all new more left
sorting_goes_on now steady old mid new all rest left sorted more d piece is taken puts way = record {
  front = way.front ++ arrival_of d piece ∷ [];
  are = more_are way.front (arrival_of d piece) all rest left way.are is;
  taken = taken_behind steady old mid new way.front (arrival_of d piece) way.taken taken;
  sorted_are = sorted_behind now way.front (arrival_of d piece) sorted more way.sorted_are puts;
}

-- there is no memory for one more: the bodies are as they were, or went on
pub sorting_fails : (now steady : Moment) (old mid new : List BodyContent) (all rest : List Datagram) (sorted : Sorted) → new ≡ mid
    → IsGoingOn now steady old all mid sorted rest → GoOn steady old all new
sorting_fails now steady old mid new all rest sorted same way = record {
  front = way.front;
  rest = rest;
  are = way.are;
  taken = subst (λ (b : List BodyContent). AreTaken steady old way.front b) (sym same) way.taken;
}

pub sorting_fails_behind : (now steady : Moment) (old mid new : List BodyContent) (all rest left : List Datagram) (sorted : Sorted) (d : Datagram) (piece : Piece)
    → rest ≡ d ∷ left → IsTaken mid (ms_of steady) d.from d.bytes piece new → IsGoingOn now steady old all mid sorted rest → GoOn steady old all new
sorting_fails_behind now steady old mid new all rest left sorted d piece is taken way = record {
  front = way.front ++ arrival_of d piece ∷ [];
  rest = left;
  are = more_are way.front (arrival_of d piece) all rest left way.are is;
  taken = taken_behind steady old mid new way.front (arrival_of d piece) way.taken taken;
}

pub sorting_ends : (now steady : Moment) (old new : List BodyContent) (all rest : List Datagram) (sorted : Sorted) → rest ≡ []
    → IsGoingOn now steady old all new sorted rest → AreSorted now steady old all sorted new
sorting_ends now steady old new all rest sorted none way = record {
  arrivals = way.front;
  are = sym (append-nil (map datagram_of way.front)) ∙ ap (λ r. map datagram_of way.front ++ r) (sym none) ∙ sym way.are;
  taken = way.taken;
  sorted_are = way.sorted_are;
}

-- what holds at all holds of a result that is an error
pub on_err : {T E P : Type 0} (r : Result T E) → P → OnErr r P
on_err (Ok x) is = tt
on_err (Err e) is = is
