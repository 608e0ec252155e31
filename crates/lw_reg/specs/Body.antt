-- What is known of a registration, its order and its join, part by part.
use Rattle.std.specs.Prelude.{ℕ, List, [], ◌∷◌, Some, None}
use Rattle.std.specs.Ordering.{nat_cmp}
use Rattle.lw_stamp.specs.StampOrder.{stamp_cmp}
use Rattle.lw_stamp.specs.TextOrder.{text_cmp}
use Rattle.lw_stamp.specs.contracts.text.TextOrd.TheImpl as text_ord
use Rattle.lw_stamp.specs.contracts.text.TextPartialEq.TheImpl as text_eq
use Rattle.lw_stamp.specs.contracts.text.TextPartialOrd.TheImpl as text_partial_ord
use Rattle.lw_stamp.specs.declared.stamp.Stamp.{Stamp}
use Rattle.lw_join.specs.Both.{both_below, both_join, both_in_place}
use Rattle.lw_join.specs.Last.{last_below, last_join}
use Rattle.lw_join.specs.Lex.{lex_below, lex_join}
use Rattle.lw_join.specs.Lww.{lww_below, lww_join}
use Rattle.lw_join.specs.Once.{once_below, once_join}
use Rattle.lw_join.specs.OrGone.{gone_below, gone_join}
use Rattle.lw_join.specs.Parts.{made}
use Rattle.lw_join.specs.declared.both.Both.{Both}
use Rattle.lw_join.specs.declared.last.Last.{Last}
use Rattle.lw_join.specs.declared.lex.Lex.{Lex}
use Rattle.lw_join.specs.declared.once.Once.{Once}
use Rattle.lw_join.specs.declared.or_gone.OrGone.{OrGone}
use Rattle.lw_join.specs.declared.parts.Parts.{Parts}
use Rattle.lw_reg.specs.declared.body.Body.{Body}
use Rattle.lw_reg.specs.declared.path.Path.{Path}
use Rattle.lw_reg.specs.contracts.path.PathOrd.TheImpl as path_ord
use Rattle.lw_reg.specs.contracts.path.PathPartialEq.TheImpl as path_eq
use Rattle.lw_reg.specs.contracts.path.PathPartialOrd.TheImpl as path_partial_ord
use Rattle.lw_reg.specs.Orders.{addr_cmp, binding_cmp, base_cmp, moment_cmp, sms_cmp}

-- the last watch of a path: its token, and the Content-Format that it accepts, if it names one; of two the
-- greater counts (RFC 7252, section 5.10.4)
abbrev pub Watching : Type 0
Watching = Lex (OrGone (Once ℕ))

-- a watch for each path
abbrev pub Watches : Type 0
Watches = Parts Path Watching (path_ord.ghosts) (path_eq.ghosts) (path_partial_ord.ghosts)

abbrev pub no_watches : Watches
no_watches = made []

abbrev pub one_watch : Path → Watching → Watches
one_watch path watch = made ((path, watch) ∷ [])

-- the last write of each name
abbrev pub AttributeMap : Type 0
AttributeMap = Parts (List ℕ) (Last (List ℕ)) (text_ord.ghosts) (text_eq.ghosts) (text_partial_ord.ghosts)

abbrev pub no_attributes : AttributeMap
no_attributes = made []

abbrev pub one_attribute : List ℕ → Stamp × List ℕ → AttributeMap
one_attribute name write = made ((name, record { write = write }) ∷ [])

-- the attributes, and the watches
abbrev pub Maps : Type 0
Maps = Both (List ℕ) (Last (List ℕ)) Path Watching (text_ord.ghosts) (text_eq.ghosts) (text_partial_ord.ghosts) (path_ord.ghosts) (path_eq.ghosts) (path_partial_ord.ghosts)

abbrev pub maps_of : AttributeMap → Watches → Maps
maps_of attributes watches = record { left = attributes; right = watches }

abbrev pub no_maps : Maps
no_maps = maps_of no_attributes no_watches

abbrev pub watching_below : Watching → Watching → Type 0
watching_below = lex_below (gone_below (once_below nat_cmp))

abbrev pub watching_join : Watching → Watching → Watching
watching_join = lex_join (gone_join (once_join nat_cmp))

pub record BodyBelow (x y : Body) : Type 0 where
  pub base : once_below base_cmp x.base y.base
  pub address : lww_below addr_cmp x.address y.address
  pub seen : lww_below moment_cmp x.seen y.seen
  pub lifetime : lww_below nat_cmp x.lifetime y.lifetime
  pub binding : lww_below binding_cmp x.binding y.binding
  pub sms : lww_below sms_cmp x.sms y.sms
  pub objects : lww_below text_cmp x.objects y.objects
  pub ended : once_below stamp_cmp x.ended y.ended
  pub maps : both_below (last_below text_cmp) watching_below x.maps y.maps

abbrev pub body_join : Body → Body → Body
body_join x y = record {
  base = once_join base_cmp x.base y.base;
  address = lww_join addr_cmp x.address y.address;
  seen = lww_join moment_cmp x.seen y.seen;
  lifetime = lww_join nat_cmp x.lifetime y.lifetime;
  binding = lww_join binding_cmp x.binding y.binding;
  sms = lww_join sms_cmp x.sms y.sms;
  objects = lww_join text_cmp x.objects y.objects;
  ended = once_join stamp_cmp x.ended y.ended;
  maps = both_join (last_join text_cmp) watching_join x.maps y.maps;
}

-- no name that is written and no path that is watched in the right is new to the left
abbrev pub body_in_place : Body → Body → Type 0
body_in_place x y = both_in_place x.maps y.maps

-- nothing is known but the maps
abbrev pub maps_alone : Maps → Body
maps_alone maps = record {
  base = record { value = None };
  address = record { write = None };
  seen = record { write = None };
  lifetime = record { write = None };
  binding = record { write = None };
  sms = record { write = None };
  objects = record { write = None };
  ended = record { value = None };
  maps = maps;
}

-- nothing is known
abbrev pub nothing : Body
nothing = maps_alone no_maps

-- nothing is known but that what was seen up to the stamp is over
abbrev pub ended_alone : Stamp → Body
ended_alone upto = record {
  base = record { value = None };
  address = record { write = None };
  seen = record { write = None };
  lifetime = record { write = None };
  binding = record { write = None };
  sms = record { write = None };
  objects = record { write = None };
  ended = record { value = Some upto };
  maps = no_maps;
}
