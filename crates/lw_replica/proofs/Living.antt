-- A replica from one call to the next.
use Rattle.std.proofs.Common.{[], ◌∷◌, refl, ◌∙◌, sym, subst}
use Rattle.lw_node.specs.Exchange.{known_by}
use Rattle.lw_replica.specs.Lives.{Asked, ForgetsNothing, Leaves}
use Rattle.lw_replica.specs.Lives.Asked.{Round, Compaction}
use Rattle.lw_replica.specs.Replica.{ReplicaContent, Stays}
use Rattle.lw_replica.proofs.Going.{below_same, below_then}

stays_itself : (m : ReplicaContent) → Stays m m
stays_itself m = record {
  start = record { number = refl; tag = refl; floor = refl; alone = refl };
  claimed = λ h. h;
  settled = λ h. h;
  fleet = λ f h is. is;
  knows = below_same m.node m.node refl;
}

stays_then : (a b c : ReplicaContent) → Stays a b → Stays b c → Stays a c
stays_then a b c one two = record {
  start = record {
    number = two.start.number ∙ one.start.number;
    tag = two.start.tag ∙ one.start.tag;
    floor = two.start.floor ∙ one.start.floor;
    alone = two.start.alone ∙ one.start.alone;
  };
  claimed = λ h. two.claimed (one.claimed h);
  settled = λ h. two.settled (one.settled h);
  fleet = λ f h is. two.fleet f (one.settled h) (one.fleet f h is);
  knows = below_then (known_by a.node) (known_by b.node) (known_by c.node) one.knows two.knows;
}

left_stays : (old new : ReplicaContent) (asked : Asked) → Leaves old asked new → Stays old new
left_stays old new Round left = left.stays
left_stays old new Compaction left = left.stays

pub forgets_nothing : ForgetsNothing
forgets_nothing first last [] lives = subst (λ (m : ReplicaContent). Stays first m) (sym lives) (stays_itself first)
forgets_nothing first last (asked ∷ more) lives = stays_then first lives.0 last (left_stays first lives.0 asked lives.1) (forgets_nothing lives.0 last more lives.2)
