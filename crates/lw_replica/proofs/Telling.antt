-- Which fleet is told, entry after entry.
use Rattle.std.proofs.Common.{◌≡◌, ℕ, List, [], ◌∷◌, ◌++◌, Option, Some, None, Bool, true, false, refl, ap, subst}
use Rattle.std.specs.Prelude.{option_map}
use Rattle.lw_log.specs.Entries.{BodyContent, HasDelta}
use Rattle.lw_log.specs.Entries.BodyContent.{Start, Delta, Snapshot}
use Rattle.lw_log.specs.declared.entry.FleetId.{FleetId}
use Rattle.lw_replica.specs.Fleets.{TellsFleet, TellFleets, told_by, told_first}

pub tells_one : (old new : Bool × Option (List ℕ)) (bytes : List ℕ) → TellsFleet old bytes new → TellFleets old (bytes ∷ []) new
tells_one old new bytes one = (new, one, refl)

pub tells_then : (a b c : Bool × Option (List ℕ)) (xs ys : List (List ℕ)) → TellFleets a xs b → TellFleets b ys c → TellFleets a (xs ++ ys) c
tells_then a b c [] ys one two = subst (λ (n : Bool × Option (List ℕ)). TellFleets n ys c) one two
tells_then a b c (x ∷ xs) ys one two = (one.0, one.1, tells_then one.0 b c xs ys one.2 two)

-- a delta tells its fleet
pub tells_delta : (old : Bool × Option (List ℕ)) (body : BodyContent) (fleet delta : List ℕ) → HasDelta body delta → (true, Some fleet) ≡ told_by body fleet old
tells_delta old Start fleet delta has = absurd has
tells_delta old (Delta own) fleet delta has = refl
tells_delta old (Snapshot used_numbers own) fleet delta has = refl

-- a start tells it first
pub tells_start : (settled : Bool) (old new : Option FleetId) (fleet : FleetId) → (settled ≡ true → new ≡ old) → (settled ≡ false → old ≡ None → new ≡ Some fleet) → ((f : FleetId) → old ≡ Some f → new ≡ Some f)
    → option_map (λ (f : FleetId). f.bytes) new ≡ told_first settled (option_map (λ (f : FleetId). f.bytes) old) fleet.bytes
tells_start true old new fleet kept first later = ap (λ (x : Option FleetId). option_map (λ (f : FleetId). f.bytes) x) (kept refl)
tells_start false (Some f) new fleet kept first later = ap (λ (x : Option FleetId). option_map (λ (y : FleetId). y.bytes) x) (later f refl)
tells_start false None new fleet kept first later = ap (λ (x : Option FleetId). option_map (λ (y : FleetId). y.bytes) x) (first refl refl)
