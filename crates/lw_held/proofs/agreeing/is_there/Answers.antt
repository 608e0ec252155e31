use Rattle.std.proofs.Common.{◌≡◌, None, Some, false, true, refl, sym}
use Rattle.lw_held.specs.Agree.{journal_of}
use Rattle.lw_held.proofs.Agreement.{same_entry, not_there}
use Rattle.lw_held.proofs.agreeing.is_there.Goals as goal

pub returns-then-has_entry : goal.returns-then-has_entry
returns-then-has_entry c = ((λ yes. (None, journal_of c.args.held.now, refl, same_entry _ _ _ _ _ _ c.first.ensures.value c.journal.ensures.value (c.if-has_entry.ensures.0 refl))), (λ w. refl))

pub returns-in-Some : goal.returns-in-Some
returns-in-Some c = let has = c.in-Some.ensures.found in ((λ yes. (Some c.in-Some.index, has.0, has.1, has.2)), (λ w. refl))

pub returns-in-None : goal.returns-in-None
returns-in-None c =
    not_there c.args.node c.args.volumes.now c.args.held.now c.args.part.now
    (λ at. let no : false ≡ true = c.if-has_entry.ensures.1 (same_entry _ _ _ _ _ _ (sym c.first.ensures.value) (sym c.journal.ensures.value) at) in cc)
    (λ i volume is at. c.in-None.ensures.none i (volume, is, at))
