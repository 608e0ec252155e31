-- What a log covers, step by step.
use Rattle.std.proofs.Common.{◌≡◌, ◌⊎◌, List, [], ◌∷◌, refl, sym, subst, inl, inr, arith}
use Rattle.lw_reg.proofs.States.{state_laws}
use Rattle.lw_node.specs.Exchange.{IsBelow}
use Rattle.lw_log.specs.inner.Order.{IsOrder}
use Rattle.lw_log.specs.Log.{IsAmong, HasAll, Log, empty_log, Event, Trims, Steps, Runs, Told, ReadersKnow}
use Rattle.lw_log.specs.Log.{AppendsCover}
use Rattle.lw_log.specs.Log.Event.{Append, Trim}

module _ {S : Type 0} (below : S → S → Type 0) (order : IsOrder below) where
  -- who covers what is left after a trim covers what was there before
  has_all_trimmed : (old new : Log S) (snapshot reader : S) → Trims below old snapshot new → HasAll below reader new.kept → HasAll below reader old.kept
  has_all_trimmed old new snapshot reader trims has_all d in_old =
      elim (trims.gone d in_old) [
        | inl left ↦ has_all d left
        | inr under ↦ order.transitive d snapshot reader under (has_all snapshot trims.stays)
      ]

  has_all_before : (old new : Log S) (event : Event S) (reader : S) → Steps below old event new → HasAll below reader new.kept → HasAll below reader old.kept
  has_all_before old new (Append d) reader step has_all =
      let more : HasAll below reader (d ∷ old.kept) = subst (λ (log : Log S). HasAll below reader log.kept) step has_all in
      λ x among. more x (inr among)
  has_all_before old new (Trim snapshot) reader step has_all = has_all_trimmed old new snapshot reader step has_all

  has_all_first : (old new : Log S) (events : List (Event S)) (reader : S) → Runs below old events new → HasAll below reader new.kept → HasAll below reader old.kept
  has_all_first old new [] reader runs has_all = subst (λ (log : Log S). HasAll below reader log.kept) runs has_all
  has_all_first old new (e ∷ es) reader runs has_all = has_all_before old runs.0 e reader runs.1 (has_all_first runs.0 new es reader runs.2 has_all)

  -- who covers what is kept covers all that was ever appended
  abbrev KnowsAll : Log S → Type 0
  KnowsAll log = (reader : S) → HasAll below reader log.kept → HasAll below reader log.ever

  knows_more : (old : Log S) (d : S) → KnowsAll old → (reader : S) → HasAll below reader (d ∷ old.kept) → (x : S) → (x ≡ d) ⊎ IsAmong x old.ever → below x reader
  knows_more old d knows reader has_all x (inl same) = has_all x (inl same)
  knows_more old d knows reader has_all x (inr among) = knows reader (λ y there. has_all y (inr there)) x among

  knows_step : (old new : Log S) (event : Event S) → KnowsAll old → Steps below old event new → KnowsAll new
  knows_step old new (Append d) knows step = subst KnowsAll (sym step) (λ reader has_all x among. knows_more old d knows reader has_all x among)
  knows_step old new (Trim snapshot) knows step =
      λ reader has_all. subst (λ (ds : List S). HasAll below reader ds) (sym step.ever) (knows reader (has_all_trimmed old new snapshot reader step has_all))

  knows_run : (old new : Log S) (events : List (Event S)) → KnowsAll old → Runs below old events new → KnowsAll new
  knows_run old new [] knows runs = subst KnowsAll (sym runs) knows
  knows_run old new (e ∷ es) knows runs = knows_run runs.0 new es (knows_step old runs.0 e knows runs.1) runs.2

pub told : {S : Type 0} (below : S → S → Type 0) → IsOrder below → Told below
told below order log later events runs known covers = λ reader has_all. covers reader (has_all_first below order log later events reader runs has_all)

pub readers_know : {S : Type 0} (below : S → S → Type 0) → IsOrder below → ReadersKnow below
readers_know below order log events runs = knows_run below order empty_log log events (λ reader has_all. has_all) runs

pub appends_cover : {S : Type 0} (below : S → S → Type 0) → IsOrder below → AppendsCover below
appends_cover {S = S} below order old new delta known brings step = λ reader has_all.
    brings reader (has_all_before below order old new (Append delta) reader step has_all)
    (subst (λ (log : Log S). HasAll below reader log.kept) step has_all delta (inl refl))

-- what nodes know is ordered
pub below_order : IsOrder IsBelow
below_order = record {
  reflexive = λ x. (omega arith, state_laws.reflexive x.1);
  transitive = λ x y z f g. (omega (arith, f.0, g.0), state_laws.transitive x.1 y.1 z.1 f.1 g.1);
}
