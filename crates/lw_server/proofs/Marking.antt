-- What is left to do, written over one after another.
use Rattle.std.specs.Prelude.{◌≡◌, ℕ, ◌+◌, ◌<◌, ◌≤◌, List, [], ◌∷◌, ◌++◌, length, get_or, set, take, map, refl}
use Rattle.std.proofs.Common.{sym, ap, ◌∙◌, append_assoc, subst, arith, length-append}
use Rattle.std.proofs.Math.Seq.{get_or-append_seam, set-append_seam}
use Rattle.std.proofs.lemmas.List.{append-nil, map-append}
use Rattle.lw_server.specs.declared.devices.Task.{Task}
use Rattle.lw_server.specs.Devices.{TaskContent}
use Rattle.lw_server.specs.Stepping.{over}
use Rattle.lw_server.specs.inner.Devices.{task_of}

-- what is seen of them once they have ended
abbrev pub over_of : List Task → List TaskContent
over_of tasks = map over (map task_of tasks)

-- some are written over, and the rest is as it was
pub record IsMarking (all : List Task) (place : ℕ) (current : List Task) : Type 0 where
  pub olds : List Task
  pub news : List Task
  pub rest : List Task
  pub all_are : all ≡ olds ++ rest
  pub current_are : current ≡ news ++ rest
  pub long : length news ≡ place
  pub marked : map task_of news ≡ over_of olds

pub marking_begins : (all : List Task) → IsMarking all 0 all
marking_begins all = record { olds = []; news = []; rest = all; all_are = refl; current_are = refl; long = refl; marked = refl }

first_of : (news rest : List Task) (place : ℕ) → length news ≡ place → place < length (news ++ rest)
    → (r : Task) × ((rs : List Task) × (rest ≡ r ∷ rs))
first_of news [] place long less = absurd (omega (arith, length-append news []))
first_of news (r ∷ rs) place long less = (r, (rs, refl))

over-append : (olds : List Task) (old : Task) → over_of (olds ++ old ∷ []) ≡ over_of olds ++ over (task_of old) ∷ []
over-append olds old =
    ap (map over) (map-append task_of olds (old ∷ [])) ∙ map-append over (map task_of olds) (task_of old ∷ [])

pub marking_goes_on : (all current next : List Task) (place : ℕ) (old new other : Task) → place < length current
    → old ≡ get_or current place other → next ≡ set current place new → task_of new ≡ over (task_of old)
    → IsMarking all place current → IsMarking all (place + 1) next
marking_goes_on all current next place old new other less is put marks way =
    let some = first_of way.news way.rest place way.long (subst (λ (ts : List Task). place < length ts) way.current_are less) in
    let here = way.current_are ∙ ap (λ (ts : List Task). way.news ++ ts) some.1.1 in
    let same = is ∙ (λ k. get_or (here k) (sym way.long k) other) ∙ get_or-append_seam way.news some.0 some.1.0 other in
    record {
      olds = way.olds ++ old ∷ [];
      news = way.news ++ new ∷ [];
      rest = some.1.0;
      all_are = way.all_are ∙ ap (λ (ts : List Task). way.olds ++ ts) (some.1.1 ∙ ap (λ (t : Task). t ∷ some.1.0) (sym same))
          ∙ sym (append_assoc way.olds (old ∷ []) some.1.0);
      current_are = put ∙ (λ k. set (here k) (sym way.long k) new) ∙ set-append_seam way.news some.0 some.1.0 new
          ∙ sym (append_assoc way.news (new ∷ []) some.1.0);
      long = length-append way.news (new ∷ []) ∙ ap (λ (n : ℕ). n + 1) way.long;
      marked = map-append task_of way.news (new ∷ []) ∙ (λ k. way.marked k ++ marks k ∷ []) ∙ sym (over-append way.olds old);
    }

none_left : (news rest : List Task) (place : ℕ) → length news ≡ place → length (news ++ rest) ≤ place → rest ≡ []
none_left news [] place long past = refl
none_left news (r ∷ rs) place long past = absurd (omega (arith, length-append news (r ∷ rs)))

pub marking_ends : (all current : List Task) (place : ℕ) → length current ≤ place → IsMarking all place current
    → map task_of current ≡ over_of all
marking_ends all current place past way =
    let none = none_left way.news way.rest place way.long (subst (λ (ts : List Task). length ts ≤ place) way.current_are past) in
    let olds = way.all_are ∙ ap (λ (ts : List Task). way.olds ++ ts) none ∙ append-nil way.olds in
    let news = way.current_are ∙ ap (λ (ts : List Task). way.news ++ ts) none ∙ append-nil way.news in
    ap (map task_of) news ∙ way.marked ∙ sym (ap over_of olds)
