-- One more observation behind those of a page.
use Rattle.std.proofs.Common.{◌≡◌, ℕ, suc, ◌-◌, List, [], ◌∷◌, ◌++◌, length, Option, Some, None, refl, ap, subst, arith}
use Rattle.std.specs.Prelude.{slice_get}
use Rattle.lw_stamp.specs.declared.stamp.Stamp.{Stamp}
use Rattle.lw_reg.specs.declared.path.Path.{Path}
use Rattle.lw_reg.specs.declared.watch.Watch.{Watch}
use Rattle.lw_reg.specs.Marks.{Marks}
use Rattle.lw_reg.specs.Registration.{Registration}
use Rattle.lw_table.specs.LookUps.{WatchOfIdAfter}
use Rattle.lw_api.specs.Answers.{AreWatchesAfter, last_path}

pub watches_more : (M : Marks) (now : ℕ) (id : Stamp) (after : Option Path) (page : List (Registration × Watch)) (x : Registration × Watch)
    → AreWatchesAfter M now id after page → WatchOfIdAfter M now id (last_path after page) (Some x)
    → AreWatchesAfter M now id after (page ++ x ∷ [])
watches_more M now id after [] x are is = (is, tt)
watches_more M now id after (y ∷ page) x are is = (are.0, watches_more M now id (Some y.1.path) page x are.1 is)

-- the last of some observations is the one at the last place
pub last_at : (after : Option Path) (page : List (Registration × Watch)) (x : Registration × Watch) → slice_get page (length page - 1) ≡ Some x → Some x.1.path ≡ last_path after page
last_at after [] x e = absurd cc
last_at after (y ∷ []) x e =
    let place : length (y ∷ []) - 1 ≡ 0 = omega arith in
    let first : slice_get (y ∷ []) 0 ≡ Some x = subst (λ n. slice_get (y ∷ []) n ≡ Some x) place e in
    let same : x ≡ y = cc in
    ap (λ (w : Registration × Watch). Some w.1.path) same
last_at after (y ∷ z ∷ page) x e =
    let place : length (y ∷ z ∷ page) - 1 ≡ suc (length (z ∷ page) - 1) = omega arith in
    last_at (Some y.1.path) (z ∷ page) x (subst (λ n. slice_get (y ∷ z ∷ page) n ≡ Some x) place e)

-- behind a path there is a last one
some_last : (path : Path) (page : List (Registration × Watch)) → ¬ (last_path (Some path) page ≡ None)
some_last path [] e = absurd cc
some_last path (y ∷ page) e = some_last y.1.path page e

-- where there is no last path there is no observation
pub no_last : (after : Option Path) (page : List (Registration × Watch)) → last_path after page ≡ None → page ≡ []
no_last after [] e = refl
no_last after (y ∷ page) e = absurd (some_last y.1.path page e)
