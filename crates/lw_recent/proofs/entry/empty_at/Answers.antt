use Rattle.std.proofs.Common.{◌≡◌, ℕ, zero, suc, List, [], ◌∷◌, set, get_or, ap, refl}
use Rattle.lw_recent.specs.declared.entry.Entry.{Entry}
use Rattle.lw_recent.specs.inner.Entries.{emptied, with_hole}
use Rattle.lw_recent.proofs.entry.empty_at.Goals as goal

set_hole : (xs : List Entry) (i : ℕ) (x : Entry) → x ≡ get_or xs i x → set xs i (emptied x) ≡ with_hole xs i
set_hole [] i x h = refl
set_hole (y ∷ ys) zero x h = ap (λ z. emptied z ∷ ys) h
set_hole (y ∷ ys) (suc i) x h = ap (λ l. y ∷ l) (set_hole ys i x h)

pub returns-clause-hole : goal.returns-clause-hole
returns-clause-hole c = set_hole c.args.entries.now.items c.args.index c.index_mut.result.now c.index_mut.ensures.value
