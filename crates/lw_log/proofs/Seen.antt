-- What a process has seen of its log grows.
use Rattle.std.proofs.Common.{ℕ, List, [], ◌∷◌, ◌++◌, refl, inl, inr}
use Rattle.lw_log.specs.Calls.{LogCall}
use Rattle.lw_log.specs.Calls.LogCall.{Read, Wrote, Tried, Trimmed}
use Rattle.lw_log.specs.Known.{IsSeen, SeenCovers, OwnAppendsCover}

pub seen_before : (calls more : List LogCall) (e : List ℕ) → IsSeen e calls → IsSeen e (calls ++ more)
seen_before [] more e s = absurd s
seen_before (Read after es ∷ calls) more e (inl h) = inl h
seen_before (Read after es ∷ calls) more e (inr s) = inr (seen_before calls more e s)
seen_before (Wrote p ∷ calls) more e (inl h) = inl h
seen_before (Wrote p ∷ calls) more e (inr s) = inr (seen_before calls more e s)
seen_before (Tried own ∷ calls) more e s = seen_before calls more e s
seen_before (Trimmed upto ∷ calls) more e s = seen_before calls more e s

pub seen_behind : (calls more : List LogCall) (e : List ℕ) → IsSeen e more → IsSeen e (calls ++ more)
seen_behind [] more e s = s
seen_behind (Read after es ∷ calls) more e s = inr (seen_behind calls more e s)
seen_behind (Wrote p ∷ calls) more e s = inr (seen_behind calls more e s)
seen_behind (Tried own ∷ calls) more e s = seen_behind calls more e s
seen_behind (Trimmed upto ∷ calls) more e s = seen_behind calls more e s

pub seen_covers : SeenCovers
seen_covers calls more known covered = λ reader has. covered reader (λ e seen. has e (seen_before calls more e seen))

pub own_appends_cover : OwnAppendsCover
own_appends_cover calls p d known brings covers = λ reader has.
    covers reader (λ e seen. has e (seen_before calls (Wrote p ∷ []) e seen)) (has p.1 (seen_behind calls (Wrote p ∷ []) p.1 (inl refl)) d brings)
