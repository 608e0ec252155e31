-- Pages, an entry at a time.
use Rattle.std.proofs.Common.{◌≡◌, ℕ, zero, suc, ◌+◌, List, [], ◌∷◌, ◌++◌, take, Option, Some, None, refl, sym, ap, subst, slice_get, add-one}
use Rattle.std.specs.List.{AllZip}
use Rattle.lw_log.specs.declared.position.Position.{Position}
use Rattle.lw_resp.specs.declared.entries.Entry.{Entry}
use Rattle.lw_redis_log.specs.Pages.{IsPlaced, IsPage}

push : (es : List Entry) (ps : List (Position × List ℕ)) (e : Entry) (p : Position × List ℕ) → IsPage es ps → IsPlaced e p → IsPage (es ++ e ∷ []) (ps ++ p ∷ [])
push [] [] e p h is = (is, tt)
push [] (q ∷ ps) e p h is = absurd h
push (d ∷ es) [] e p h is = absurd h
push (d ∷ es) (q ∷ ps) e p h is = (h.0, push es ps e p h.1 is)

take_more : (es : List Entry) (i : ℕ) (e : Entry) → slice_get es i ≡ Some e → take (suc i) es ≡ take i es ++ e ∷ []
take_more [] i e at = absurd (let bad = at in cc)
take_more (d ∷ es) zero e at = let same : d ≡ e = cc in ap (λ (x : Entry). x ∷ []) same
take_more (d ∷ es) (suc i) e at = ap (λ (xs : List Entry). d ∷ xs) (take_more es i e at)

pub one_more : (es : List Entry) (old new : List (Position × List ℕ)) (i : ℕ) (e : Entry) (p : Position × List ℕ) → slice_get es i ≡ Some e
    → IsPage (take i es) old → IsPlaced e p → new ≡ old ++ p ∷ [] → IsPage (take (i + 1) es) new
one_more es old new i e p at h is pushed =
    let more : take (i + 1) es ≡ take i es ++ e ∷ [] = rw add-one (take_more es i e at) in
    let both : IsPage (take i es ++ e ∷ []) (old ++ p ∷ []) = push (take i es) old e p h is in
    subst (λ (xs : List Entry). IsPage xs new) (sym more) (subst (λ (ps : List (Position × List ℕ)). IsPage (take i es ++ e ∷ []) ps) (sym pushed) both)
