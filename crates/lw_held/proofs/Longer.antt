-- Lists that are longer by one, and what is known of a call under a lock.
use Rattle.std.proofs.Common.{◌≡◌, ℕ, zero, suc, ◌+◌, ◌<◌, List, [], ◌∷◌, ◌++◌, length, Option, Some, None, Result, Ok, Err, refl, sym, ap, ◌∙◌, subst, inl, inr, ◌⊎◌}
use borrow.Author.Count.{below_more}
use Rattle.std.specs.Prelude.{slice_get, ◌≢◌, IfErr, IfOk, IfSome, IsSomeAnd, OnOk}
use Rattle.lw_stamp.specs.declared.no_memory.NoMemory.{NoMemory}
use Rattle.lw_call.specs.declared.call.Call.{Call}
use Rattle.lw_held.specs.declared.entry.Entry.{Entry}
use Rattle.lw_held.specs.declared.entry.Part.{Part}
use Rattle.lw_held.specs.declared.shelf.Shelf.{Shelf}
use Rattle.lw_held.specs.Agree.{Agrees, Fails, IsSettledWith}
use Rattle.lw_held.specs.History.{HeldContent, VolumeContent, IsLegal, IsVolume, Enters, Cuts}
use Rattle.lw_held.proofs.Agreement.{same_some}
use Rattle.lw_held.proofs.Pieces.{one_history}
use Rattle.lw_held.specs.Shelves.{AreInOrder, AreNew, FailsAt, IsAnswered, IsCutOff}
use Rattle.lw_held.specs.Transcript.{Transcript, IsNumbered}

-- what lies at a place was there before, or is the new one
pub there_or_last : {A : Type 0} (xs : List A) (y : A) (k : ℕ) (x : A) → slice_get (xs ++ y ∷ []) k ≡ Some x → (slice_get xs k ≡ Some x) ⊎ ((k ≡ length xs) × (y ≡ x))
there_or_last [] y zero x at = inr (refl, let e : Some y ≡ Some x = at in cc)
there_or_last {A = A} [] y (suc k) x at = absurd (let bad : ◌≡◌ {A = Option A} None (Some x) = at in cc)
there_or_last (z ∷ xs) y zero x at = inl at
there_or_last (z ∷ xs) y (suc k) x at = elim (there_or_last xs y k x at) [ inl before ↦ inl before | inr last ↦ inr (ap suc last.0, last.1) ]

-- a transcript with one part more, which has the next number
pub numbered_longer : (number : ℕ) (parts room longer : List Part) (part : Part) → IsNumbered (record { number = number; parts = parts }) → room ≡ parts → longer ≡ room ++ part ∷ [] → part.entry.pass ≡ number → part.entry.number ≡ length room
    → IsNumbered (record { number = number; parts = longer })
numbered_longer number parts room longer part before kept pushed own next k x at =
    elim (there_or_last room part k x (ap (λ (ps : List Part). slice_get ps k) (sym pushed) ∙ at)) [
      | inl earlier ↦ before k x (ap (λ (ps : List Part). slice_get ps k) (sym kept) ∙ earlier)
      | inr last ↦ (ap (λ (p : Part). p.entry.pass) (sym last.1) ∙ own, ap (λ (p : Part). p.entry.number) (sym last.1) ∙ next ∙ sym last.0)
    ]

-- one shelf more, of the next number
pub in_order_longer : (shelves longer : List Shelf) (shelf : Shelf) → AreInOrder shelves → longer ≡ shelves ++ shelf ∷ [] → shelf.number ≡ length shelves + 1 → AreInOrder longer
in_order_longer shelves longer shelf before pushed next k x at =
    elim (there_or_last shelves shelf k x (ap (λ (ss : List Shelf). slice_get ss k) (sym pushed) ∙ at)) [
      | inl earlier ↦ before k x earlier
      | inr last ↦ ap (λ (s : Shelf). s.number) (sym last.1) ∙ next ∙ ap (λ n. n + 1) (sym last.0)
    ]

-- one pass more, of the next number
pub new_longer : (passes longer : List Transcript) (pass : Transcript) → AreNew passes → longer ≡ passes ++ pass ∷ [] → pass ≡ record { number = length passes; parts = [] } → AreNew longer
new_longer passes longer pass before pushed next k x at =
    elim (there_or_last passes pass k x (ap (λ (ps : List Transcript). slice_get ps k) (sym pushed) ∙ at)) [
      | inl earlier ↦ before k x earlier
      | inr last ↦ subst (λ n. x ≡ record { number = n; parts = [] }) (sym last.0) (sym last.1 ∙ next)
    ]

-- what holds of each of the first n holds of one more
pub each_more : {A : Type 0} (P : A → Type 0) (xs : List A) (n : ℕ) (x : A) → slice_get xs n ≡ Some x → P x → ((i : ℕ) (y : A) → i < n → slice_get xs i ≡ Some y → P y) → (i : ℕ) (y : A) → i < n + 1 → slice_get xs i ≡ Some y → P y
each_more {A = A} P xs n x item here before i y lt at =
    below_more (λ j. (w : A) → slice_get xs j ≡ Some w → P w) n (λ j l w a. before j w l a) (λ w a. subst P (same_some x w _ item a) here) i lt y at

-- what has answered had a legal history
pub answered : (r : Result ℕ NoMemory) (pass number : ℕ) (call : Call) (old new : HeldContent) (Q : ℕ → Entry → Type 0) → IsLegal old → IfOk r (λ place. (entry : Entry) × Enters old pass number call entry place new × Q place entry)
    → IfOk r (λ place. (entry : Entry) × IsAnswered pass number call entry place × Q place entry)
answered (Ok place) pass number call old new Q legal entered = (entered.0, (old, new, legal, entered.1), entered.2)
answered (Err refused) pass number call old new Q legal entered = tt

-- a journal that agrees is, behind its volumes, the history that is settled and has them
pub settles : {T E : Type 0} (r : Result T E) (node : ℕ) (volumes : List VolumeContent) (held : HeldContent) (passes : List Transcript) → ((i : ℕ) (volume : VolumeContent) → slice_get volumes i ≡ Some volume → IsVolume volume) → IsLegal held
    → OnOk r (Agrees node volumes held passes) → OnOk r (IsSettledWith node volumes passes)
settles (Ok t) node volumes held passes volumes_legal legal agrees = one_history node volumes held passes agrees.1 volumes_legal legal
settles (Err e) node volumes held passes volumes_legal legal agrees = tt

-- a journal that fails is a legal history that fails
pub fails_at : {T : Type 0} (r : Result T ℕ) (node : ℕ) (volumes : List VolumeContent) (held : HeldContent) (passes : List Transcript) → IsLegal held → IfErr r (λ place. Fails node volumes held passes place) → IfErr r (λ place. FailsAt node volumes passes place)
fails_at (Ok t) node volumes held passes legal fails = tt
fails_at (Err place) node volumes held passes legal fails = (held, legal, fails)

-- what was cut off is that of a node with a legal history
pub cut_off : {E : Type 0} (r : Result (Option VolumeContent) E) (old new : HeldContent) → IsLegal old → (old.journal ≡ [] → r ≡ Ok None) → (old.journal ≢ [] → IfOk r (λ volume. IsSomeAnd volume (λ v. Cuts old v new))) → IfOk r (λ cut. IfSome cut IsCutOff)
cut_off (Err e) old new legal none cut = tt
cut_off (Ok None) old new legal none cut = tt
cut_off (Ok (Some volume)) old new legal none cut = (old, new, legal, cut (λ empty. let bad : ◌≡◌ {A = Result (Option VolumeContent) _} (Ok (Some volume)) (Ok None) = none empty in cc))
