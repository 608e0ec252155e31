-- Bytes that are counted.
use Rattle.std.proofs.Common.{◌≡◌, ℕ, List, [], ◌∷◌, ◌++◌, length, Bool, true, false, cond, inl, refl, sym, ap, ◌∙◌, subst}
use Rattle.lw_log.specs.Entries.{BodyContent, EntryContent, IsEntry}
use Rattle.lw_replica.specs.Counting.{counted_with, CountsEntry, CountsEntries}

pub counts_one : (old new : ℕ × ℕ) (bytes : List ℕ) → CountsEntry old bytes new → CountsEntries old (bytes ∷ []) new
counts_one old new bytes one = (new, one, refl)

pub counts_then : (a b c : ℕ × ℕ) (xs ys : List (List ℕ)) → CountsEntries a xs b → CountsEntries b ys c → CountsEntries a (xs ++ ys) c
counts_then a b c [] ys one two = subst (λ (n : ℕ × ℕ). CountsEntries n ys c) one two
counts_then a b c (x ∷ xs) ys one two = (one.0, one.1, counts_then one.0 b c xs ys one.2 two)

-- an entry of its own, which counts where nobody else appends
pub counts_own : (alone : Bool) (old new : ℕ × ℕ) (bytes : List ℕ) (e : EntryContent) (body : BodyContent) (size : ℕ) → IsEntry bytes e → e.body ≡ body → size ≡ length bytes → new ≡ cond alone (counted_with body size old) old
    → CountsEntries old (cond alone (bytes ∷ []) []) new
counts_own true old new bytes e body size is body_is long now =
    (new, inl (e, is, now ∙ ap (λ b. counted_with b size old) (sym body_is) ∙ ap (λ n. counted_with e.body n old) long), refl)
counts_own false old new bytes e body size is body_is long now = now

pub counts_same : (from old new to : ℕ × ℕ) (xs ys : List (List ℕ)) → old ≡ from → xs ≡ ys → new ≡ to → CountsEntries from xs to → CountsEntries old ys new
counts_same from old new to xs ys before same after counts =
    subst (λ (n : ℕ × ℕ). CountsEntries n ys new) (sym before) (subst (λ es. CountsEntries from es new) same (subst (λ (n : ℕ × ℕ). CountsEntries from xs n) (sym after) counts))
