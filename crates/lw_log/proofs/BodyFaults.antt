-- A body has at most one first fault, and none where it is one of its kind.
use Rattle.std.proofs.Common.{◌≡◌, ◌≤◌, ◌<◌, ℕ, List, length, refl, sym, ap, ◌∙◌, subst, inl, inr, arith}
use Rattle.std.proofs.lemmas.List.{drop_at, length-append}
use Rattle.lw_delta.specs.declared.fault.DeltaFault.{DeltaFault}
use Rattle.lw_delta.specs.Delta.{DeltaContent, IsSpelling, IsFault as IsDeltaFault}
use Rattle.lw_delta.proofs.Answering.{apart, one_fault}
use Rattle.lw_log.specs.declared.entry_fault.EntryFault.{EntryFault}
use Rattle.lw_log.specs.declared.entry_fault.EntryFault.TheVariants.{Magic, Newer, Truncated, Range, Trailing, Delta as DeltaFaults}
use Rattle.lw_log.specs.Entries.{BodyContent, FitsBody, HasDelta, kind_of, body_bytes}
use Rattle.lw_log.specs.Entries.BodyContent.{Start, Delta, Snapshot}
use Rattle.lw_log.specs.EntryFaults.{HoldsDelta, IsNewerDelta, IsBodyFault}
use Rattle.lw_log.proofs.Deltas.{spelled_is_no_newer}

-- ---- the delta in a body is one
holds_once : (kind : ℕ) (body x y : List ℕ) → HoldsDelta kind body x → HoldsDelta kind body y → x ≡ y
holds_once kind body x y (inl a) (inl b) = a.1 ∙ sym b.1
holds_once kind body x y (inl a) (inr b) = absurd (omega (arith, a.0, b.0))
holds_once kind body x y (inr a) (inl b) = absurd (omega (arith, a.0, b.0))
holds_once kind body x y (inr a) (inr b) = a.2 ∙ sym b.2

-- only two kinds have one, and one of them behind its numbers
holds_range : (kind : ℕ) (body x : List ℕ) → HoldsDelta kind body x → (1 ≤ kind) × (kind ≤ 2) × (kind ≡ 2 → 8192 ≤ length body)
holds_range kind body x (inl a) = (omega (arith, a.0), omega (arith, a.0), λ k. absurd (omega (arith, a.0, k)))
holds_range kind body x (inr a) = (omega (arith, a.0), omega (arith, a.0), λ k. a.1)

no_cut : (kind : ℕ) (body x : List ℕ) → HoldsDelta kind body x → IsBodyFault kind body Truncated → ⊥
no_cut kind body x holds cut = let long : 8192 ≤ length body = (holds_range kind body x holds).2 cut.0 in omega (arith, long, cut.1)

no_range : (kind : ℕ) (body x : List ℕ) → HoldsDelta kind body x → IsBodyFault kind body Range → ⊥
no_range kind body x holds range = let r = holds_range kind body x holds in omega (arith, r.1, range)

no_trailing : (kind : ℕ) (body x : List ℕ) → HoldsDelta kind body x → IsBodyFault kind body Trailing → ⊥
no_trailing kind body x holds trailing = let r = holds_range kind body x holds in omega (arith, r.0, trailing.0)

no_newer : (kind : ℕ) (body x y : List ℕ) → HoldsDelta kind body x → HoldsDelta kind body y → IsNewerDelta x → (IsNewerDelta y → ⊥) → ⊥
no_newer kind body x y h k newer old = old (subst IsNewerDelta (holds_once kind body x y h k) newer)

same_fault : (kind : ℕ) (body x y : List ℕ) (f g : DeltaFault) → HoldsDelta kind body x → HoldsDelta kind body y → IsDeltaFault x f → IsDeltaFault y g → f ≡ g
same_fault kind body x y f g h k a b = one_fault y f g (subst (λ (z : List ℕ). IsDeltaFault z f) (holds_once kind body x y h k) a) b

pub body_once : (kind : ℕ) (body : List ℕ) (f g : EntryFault) → IsBodyFault kind body f → IsBodyFault kind body g → f ≡ g
body_once kind body Magic g h k = absurd h
body_once kind body Newer Magic h k = absurd k
body_once kind body Newer Newer h k = refl
body_once kind body Newer Truncated h k = absurd (no_cut kind body h.0 h.1 k)
body_once kind body Newer Range h k = absurd (no_range kind body h.0 h.1 k)
body_once kind body Newer Trailing h k = absurd (no_trailing kind body h.0 h.1 k)
body_once kind body Newer (DeltaFaults g) h k = absurd (no_newer kind body h.0 k.0 h.1 k.1 h.2 k.2)
body_once kind body Truncated Magic h k = absurd k
body_once kind body Truncated Newer h k = absurd (no_cut kind body k.0 k.1 h)
body_once kind body Truncated Truncated h k = refl
body_once kind body Truncated Range h k = absurd (omega (arith, h.0, k))
body_once kind body Truncated Trailing h k = absurd (omega (arith, h.0, k.0))
body_once kind body Truncated (DeltaFaults g) h k = absurd (no_cut kind body k.0 k.1 h)
body_once kind body Range Magic h k = absurd k
body_once kind body Range Newer h k = absurd (no_range kind body k.0 k.1 h)
body_once kind body Range Truncated h k = absurd (omega (arith, h, k.0))
body_once kind body Range Range h k = refl
body_once kind body Range Trailing h k = absurd (omega (arith, h, k.0))
body_once kind body Range (DeltaFaults g) h k = absurd (no_range kind body k.0 k.1 h)
body_once kind body Trailing Magic h k = absurd k
body_once kind body Trailing Newer h k = absurd (no_trailing kind body k.0 k.1 h)
body_once kind body Trailing Truncated h k = absurd (omega (arith, h.0, k.0))
body_once kind body Trailing Range h k = absurd (omega (arith, h.0, k))
body_once kind body Trailing Trailing h k = refl
body_once kind body Trailing (DeltaFaults g) h k = absurd (no_trailing kind body k.0 k.1 h)
body_once kind body (DeltaFaults f) Magic h k = absurd k
body_once kind body (DeltaFaults f) Newer h k = absurd (no_newer kind body k.0 h.0 k.1 h.1 k.2 h.2)
body_once kind body (DeltaFaults f) Truncated h k = absurd (no_cut kind body h.0 h.1 k)
body_once kind body (DeltaFaults f) Range h k = absurd (no_range kind body h.0 h.1 k)
body_once kind body (DeltaFaults f) Trailing h k = absurd (no_trailing kind body h.0 h.1 k)
body_once kind body (DeltaFaults f) (DeltaFaults g) h k = ap DeltaFaults (same_fault kind body h.0 k.0 f g h.1 k.1 h.3 k.3)

-- ---- a good body has none
-- the delta where it is looked for is the body's own
own_delta : (content : BodyContent) (delta : List ℕ) → FitsBody content → HoldsDelta (kind_of content) (body_bytes content) delta → HasDelta content delta
own_delta Start delta fits (inl h) = absurd (omega (arith, h.0))
own_delta Start delta fits (inr h) = absurd (omega (arith, h.0))
own_delta (Delta own) delta fits (inl h) = sym h.1
own_delta (Delta own) delta fits (inr h) = absurd (omega (arith, h.0))
own_delta (Snapshot used_numbers own) delta fits (inl h) = absurd (omega (arith, h.0))
own_delta (Snapshot used_numbers own) delta fits (inr h) = sym (h.2 ∙ drop_at used_numbers own 8192 fits)

not_cut : (content : BodyContent) → FitsBody content → IsBodyFault (kind_of content) (body_bytes content) Truncated → ⊥
not_cut Start fits h = omega (arith, h.0)
not_cut (Delta own) fits h = omega (arith, h.0)
not_cut (Snapshot used_numbers own) fits h = omega (arith, h.1, fits, length-append used_numbers own)

not_range : (content : BodyContent) → 2 < kind_of content → ⊥
not_range Start h = omega (arith, h)
not_range (Delta own) h = omega (arith, h)
not_range (Snapshot used_numbers own) h = omega (arith, h)

not_trailing : (content : BodyContent) → IsBodyFault (kind_of content) (body_bytes content) Trailing → ⊥
not_trailing Start h = omega (arith, h.1)
not_trailing (Delta own) h = omega (arith, h.0)
not_trailing (Snapshot used_numbers own) h = omega (arith, h.0)

pub body_apart : (content : BodyContent) (f : EntryFault) → FitsBody content → ((delta : List ℕ) → HasDelta content delta → (d : DeltaContent) × IsSpelling delta d)
    → IsBodyFault (kind_of content) (body_bytes content) f → ⊥
body_apart content Magic fits spelled h = h
body_apart content Newer fits spelled h = let s = spelled h.0 (own_delta content h.0 fits h.1) in spelled_is_no_newer h.0 s.0 s.1 h.2
body_apart content Truncated fits spelled h = not_cut content fits h
body_apart content Range fits spelled h = not_range content h
body_apart content Trailing fits spelled h = not_trailing content h
body_apart content (DeltaFaults f) fits spelled h = let s = spelled h.0 (own_delta content h.0 fits h.1) in apart h.0 s.0 f s.1 h.3
