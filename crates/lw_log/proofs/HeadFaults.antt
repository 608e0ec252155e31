-- What stands before the body has at most one first fault, and none where it is good.
use Rattle.std.proofs.Common.{◌≡◌, ℕ, List, take, codes, refl, sym, ap, ◌∙◌, inl, inr, arith}
use Rattle.std.proofs.lemmas.List.{take-take}
use Rattle.lw_log.specs.declared.entry_fault.EntryFault.{EntryFault}
use Rattle.lw_log.specs.declared.entry_fault.EntryFault.TheVariants.{Magic, Newer, Truncated, Range, Trailing, Delta}
use Rattle.lw_log.specs.EntryFaults.{HasMagic, HasHead, IsHeadFault}

family : (bytes : List ℕ) → HasMagic bytes → take 3 bytes ≡ codes "LWE"
family bytes magic = sym (take-take 3 4 bytes (omega arith)) ∙ ap (take 3) magic

pub head_apart : (bytes : List ℕ) (f : EntryFault) → HasHead bytes → IsHeadFault bytes f → ⊥
head_apart bytes Magic head wrong = wrong.1 (family bytes head.magic)
head_apart bytes Newer head wrong = wrong.2 head.magic
head_apart bytes Truncated head (inl cut) = omega (arith, head.long, cut)
head_apart bytes Truncated head (inr (inl cut)) = omega (arith, head.long, cut.1)
head_apart bytes Truncated head (inr (inr cut)) = omega (arith, head.long, cut.3)
head_apart bytes Range head wrong = omega (arith, head.number, wrong.2)
head_apart bytes Trailing head wrong = wrong
head_apart bytes (Delta fault) head wrong = wrong

-- whole magics of two formats, or of none
no_magic_cut : (bytes : List ℕ) → IsHeadFault bytes Magic → IsHeadFault bytes Truncated → ⊥
no_magic_cut bytes h (inl cut) = omega (arith, h.0, cut)
no_magic_cut bytes h (inr (inl cut)) = h.1 (family bytes cut.0)
no_magic_cut bytes h (inr (inr cut)) = h.1 (family bytes cut.0)

newer_cut : (bytes : List ℕ) → IsHeadFault bytes Newer → IsHeadFault bytes Truncated → ⊥
newer_cut bytes h (inl cut) = omega (arith, h.0, cut)
newer_cut bytes h (inr (inl cut)) = h.2 cut.0
newer_cut bytes h (inr (inr cut)) = h.2 cut.0

cut_range : (bytes : List ℕ) → IsHeadFault bytes Truncated → IsHeadFault bytes Range → ⊥
cut_range bytes (inl cut) h = omega (arith, h.1, cut)
cut_range bytes (inr (inl cut)) h = omega (arith, h.1, cut.1)
cut_range bytes (inr (inr cut)) h = omega (arith, h.2, cut.1)

pub head_once : (bytes : List ℕ) (f g : EntryFault) → IsHeadFault bytes f → IsHeadFault bytes g → f ≡ g
head_once bytes Trailing g h k = absurd h
head_once bytes (Delta fault) g h k = absurd h
head_once bytes Magic Magic h k = refl
head_once bytes Magic Newer h k = absurd (h.1 k.1)
head_once bytes Magic Truncated h k = absurd (no_magic_cut bytes h k)
head_once bytes Magic Range h k = absurd (h.1 (family bytes k.0))
head_once bytes Magic Trailing h k = absurd k
head_once bytes Magic (Delta fault) h k = absurd k
head_once bytes Newer Magic h k = absurd (k.1 h.1)
head_once bytes Newer Newer h k = refl
head_once bytes Newer Truncated h k = absurd (newer_cut bytes h k)
head_once bytes Newer Range h k = absurd (h.2 k.0)
head_once bytes Newer Trailing h k = absurd k
head_once bytes Newer (Delta fault) h k = absurd k
head_once bytes Truncated Magic h k = absurd (no_magic_cut bytes k h)
head_once bytes Truncated Newer h k = absurd (newer_cut bytes k h)
head_once bytes Truncated Truncated h k = refl
head_once bytes Truncated Range h k = absurd (cut_range bytes h k)
head_once bytes Truncated Trailing h k = absurd k
head_once bytes Truncated (Delta fault) h k = absurd k
head_once bytes Range Magic h k = absurd (k.1 (family bytes h.0))
head_once bytes Range Newer h k = absurd (k.2 h.0)
head_once bytes Range Truncated h k = absurd (cut_range bytes k h)
head_once bytes Range Range h k = refl
head_once bytes Range Trailing h k = absurd k
head_once bytes Range (Delta fault) h k = absurd k
