-- A text that is a front with a back behind it.
use Rattle.std.proofs.Common.{◌≡◌, ◌↔◌, ℕ, List, ◌++◌, length, take, drop, Bool, true, false, IsTrue, true≢false, sym, ap, ◌∙◌}
use Rattle.std.specs.Prelude.{nat_eq}
use Rattle.std.specs.Cmp.Lexicographic.{pointwise}
use Rattle.std.proofs.Math.Seq.{take-append_seam, drop-append_seam}
use Rattle.std.proofs.lemmas.List.{take-append-drop}
use Rattle.std.proofs.lemmas.Slice.Eq.{bytes_eq-Decides}

-- the text begins with the front, and what stands behind that is compared with the back
pub joined : (text front behind back : List ℕ) (r : Bool) → pointwise nat_eq (take (length front) text) front ≡ true
    → behind ≡ drop (length front) text → r ≡ pointwise nat_eq behind back → IsTrue r ↔ (text ≡ front ++ back)
joined text front behind back r begins rest same =
    let head = (bytes_eq-Decides (take (length front) text) front).0 begins in (
      λ yes. sym (take-append-drop (length front) text) ∙ ap (λ xs. xs ++ drop (length front) text) head
          ∙ ap (λ xs. front ++ xs) (sym rest ∙ (bytes_eq-Decides behind back).0 (sym same ∙ yes)),
      λ is. same ∙ (bytes_eq-Decides behind back).1 (rest ∙ ap (drop (length front)) is ∙ drop-append_seam front back),
    )

-- the text begins otherwise
pub not_joined : (text front back : List ℕ) → pointwise nat_eq (take (length front) text) front ≡ false
    → IsTrue false ↔ (text ≡ front ++ back)
not_joined text front back other = (
  λ no. absurd (true≢false (sym no)),
  λ is. absurd (true≢false (sym ((bytes_eq-Decides (take (length front) text) front).1 (ap (take (length front)) is ∙ take-append_seam front back)) ∙ other)),
)
