-- Payloads that are object lists, and payloads that are none.
use Rattle.std.proofs.Common.{◌≡◌, ◌≢◌, ◌↔◌, ℕ, ◌≤◌, List, [], ◌∷◌, ◌++◌, length, Result, Err, sym, ap, ◌∙◌, arith, inl, inr, length-append}
use Rattle.std.proofs.lemmas.Str.{chars-nil}
use Rattle.lw_link.specs.declared.fault.LinkFault.{LinkFault}
use Rattle.lw_link.specs.declared.fault.LinkFault.TheVariants.{NotText, Grammar, NoMemory as WantOfMemory}
use Rattle.lw_link.specs.Faults.{IsFault}
use Rattle.lw_link.specs.Printing.{printing}
use Rattle.lw_link.proofs.Outcomes.{one_spelled}
use Rattle.lw_request.specs.Objects.{IsObjectList, IsTooLarge, SpellsNone}

-- which faults are answered
abbrev pub AnswersFaults : {T : Type 0} → List ℕ → Result T LinkFault → Type 0
AnswersFaults bytes r = (fault : LinkFault) → fault ≢ WantOfMemory → ((r ≡ Err fault) ↔ IsFault bytes fault)

pub fault_is : {T : Type 0} (bytes : List ℕ) (r : Result T LinkFault) (found fault : LinkFault) → AnswersFaults bytes r → r ≡ Err found → found ≡ fault → fault ≢ WantOfMemory → IsFault bytes fault
fault_is bytes r found fault answers is same other = (answers fault other).0 (is ∙ ap Err same)

pub no_text : (bytes : List ℕ) → IsFault bytes NotText → SpellsNone bytes
no_text bytes fault links spells = fault spells.0

pub no_list : (bytes : List ℕ) (place : ℕ) → IsFault bytes (Grammar place) → SpellsNone bytes
no_list bytes place fault = fault.1

-- an object list is not too large, and no other one
pub list_fits : (bytes objects : List ℕ) → IsObjectList bytes objects → IsTooLarge bytes → ⊥
list_fits bytes objects (within, list) (inl over) = absurd (omega (arith, within, over))
list_fits bytes objects (within, (links, spells, few, is)) (inr (others, other, many)) =
    let same : length links ≡ length others = ap length (one_spelled bytes links others spells other) in
    absurd (omega (arith, same, few, many))

pub one_list : (bytes a b : List ℕ) → IsObjectList bytes a → IsObjectList bytes b → a ≡ b
one_list bytes a b (within, (links, spells, few, is)) (again, (others, other, fewer, are)) =
    is ∙ ap printing (one_spelled bytes links others spells other) ∙ sym are

-- no bytes spell no links
pub nothing_spelled : SpellsNone []
nothing_spelled [] (text, list) = list
nothing_spelled (link ∷ links) (text, (front, rest, are, first, more)) =
    let whole : length {A = ℕ} [] ≡ length (front ++ rest) = ap length (sym chars-nil ∙ are) in
    let parts = length-append front rest in
    let long = ap length first.chars_are in
    absurd (omega (arith, whole, parts, long))

pub nothing_fits : IsTooLarge [] → ⊥
nothing_fits (inl over) = absurd (omega (arith, over))
nothing_fits (inr (links, spells, many)) = nothing_spelled links spells

pub none_fits : (bytes : List ℕ) → length bytes ≤ 8192 → SpellsNone bytes → IsTooLarge bytes → ⊥
none_fits bytes within none (inl over) = absurd (omega (arith, within, over))
none_fits bytes within none (inr (links, spells, many)) = none links spells
