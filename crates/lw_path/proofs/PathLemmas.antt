-- What is no path.
use Rattle.std.proofs.Common.{◌≢◌, ℕ, List, [], ◌∷◌, Option, Some, None, arith}
use Rattle.std.specs.Prelude.{IfNone}
use Rattle.lw_reg.specs.declared.path.Path.{Path}
use Rattle.lw_reg.specs.Path.{path_numbers}
use Rattle.lw_reg.specs.PathNumbers.{IsPathNumbers}
use Rattle.lw_path.specs.PathText.{IsStep, IsSteps, IsPath}

no_steps : (text : List ℕ)
    → ((a : ℕ) → ¬ IsStep a text)
    → ((a b : ℕ) → ¬ IsSteps (a ∷ b ∷ []) text)
    → ((a b c : ℕ) → ¬ IsSteps (a ∷ b ∷ c ∷ []) text)
    → ((a b c d : ℕ) → ¬ IsSteps (a ∷ b ∷ c ∷ d ∷ []) text)
    → (ns : List ℕ) → IsPathNumbers ns → ¬ IsSteps ns text
no_steps text one two three four [] is s = s
no_steps text one two three four (a ∷ []) is s = one a s
no_steps text one two three four (a ∷ b ∷ []) is s = two a b s
no_steps text one two three four (a ∷ b ∷ c ∷ []) is s = three a b c s
no_steps text one two three four (a ∷ b ∷ c ∷ d ∷ []) is s = four a b c d s
no_steps text one two three four (a ∷ b ∷ c ∷ d ∷ e ∷ ns) is s = omega (arith, is.most)

-- no numbers of a path with slashes between them, however many
pub steps_none : {T : Type 0} (text : List ℕ) (r : Option T)
    → ((a : ℕ) → ¬ IsStep a text)
    → ((a b : ℕ) → ¬ IsSteps (a ∷ b ∷ []) text)
    → ((a b c : ℕ) → ¬ IsSteps (a ∷ b ∷ c ∷ []) text)
    → ((a b c d : ℕ) → ¬ IsSteps (a ∷ b ∷ c ∷ d ∷ []) text)
    → IfNone r ((p : Path) → ¬ IsSteps (path_numbers p) text)
steps_none text (Some x) one two three four = tt
steps_none text None one two three four = λ p s. no_steps text one two three four (path_numbers p) p.kept.front s

-- no slash at its front
pub path_none : {T : Type 0} (text : List ℕ) (r : Option T) → ((rest : List ℕ) → text ≢ 47 ∷ rest) → IfNone r ((p : Path) → ¬ IsPath p text)
path_none text (Some x) h = tt
path_none text None h = λ p is. h is.rest is.slash
