-- What a run writes.
use Rattle.std.specs.Prelude.{◌≡◌, ◌≢◌, ◌++◌, ℕ, List, [], ◌∷◌, codes, Option}
use Rattle.std.specs.Io.KnownBytes.{Appends, Keeps}
use Rattle.lw_serve.specs.declared.fault.ServeFault.{ServeFault}
use Rattle.lw_serve.specs.declared.fault.ServeFault.TheVariants.{WriteFailed}

-- the line of a run whose journals are what its passes say
abbrev pub settled_line : List ℕ
settled_line = codes "settled" ++ 10 ∷ []

-- some front of the text is appended, where the writer failed behind it
abbrev pub AppendsFront : Option (List ℕ) → Option (List ℕ) → List ℕ → Type 0
AppendsFront before after text = (front : List ℕ) × (back : List ℕ) × (text ≡ front ++ back) × Appends before after front

-- a run that ends at a fault has written nothing, or a front of the line where the writer failed
pub record IsStopped (fault : ServeFault) (before after : Option (List ℕ)) : Type 0 where
  pub front : fault ≡ WriteFailed → AppendsFront before after settled_line
  pub nothing : fault ≢ WriteFailed → Keeps before after
