-- What a process has asked of its log, in order.
use Rattle.std.specs.Prelude.{◌≡◌, ℕ, List, [], ◌∷◌, ◌++◌, map, Option, Some, None, Result, Ok, Err}
use Rattle.lw_log.specs.declared.log_fault.LogFault.{LogFault}
use Rattle.lw_log.specs.declared.log_fault.LogFault.TheVariants.{NoMemory}
use Rattle.lw_log.specs.declared.position.Position.{Position}

-- an entry's bytes, and the position that they stand at
abbrev pub Placed : Type 0
Placed = (ℕ × ℕ) × List ℕ

pub data LogCall : Type 0 where
  Read : Option (ℕ × ℕ) → List Placed → LogCall  -- the first entries above a position
  Wrote : Placed → LogCall  -- an entry, whose append returned with this position
  Tried : List ℕ → LogCall  -- one whose append did not: it may be there, or come to be there
  Trimmed : ℕ × ℕ → LogCall  -- the entries at or below a position were to go

-- ---- the library's positions and entries
abbrev pub place : Position → ℕ × ℕ
place p = (p.major, p.minor)

abbrev pub place_of : Option Position → Option (ℕ × ℕ)
place_of None = None
place_of (Some p) = Some (place p)

abbrev pub placed : List (Position × List ℕ) → List Placed
placed es = map (λ e. (place e.0, e.1)) es

-- ---- what a call adds; want of memory has asked nothing
abbrev pub read_calls : Option Position → List (Position × List ℕ) → List LogCall
read_calls after page = Read (place_of after) (placed page) ∷ []

abbrev pub append_calls : List ℕ → Result Position LogFault → List LogCall
append_calls entry (Ok p) = Wrote (place p, entry) ∷ []
append_calls entry (Err NoMemory) = []
append_calls entry (Err fault) = Tried entry ∷ []

abbrev pub trim_calls : Position → Result Unit LogFault → List LogCall
trim_calls upto (Err NoMemory) = []
trim_calls upto result = Trimmed (place upto) ∷ []

-- known calls grow by these; what is not known stays so
abbrev pub Calls : Option (List LogCall) → Option (List LogCall) → List LogCall → Type 0
Calls None new more = new ≡ None
Calls (Some calls) new more = new ≡ Some (calls ++ more)
