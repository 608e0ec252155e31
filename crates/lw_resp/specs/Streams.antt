-- Entries of a stream, as a reply has them (Redis streams: `XRANGE`).
use Rattle.std.specs.Prelude.{◌≡◌, ◌≢◌, ℕ, List, [], ◌∷◌, ◌++◌, length, codes, All, MatchOption, Option}
use Rattle.std.specs.Borrow.{Bor}
use Rattle.lw_resp.specs.Bytes.{count_line, bulk_bytes, command_bytes}
use Rattle.lw_resp.specs.Words.{IsBulk, IsNumber}
use Rattle.lw_resp.specs.declared.entries.Entry.{Entry}

-- its identifier, and its fields and their values in turn
pub record EntryContent : Type 0 where
  pub id : List ℕ
  pub fields : List (List ℕ)

-- the identifier, and the array of the fields and their values
abbrev pub pair_bytes : EntryContent → List ℕ
pair_bytes e = bulk_bytes e.id ++ command_bytes e.fields

-- an array of these two
abbrev pub entry_bytes : EntryContent → List ℕ
entry_bytes e = count_line 42 2 ++ pair_bytes e

-- what an array can have
pub record IsArrayOf {A : Type 0} (Is : A → Type 0) (values : List A) : Type 0 where
  pub each : All Is values
  pub number : IsNumber (length values)

pub record IsEntry (e : EntryContent) : Type 0 where
  pub id : IsBulk e.id
  pub fields : IsArrayOf IsBulk e.fields

-- the value of the one field `e`, or none where there are other fields
abbrev pub IsValueOf : List (List ℕ) → Option (Bor (List ℕ)) → Type 0
IsValueOf fields value =
    MatchOption value ((v : List ℕ) → fields ≢ codes "e" ∷ v ∷ []) (λ v. fields ≡ codes "e" ∷ v.now ∷ [])

-- what the library's entry is
pub record IsEntryOf (e : EntryContent) (entry : Entry) : Type 0 where
  pub id : entry.id.now ≡ e.id
  pub value : IsValueOf e.fields entry.value
