-- Fields of which one is written, or none.
use Rattle.std.specs.Prelude.{ℕ, List, Some, None}
use Rattle.lw_stamp.specs.declared.stamp.Stamp.{Stamp}
use Rattle.lw_reg.specs.declared.fields.FieldWrites.{FieldWrites}
use Rattle.lw_reg.specs.declared.fields.Fields.{Fields}
use Rattle.lw_reg.specs.declared.path.Path.{Path}
use Rattle.lw_reg.specs.Body.{Watching, no_watches, one_watch, no_attributes}

-- no field is written
abbrev pub no_writes : FieldWrites (List ℕ) (List ℕ)
no_writes = record { base = None; address = None; seen = None; lifetime = None; binding = None; sms = None; objects = None }

-- the watch of a path alone
abbrev pub watched_fields : Path → Watching → Fields
watched_fields path watching = record {
  writes = no_writes;
  attributes = no_attributes;
  ended = None;
  watches = one_watch path watching;
}

-- the end alone
abbrev pub ended_fields : Stamp → Fields
ended_fields upto = record {
  writes = no_writes;
  attributes = no_attributes;
  ended = Some upto;
  watches = no_watches;
}
