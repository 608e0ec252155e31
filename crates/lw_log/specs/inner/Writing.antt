-- The bytes of an entry up to its kind, and from there on.
use Rattle.std.specs.Prelude.{ℕ, List, [], ◌∷◌}
use Rattle.lw_log.specs.declared.entry.Body.{Body}
use Rattle.lw_log.specs.declared.entry.Entry.{Entry}
use Rattle.lw_log.specs.Entries.{body_content, kind_of, body_bytes, headed}

abbrev pub head_bytes : Entry → List ℕ
head_bytes e = headed e.fleet.bytes e.start.number e.start.tag e.sequence []

abbrev pub tail_bytes : Body → List ℕ
tail_bytes body = kind_of (body_content body) ∷ body_bytes (body_content body)
