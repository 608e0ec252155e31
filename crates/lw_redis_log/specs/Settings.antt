-- What a server tells of itself (Redis commands: INFO, sections memory, persistence and replication).
use Rattle.std.specs.Prelude.{◌≡◌, ℕ, List, ◌++◌, codes}
use Rattle.lw_resp.specs.Bytes.{crlf}

-- the part stands somewhere in the text
abbrev pub Tells : List ℕ → List ℕ → Type 0
Tells part text = (before after : List ℕ) × (text ≡ before ++ (part ++ after))

-- the flag of the append-only file, which is off, on a line behind the end of another
abbrev pub file_line : List ℕ
file_line = crlf ++ (codes "aof_enabled:0" ++ crlf)

-- the role of a replica, on such a line
abbrev pub replica_line : List ℕ
replica_line = crlf ++ (codes "role:slave" ++ crlf)

-- the beginning of such a line, of the policy by which any key may go where the memory is full
abbrev pub eviction_line : List ℕ
eviction_line = crlf ++ codes "maxmemory_policy:allkeys-"

-- the text tells that there is no such file
abbrev pub TellsOfNoFile : List ℕ → Type 0
TellsOfNoFile text = Tells file_line text

-- it tells that the server is a replica
abbrev pub TellsOfReplica : List ℕ → Type 0
TellsOfReplica text = Tells replica_line text

-- it tells of such a policy
abbrev pub TellsOfEviction : List ℕ → Type 0
TellsOfEviction text = Tells eviction_line text
