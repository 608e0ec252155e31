use Rattle.std.proofs.Common.{ℕ, List}
use Rattle.std.specs.List.{flat_map}
use Rattle.lw_resp.specs.Bytes.{bulk_bytes}
use Rattle.lw_resp.specs.Reading.{Begins}
use Rattle.lw_resp.specs.Words.{IsBulk}
use Rattle.lw_resp.specs.inner.Parts.{AreMany}
use Rattle.lw_resp.proofs.bulks.behind_bulks.Given as goal

abbrev pub invariant-loop : goal.invariant-loop
invariant-loop l = (contents : List (List ℕ)) × Begins (AreMany IsBulk l.counter) (flat_map bulk_bytes) l.bytes contents l.rest
