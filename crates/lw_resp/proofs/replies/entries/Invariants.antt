use Rattle.std.proofs.Common.{List}
use Rattle.std.specs.List.{flat_map, AllZip}
use Rattle.lw_resp.specs.Reading.{Begins}
use Rattle.lw_resp.specs.Streams.{EntryContent, IsEntry, IsEntryOf, entry_bytes}
use Rattle.lw_resp.specs.inner.Parts.{AreMany}
use Rattle.lw_resp.proofs.replies.entries.Given as goal

abbrev pub invariant-loop : goal.invariant-loop
invariant-loop l =
    (contents : List EntryContent) × AllZip IsEntryOf contents l.entries.items × Begins (AreMany IsEntry l.counter) (flat_map entry_bytes) l.bytes contents l.rest
