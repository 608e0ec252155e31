-- What a log in memory was asked.
use Rattle.std.specs.Prelude.{List, map}
use Rattle.lw_log.specs.declared.memory_log.MemoryCall.{MemoryCall}
use Rattle.lw_log.specs.declared.memory_log.MemoryCall.TheVariants.{Read as ReadCall, Wrote as WroteCall, Tried as TriedCall, Trimmed as TrimmedCall}
use Rattle.lw_log.specs.Calls.{LogCall, place, place_of, placed}
use Rattle.lw_log.specs.Calls.LogCall.{Read, Wrote, Tried, Trimmed}

abbrev pub call_of : MemoryCall → LogCall
call_of (ReadCall after page) = Read (place_of after) (placed page.items)
call_of (WroteCall position entry) = Wrote (place position, entry)
call_of (TriedCall entry) = Tried entry
call_of (TrimmedCall upto) = Trimmed (place upto)

abbrev pub calls_of : List MemoryCall → List LogCall
calls_of calls = map call_of calls
