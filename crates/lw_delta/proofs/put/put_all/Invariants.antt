use Rattle.std.proofs.Common.{◌≡◌, ◌++◌, drop}
use Rattle.std.specs.List.{AllByRecursion}
use Rattle.lw_delta.specs.Writing.{Begins, repeated_bytes}
use Rattle.lw_delta.proofs.put.put_all.Given as goal

abbrev pub invariant-loop-value : goal.invariant-loop-value
invariant-loop-value g l = record {
  written : l.out.items ++ repeated_bytes g.T.PutEntry.bytes (drop l.value-index l.values) ≡ l.fn.out.items ++ repeated_bytes g.T.PutEntry.bytes l.values;
  fits : AllByRecursion g.T.PutEntry.fits (drop l.value-index l.values);
  typed : AllByRecursion g.T.PutEntry.typed (drop l.value-index l.values) → AllByRecursion g.T.PutEntry.typed l.values;
  kept : Begins l.fn.out.items l.out.items;
}
