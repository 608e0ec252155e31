use Rattle.std.proofs.Common.{◌≡◌, ◌≤◌, length, map}
use Rattle.lw_table.specs.Changes.{upto_of}
use Rattle.lw_table.specs.inner.Changes.{AreNext}
use Rattle.lw_table.proofs.table.Table.changes.Given as goal

-- each was the next after the one before
abbrev pub invariant-loop : goal.invariant-loop
invariant-loop l = record {
  next : AreNext l.self.state l.self.count l.fn.since (map (λ x. (x.number, (x.endpoint.now, x.slot.now))) l.page.items);
  upto : upto_of l.fn.since (map (λ x. (x.number, (x.endpoint.now, x.slot.now))) l.page.items) ≡ l.upto;
  counted : length l.page.items ≡ l.counter;
  within : l.counter ≤ l.fn.limit;
}
