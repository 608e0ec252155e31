use Rattle.std.proofs.Common.{inl, inr, refl}
use Rattle.lw_log.specs.Entries.{content_of}
use Rattle.lw_replica.proofs.Beginnings.{snapshot_of, first_of_log}
use Rattle.lw_replica.proofs.looking.FirstLook.is_beginning.Goals as goal

pub returns-then-is_snapshot : goal.returns-then-is_snapshot
returns-then-is_snapshot c = λ t. inl (snapshot_of _ (content_of c.in-Ok.entry) c.in-Ok.ensures.found (c.if-is_snapshot.ensures.0 refl))

pub returns : goal.returns
returns c = λ t. inr (c.if-self.false, first_of_log _ (content_of c.in-Ok.entry) c.in-Ok.ensures.found (c.begins_log.ensures.0 t))
