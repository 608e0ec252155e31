use Rattle.std.proofs.Common.{◌≡◌, ◌≤◌, ◌∙◌, length, refl, sym, subst}
use Rattle.std.proofs.lemmas.Option.{slice_get_read}
use Rattle.lw_serve.proofs.Keeping.{one_kept, shelf_number}
use Rattle.lw_serve.proofs.cutting.is_cut.Goals as goal
use Rattle.lw_serve.specs.inner.Volumes.{AreOfNodes}

pub returns-then-node-number : goal.returns-then-node-number
returns-then-node-number g c =
    let count = length c.args.shelves.now in
    let kept = subst (AreOfNodes count) (sym c.make_room.ensures.kept) c.requires.kept in
    let shelf = slice_get_read _ _ _ _ refl c.requires.within c.index-shelves-place.is in
    let own : c.in-Ok-Some.volume.opening.number ≡ c.index-shelves-place.result.number = sym c.node.ensures ∙ c.if-node-number.true ∙ c.number.ensures in
    one_kept count (g.S.VolumeSink.kept c.make_room.new.self) (g.S.VolumeSink.kept c.keep.new.self) c.in-Ok-Some.volume kept c.keep.ensures
    (subst (λ n. (1 ≤ n) × (n ≤ count)) (sym own) (shelf_number c.args.shelves.now c.args.place c.index-shelves-place.result c.requires.in_order shelf))

pub returns-else-node-number : goal.returns-else-node-number
returns-else-node-number g c = subst (AreOfNodes (length c.args.shelves.now)) (sym c.make_room.ensures.kept) c.requires.kept
