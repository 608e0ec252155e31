use Rattle.std.proofs.Common.{rules, sym, refl, Some, None}
use Rattle.std.specs.Ordering.{is_eq}
use Rattle.lw_index.proofs.IndexLemmas.{each_found, each_remove, each_set}
use Rattle.lw_index.proofs.IndexCalls.{has_not, has_one, less_has, none_of_one, none_update, same_has, twice}
use Rattle.lw_index.proofs.index.Index.drop_one.Goals as goal

pub returns-in_default-clause-dropped : goal.returns-in_default-clause-dropped
returns-in_default-clause-dropped g c =
    less_has g.K.Ord.cmp c.self.inside.entries.entries c.args.self.now c.args.key.now c.args.endpoint.now c.self.view_is None (sym c.in_default.ensures.value)
    g.met.K.Ord.total c.get_mut.follows.lender-at-none.entries None
    (λ q. rw c.get_mut.follows.holds-at-none (none_update g.K.Ord.cmp g.met.K.Ord.total c.self.inside.entries.entries c.args.key.now (sym c.in_default.ensures.value) q))
    (λ e. refl)

pub invariant_of-self-then-is_only : goal.invariant_of-self-then-is_only
invariant_of-self-then-is_only g c = (
  c.remove.ensures.ordered,
  rw (c.remove.ensures.entries, (c.get_mut.follows.holds c.in-Some.endpoints.now).0) (each_remove (λ q. is_eq (g.K.Ord.cmp c.args.key.now q)) _
      (each_set (λ q. is_eq (g.K.Ord.cmp c.args.key.now q)) c.in-Some.endpoints.now c.self.inside.entries.entries c.self.invariant.1
      (each_found (λ q. is_eq (g.K.Ord.cmp c.args.key.now q)) c.in-Some.endpoints.now c.self.inside.entries.entries (sym c.in-Some.ensures.value) c.self.invariant.1))),
)

pub returns-then-is_only-clause-dropped : goal.returns-then-is_only-clause-dropped
returns-then-is_only-clause-dropped g c =
    less_has g.K.Ord.cmp c.self.inside.entries.entries c.args.self.now c.args.key.now c.args.endpoint.now c.self.view_is (Some c.in-Some.endpoints.now) (sym c.in-Some.ensures.value)
    g.met.K.Ord.total c.remove.new.self.entries None
    (λ q. twice (is_eq (g.K.Ord.cmp c.args.key.now q)) _ _ _ _ _ (c.remove.ensures.updates.0 q) (((c.get_mut.follows.holds c.in-Some.endpoints.now).3 (search rules)).0 q))
    (none_of_one c.in-Some.endpoints.now c.args.endpoint.now (c.is_only.ensures.0 c.if-is_only.true))

pub returns-then-is_only-clause-absent : goal.returns-then-is_only-clause-absent
returns-then-is_only-clause-absent g c = λ h.
    let not_there = has_not g.K.Ord.cmp c.self.inside.entries.entries c.args.self.now c.args.key.now c.args.endpoint.now c.self.view_is (Some c.in-Some.endpoints.now) (sym c.in-Some.ensures.value) h in
    let there = has_one c.in-Some.endpoints.now c.args.endpoint.now (c.is_only.ensures.0 c.if-is_only.true) in
    absurd cc

pub invariant_of-self-2 : goal.invariant_of-self-2
invariant_of-self-2 g c = (
  (c.get_mut.follows.holds c.remove-2.new.self).4,
  rw (c.get_mut.follows.holds c.remove-2.new.self).0 (each_set (λ q. is_eq (g.K.Ord.cmp c.args.key.now q)) c.remove-2.new.self c.self.inside.entries.entries c.self.invariant.1
      (c.remove-2.ensures.some (each_found (λ q. is_eq (g.K.Ord.cmp c.args.key.now q)) c.in-Some.endpoints.now c.self.inside.entries.entries (sym c.in-Some.ensures.value) c.self.invariant.1))),
)

pub returns-clause-dropped : goal.returns-clause-dropped
returns-clause-dropped g c =
    less_has g.K.Ord.cmp c.self.inside.entries.entries c.args.self.now c.args.key.now c.args.endpoint.now c.self.view_is (Some c.in-Some.endpoints.now) (sym c.in-Some.ensures.value)
    g.met.K.Ord.total (c.get_mut.follows.lender c.remove-2.new.self).entries (Some c.remove-2.new.self)
    (λ q. ((c.get_mut.follows.holds c.remove-2.new.self).3 (search rules)).0 q)
    c.remove-2.ensures.members

pub returns-clause-absent : goal.returns-clause-absent
returns-clause-absent g c = λ h.
    let not_there = has_not g.K.Ord.cmp c.self.inside.entries.entries c.args.self.now c.args.key.now c.args.endpoint.now c.self.view_is (Some c.in-Some.endpoints.now) (sym c.in-Some.ensures.value) h in
    same_has g.K.Ord.cmp c.self.inside.entries.entries (c.get_mut.follows.lender c.remove-2.new.self).entries c.args.self.now c.args.key.now c.in-Some.endpoints.now c.remove-2.new.self c.self.view_is
    (sym c.in-Some.ensures.value) (c.get_mut.follows.holds c.remove-2.new.self).0 (c.remove-2.ensures.absent not_there)
