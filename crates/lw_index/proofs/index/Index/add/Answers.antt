use Rattle.std.proofs.Common.{sym, ap, ◌∙◌, Some, None, rules}
use Rattle.std.specs.Ordering.{is_eq}
use Rattle.std.specs.BTreeMap.Entry.{entry_value, map_with_value}
use Rattle.std.specs.Map.{lookup}
use Rattle.lw_index.proofs.TextLemmas.{on_ok}
use Rattle.lw_index.proofs.IndexLemmas.{each_insert}
use Rattle.lw_index.proofs.IndexCalls.{either_way, has_was, more_has}
use Rattle.lw_index.proofs.EntryLemmas.{start_some, start_more, start_has, start_same, start_refused, put_entries}
use Rattle.lw_index.proofs.index.Index.add.Goals as goal

pub returns-in_err-self-inside-clause-present : goal.returns-in_err-self-inside-clause-present
returns-in_err-self-inside-clause-present g c = λ h.
    absurd (let is = has_was g.K.Ord.cmp c.self.inside.entries.entries c.args.self.now c.args.key c.args.endpoint.now c.self.view_is None c.in_err-self-inside.ensures.absent h in cc)

pub returns-in_err-endpoints-clause-present : goal.returns-in_err-endpoints-clause-present
returns-in_err-endpoints-clause-present g c = λ h.
    absurd (let is = has_was g.K.Ord.cmp c.self.inside.entries.entries c.args.self.now c.args.key c.args.endpoint.now c.self.view_is None
    (sym c.in_ok-self-inside.ensures.value ∙ c.in_err-endpoints.ensures.absent) h in cc)

pub invariant_of-self-2 : goal.invariant_of-self-2
invariant_of-self-2 g c =
    let start = c.in_ok-endpoints.ensures.value in
    put_entries g.K.Ord.cmp _ (map_with_value c.in_ok-self-inside.field-0 c.add.new.self).entries (search rules) (c.in_ok-self-inside.ensures.update.2 c.add.new.self)
    (rw (c.in_ok-self-inside.ensures.update.1 c.add.new.self) (each_insert g.K.Ord.cmp c.args.key c.add.new.self c.self.inside.entries.entries c.self.invariant.1
    (either_way _ _ _ c.add.result c.add.ensures.some c.add.ensures.unchanged (λ some. some)
    (λ kept. λ none. start_some (λ q. is_eq (g.K.Ord.cmp c.args.key q)) c.self.inside.entries.entries _ c.args.endpoint.now c.in_ok-endpoints.endpoints.now
    (sym c.in_ok-self-inside.ensures.value) start c.self.invariant.1 (sym kept ∙ none)))))

pub returns-clause-added : goal.returns-clause-added
returns-clause-added g c =
    let start = c.in_ok-endpoints.ensures.value in
    on_ok _ _ c.add.result
    (λ more. more_has g.K.Ord.cmp c.self.inside.entries.entries c.args.self.now c.args.key c.args.endpoint.now c.self.view_is (entry_value c.in_ok-self-inside.field-0) (sym c.in_ok-self-inside.ensures.value)
    g.met.K.Ord.total _ (Some c.add.new.self)
    (λ q. ap (λ es. lookup (λ k. is_eq (g.K.Ord.cmp q k)) es) (search rules) ∙ (c.in_ok-self-inside.ensures.update.0 c.add.new.self).0 q)
    (start_more _ c.args.endpoint.now c.in_ok-endpoints.endpoints.now c.add.new.self start more))
    c.add.ensures.members

pub returns-clause-present : goal.returns-clause-present
returns-clause-present g c = λ h.
    let start = c.in_ok-endpoints.ensures.value in
    let was = has_was g.K.Ord.cmp c.self.inside.entries.entries c.args.self.now c.args.key c.args.endpoint.now c.self.view_is (entry_value c.in_ok-self-inside.field-0) (sym c.in_ok-self-inside.ensures.value) h in
    let kept = c.add.ensures.present (start_has _ c.args.endpoint.now c.in_ok-endpoints.endpoints.now start was) in (
      kept.0,
      start_same g.K.Ord.cmp g.met.K.Ord.total c.self.inside.entries.entries _ c.args.self.now c.args.key c.args.endpoint.now c.in_ok-endpoints.endpoints.now c.add.new.self c.self.view_is c.self.invariant.0
          ((search rules) ∙ c.in_ok-self-inside.ensures.update.1 c.add.new.self) _ (sym c.in_ok-self-inside.ensures.value) start was kept.1,
    )

pub returns-clause-unchanged : goal.returns-clause-unchanged
returns-clause-unchanged g c =
    let start = c.in_ok-endpoints.ensures.value in
    start_refused g.K.Ord.cmp g.met.K.Ord.total c.self.inside.entries.entries _ c.args.self.now c.args.key c.args.endpoint.now c.in_ok-endpoints.endpoints.now c.add.new.self c.self.view_is c.self.invariant.0
    ((search rules) ∙ c.in_ok-self-inside.ensures.update.1 c.add.new.self) _ c.add.result (sym c.in_ok-self-inside.ensures.value) start c.add.ensures.present c.add.ensures.unchanged
