use Rattle.std.proofs.Common.{◌≡◌, ◌++◌, ◌∷◌, [], ◌∙◌, Some, None, refl, sym, ap, subst, map, length, arith}
use Rattle.std.proofs.lemmas.List.{map-append, length-append}
use Rattle.lw_table.specs.Changes.{Moved, upto_of}
use Rattle.lw_table.specs.declared.since.Moved.{Moved as Given}
use Rattle.lw_table.specs.inner.Changes.{AreNext, IsNextChange}
use Rattle.lw_table.proofs.ChangeLemmas.{next_more, upto_more}
use Rattle.lw_table.proofs.table.Table.changes.Goals as goal

abbrev told : Given → Moved
told x = (x.number, (x.endpoint.now, x.slot.now))

pub loop-init : goal.loop-init
loop-init c = rw c.new-page.ensures.items (record { next = tt; upto = refl; counted = refl; within = omega arith })

pub loop-preserved : goal.loop-preserved
loop-preserved c =
    let state = c.args.self.now.state in
    let count = c.args.self.now.count in
    let inv = c.loop.invariant in
    let old = c.loop.page.items in
    let change = c.in-Some.moved in
    let more : map told c.push.new.self.items ≡ map told old ++ told change ∷ [] = ap (map told) c.in_ok-push.ensures.items ∙ map-append told old (change ∷ []) in
    record {
      next = subst (AreNext state count c.args.since) (sym more) (next_more state count c.args.since (map told old) (told change) inv.next (subst (λ u. IsNextChange state count u (Some (told change))) (sym inv.upto) c.in-Some.ensures));
      upto = ap (upto_of c.args.since) more ∙ upto_more state count c.args.since (map told old) (told change);
      counted = let longer = ap length c.in_ok-push.ensures.items ∙ length-append old (change ∷ []) in let was = inv.counted in omega (arith, longer, was);
      within = omega arith;
    }

pub returns-in_default-clause-next : goal.returns-in_default-clause-next
returns-in_default-clause-next c = c.loop.invariant.next

pub returns-in_default-clause-within : goal.returns-in_default-clause-within
returns-in_default-clause-within c = let was = c.loop.invariant.counted in omega (arith, was)

pub returns-in_default-clause-whole : goal.returns-in_default-clause-whole
returns-in_default-clause-whole c = λ less. subst (λ u. IsNextChange c.args.self.now.state c.args.self.now.count u None) (sym c.loop.invariant.upto) c.in_default.ensures
