use Rattle.std.proofs.Common.{◌≡◌, ℕ, List, Result, Ok, Err, OnOk, OnErr, subst, ◌∙◌, sym, ap, rules}
use Rattle.lw_stamp.specs.TextOrder.{text_cmp}
use Rattle.lw_join.specs.Last.{last_join}
use Rattle.lw_join.specs.declared.last.Last.{Last}
use Rattle.lw_join.specs.declared.or_gone.OrGone.TheVariants.{Here}
use Rattle.lw_join.proofs.Each.{each_parts_join, last_keeps}
use Rattle.lw_reg.specs.declared.body.Body.{Body}
use Rattle.lw_reg.specs.Attribute.{IsAttribute}
use Rattle.lw_reg.specs.Body.{body_join}
use Rattle.lw_reg.specs.inner.Repr.{told_in}
use Rattle.lw_reg.specs.OrderLaws.{text_order}
use Rattle.lw_reg.specs.BodyOrGone.{KeepsAttributes}
use Rattle.lw_reg.proofs.NothingLemmas.{joined_to_nothing}
use Rattle.lw_reg.proofs.told.Told.join_body.Goals as goal

pub returns-in-Nothing-clause-ok : goal.returns-in-Nothing-clause-ok
returns-in-Nothing-clause-ok c = joined_to_nothing c.args.self.now c.args.other.value (sym c.self.view_is ∙ ap told_in c.in-Nothing.is)

pub returns-in-Removed-clause-ok : goal.returns-in-Removed-clause-ok
returns-in-Removed-clause-ok c = search rules

-- a join of attributes has the names and the values of the two
join_keeps : (x y : Body) → KeepsAttributes (Here x) → KeepsAttributes (Here y) → KeepsAttributes (Here (body_join x y))
join_keeps x y left right =
    each_parts_join text_order (λ (w : List ℕ × Last (List ℕ)). IsAttribute w.0 w.1.write.1) (last_join text_cmp)
    (λ name. last_keeps text_cmp (λ (l : Last (List ℕ)). IsAttribute name l.write.1))
    x.maps.left y.maps.left left right

keeps_after : {A B : Type 0} (r : Result A B) (x y z : Body) → KeepsAttributes (Here x) → KeepsAttributes (Here y) → OnOk r (z ≡ body_join x y) → OnErr r (z ≡ x) → KeepsAttributes (Here z)
keeps_after (Ok a) x y z left right ok err = subst (λ b. KeepsAttributes (Here b)) (sym ok) (join_keeps x y left right)
keeps_after (Err b) x y z left right ok err = subst (λ b. KeepsAttributes (Here b)) (sym err) left

pub invariant_of-self-in-Known : goal.invariant_of-self-in-Known
invariant_of-self-in-Known c =
    keeps_after c.join_with.result c.deref_mut.result.now c.into_inner.result c.join_with.new.self
    (subst (λ b. KeepsAttributes (Here b)) (sym c.deref_mut.ensures.value) (subst (λ k. KeepsAttributes (told_in k)) c.in-Known.is c.self.invariant))
    (subst (λ b. KeepsAttributes (Here b)) (sym c.into_inner.ensures) c.requires)
    c.join_with.ensures.ok c.join_with.ensures.err
