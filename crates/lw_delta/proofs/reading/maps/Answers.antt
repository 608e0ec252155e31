use Rattle.std.proofs.Common.{ℕ, List, sym, ap, ◌∙◌}
use Rattle.lw_join.specs.declared.last.Last.{Last}
use Rattle.lw_join.specs.Parts.{made}
use Rattle.lw_reg.specs.Body.{AttributeMap}
use Rattle.lw_delta.proofs.FieldParts.{behind_at}
use Rattle.lw_delta.proofs.Parts.{when_is}
use Rattle.lw_delta.proofs.reading.maps.Goals as goal

pub attributes-requires : goal.attributes-requires
attributes-requires c =
    let at = behind_at c.args.form c.args.clock _ _ _ c.requires.1.found in
    (at.there, at.behind_attributes, when_is _ (sym c.has_attributes-present.ensures) at.attributes)

pub parts-requires : goal.parts-requires
parts-requires c = (c.requires.0.watches, c.requires.1.rest, c.requires.1.watches)

pub returns-clause-value : goal.returns-clause-value
returns-clause-value c = λ more t.
    let at = behind_at c.args.form c.args.clock _ more _ t.found in
    let e = c.in_ok-attributes.ensures.value at.there at.behind_attributes (when_is _ (sym c.has_attributes-present.ensures) at.attributes) in
    let left = e ∙ ap (λ (es : List (List ℕ × Last (List ℕ))). let m : AttributeMap = made es in m) (sym at.same) in
    let right = c.in_ok-watches.ensures.value more.watches t.rest t.watches in
    λ i. record { left = left i; right = right i }
