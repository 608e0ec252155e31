use Rattle.std.proofs.Common.{◌≡◌, [], ◌∷◌, true, sym, ap, subst, ◌∙◌}
use Rattle.std.specs.BTreeMap.{insert_entry}
use Rattle.lw_stamp.specs.TextOrder.{text_cmp}
use Rattle.lw_join.specs.Entries.{Rises, get}
use Rattle.lw_reg.specs.Attribute.{is_attribute_name}
use Rattle.lw_request.specs.Queries.{name_of, value_of}
use Rattle.lw_request.specs.inner.Queries.{GivesAttribute}
use Rattle.lw_request.proofs.AttributeLemmas.{gives_own, inserted_rise, inserted_gets}
use Rattle.lw_request.proofs.QueryLemmas.{on_err}
use Rattle.lw_request.proofs.attributes.put_query.Goals as goal

pub returns-in_err-key-clause-err : goal.returns-in_err-key-clause-err
returns-in_err-key-clause-err c =
    let is : is_attribute_name (name_of c.args.query.now) ≡ true = ap is_attribute_name (sym c.split_query.ensures.name) ∙ sym c.is_attribute_name.ensures ∙ c.if-not-is_attribute_name.false in
    on_err (GivesAttribute (c.args.query.now ∷ [])) c.from_residual.result (gives_own c.args.query.now is)

pub returns-clause-rise : goal.returns-clause-rise
returns-clause-rise c =
    let old = c.args.gathered.now.entries in
    let key = c.in_ok-key.ensures ∙ c.split_query.ensures.name in
    let value = c.in_ok-value.ensures ∙ c.split_query.ensures.value in
    let is = c.in_ok-insert.ensures.entries ∙ (λ i. insert_entry text_cmp old (key i) (value i)) in
    subst (Rises text_cmp) (sym is) (inserted_rise (name_of c.args.query.now) (value_of c.args.query.now) old c.requires)

pub returns-clause-each : goal.returns-clause-each
returns-clause-each c = λ name.
    let old = c.args.gathered.now.entries in
    let attribute : is_attribute_name (name_of c.args.query.now) ≡ true = ap is_attribute_name (sym c.split_query.ensures.name) ∙ sym c.is_attribute_name.ensures ∙ c.if-not-is_attribute_name.false in
    let key = c.in_ok-key.ensures ∙ c.split_query.ensures.name in
    let value = c.in_ok-value.ensures ∙ c.split_query.ensures.value in
    let is = c.in_ok-insert.ensures.entries ∙ (λ i. insert_entry text_cmp old (key i) (value i)) in
    ap (λ entries. get text_cmp entries name) is ∙ inserted_gets c.args.query.now name old c.requires attribute
