use Rattle.std.proofs.Common.{sym, subst}
use Rattle.std.proofs.lemmas.Bool.{false≢true}
use Rattle.lw_reg.specs.Attribute.{AreAttributes}
use Rattle.lw_request.specs.Options.{values_of}
use Rattle.lw_request.specs.inner.Queries.{GivesAttribute}
use Rattle.lw_request.proofs.AttributeLemmas.{some_entry, are_attributes}
use Rattle.lw_request.proofs.QueryLemmas.{on_err}
use Rattle.lw_request.proofs.Recognised.{recognised_short}
use Rattle.lw_request.proofs.attributes.attributes_of.Goals as goal

pub returns-in_err-pairs-clause-err : goal.returns-in_err-pairs-clause-err
returns-in_err-pairs-clause-err c =
    let queries = values_of 15 c.args.options.now in
    on_err (GivesAttribute queries) c.from_residual-in_err-pairs.result (some_entry queries c.in_ok-gather.field-0.entries c.in_ok-gather.ensures.ok c.in_err-pairs.ensures.err)

pub unreachable-requires : goal.unreachable-requires
unreachable-requires c =
    let queries = values_of 15 c.args.options.now in
    let are = are_attributes queries c.in_ok-gather.field-0.entries (recognised_short c.args.options.now c.requires.recognised) c.in_ok-gather.ensures.ok in
    absurd (false≢true (c.in-None.ensures.accepted.1 (subst AreAttributes (sym c.in_ok-pairs.ensures.ok) are)))
