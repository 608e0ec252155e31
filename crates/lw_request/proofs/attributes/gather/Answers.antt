use Rattle.std.proofs.Common.{ℕ, List, ◌++◌, ap, subst, ◌∙◌}
use Rattle.lw_request.specs.Options.{values_of}
use Rattle.lw_request.specs.inner.Queries.{GivesAttribute}
use Rattle.lw_request.proofs.AttributeLemmas.{AreGathered, queries_next, gives_all}
use Rattle.lw_request.proofs.QueryLemmas.{on_err}
use Rattle.lw_request.proofs.attributes.gather.Goals as goal

pub returns-in_err-put_query-clause-err : goal.returns-in_err-put_query-clause-err
returns-in_err-put_query-clause-err c =
    let all = values_of 15 c.args.options.now in
    let rest = values_of 15 c.next.new.self in
    let entries = c.loop-option.gathered.entries in
    let left = ap (values_of 15) c.in-Some.ensures.some ∙ queries_next c.in-Some.option c.next.new.self ∙ ap (λ (queries : List (List ℕ)). queries ++ rest) c.in-Some-query_in.ensures.some in
    on_err (GivesAttribute all) c.from_residual.result
    (gives_all all rest c.in-Some-query_in.query.now entries (subst (λ (queries : List (List ℕ)). AreGathered all queries entries) left c.loop-option.invariant) c.in_err-put_query.ensures.err)
