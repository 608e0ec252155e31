use Rattle.std.proofs.Common.{length, sym, ap, ◌∙◌, arith}
use Rattle.lw_route.proofs.PathLemmas.{cut_at_last, no_last, one_last, is_some, is_none}
use Rattle.lw_route.proofs.resource.last_segment.Goals as goal

pub returns-in_err-upper-clause-only : goal.returns-in_err-upper-clause-only
returns-in_err-upper-clause-only c = λ upper segment is. absurd (no_last c.args.path.now c.in_err-upper.ensures.cases upper segment is)

pub returns-then-is_empty-clause-only : goal.returns-then-is_empty-clause-only
returns-then-is_empty-clause-only c = λ upper segment is.
    let h = c.in_ok-upper.ensures.cases in
    let cut = cut_at_last c.args.path.now c.in_ok-upper.upper.now c.in_ok-upper.segment.now h.0 h.1 h.2 h.3 h.4 in
    let one = one_last c.in_ok-upper.upper.now upper c.in_ok-upper.segment.now segment (sym cut.0 ∙ is.path_is) cut.1 is.one in
    omega (arith, ap length one.1, is.some, is_none c.in_ok-upper.segment.now _ c.is_empty.ensures c.if-is_empty.true)

pub returns-clause-found : goal.returns-clause-found
returns-clause-found c =
    let h = c.in_ok-upper.ensures.cases in
    let cut = cut_at_last c.args.path.now c.in_ok-upper.upper.now c.in_ok-upper.segment.now h.0 h.1 h.2 h.3 h.4 in
    record { path_is = cut.0; some = is_some c.in_ok-upper.segment.now _ c.is_empty.ensures c.if-is_empty.false; one = cut.1 }

pub returns-clause-only : goal.returns-clause-only
returns-clause-only c = λ upper segment is.
    let h = c.in_ok-upper.ensures.cases in
    let cut = cut_at_last c.args.path.now c.in_ok-upper.upper.now c.in_ok-upper.segment.now h.0 h.1 h.2 h.3 h.4 in
    one_last c.in_ok-upper.upper.now upper c.in_ok-upper.segment.now segment (sym cut.0 ∙ is.path_is) cut.1 is.one
