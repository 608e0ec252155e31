use Rattle.std.proofs.Common.{Some, None, arith, refl, sym, subst, inr}
use Rattle.std.proofs.lemmas.Option.{IfSome_then}
use Rattle.std.proofs.lemmas.Str.Pattern.{strip_prefix_char, strip_suffix_char}
use Rattle.lw_fleet.specs.CommandLine.{IsHostText}
use Rattle.lw_fleet.proofs.RedisLemmas.{has_sign, host_between, if_none, if_none_then, no_host_alone, no_host_between, no_host_colon, no_host_open}
use Rattle.lw_fleet.proofs.redis_options.host_in.Goals as goal

pub returns-in_err-strip_suffix-in-Some-clause-none : goal.returns-in_err-strip_suffix-in-Some-clause-none
returns-in_err-strip_suffix-in-Some-clause-none c =
    if_none c.from_residual.result _
    (no_host_open c.args.text.now c.in-Some.rest.now (strip_prefix_char 91 c.args.text.now (Some c.in-Some.rest) c.in-Some.ensures.cases (omega arith))
    (strip_suffix_char 93 c.in-Some.rest.now None c.in_err-strip_suffix-in-Some.ensures.cases (omega arith)))

pub returns-in_ok-strip_suffix-in-Some-clause-some : goal.returns-in_ok-strip_suffix-in-Some-clause-some
returns-in_ok-strip_suffix-in-Some-clause-some c =
    let inner = c.in_ok-strip_suffix-in-Some.field-0 in
    let opens = strip_prefix_char 91 c.args.text.now (Some c.in-Some.rest) c.in-Some.ensures.cases (omega arith) in
    let ends = strip_suffix_char 93 c.in-Some.rest.now (Some inner) c.in_ok-strip_suffix-in-Some.ensures.cases (omega arith) in
    IfSome_then c.host_alone.result c.host_alone.ensures.some
    (λ host is. subst (IsHostText c.args.text.now) (sym is.0) (host_between c.args.text.now c.in-Some.rest.now inner.now opens ends is.1))

pub returns-in_ok-strip_suffix-in-Some-clause-none : goal.returns-in_ok-strip_suffix-in-Some-clause-none
returns-in_ok-strip_suffix-in-Some-clause-none c =
    let inner = c.in_ok-strip_suffix-in-Some.field-0 in
    let opens = strip_prefix_char 91 c.args.text.now (Some c.in-Some.rest) c.in-Some.ensures.cases (omega arith) in
    let ends = strip_suffix_char 93 c.in-Some.rest.now (Some inner) c.in_ok-strip_suffix-in-Some.ensures.cases (omega arith) in
    if_none_then c.host_alone.result _ _ c.host_alone.ensures.none
    (no_host_between c.args.text.now c.in-Some.rest.now inner.now opens ends)

pub returns-in-None-clause-none : goal.returns-in-None-clause-none
returns-in-None-clause-none c =
    no_host_colon c.args.text.now (strip_prefix_char 91 c.args.text.now None c.in-None.ensures.cases (omega arith))
    ((has_sign 58 _ _ c.contains.ensures.cases (omega arith)).0 c.if-contains.true)

pub returns-in-None-2-clause-some : goal.returns-in-None-2-clause-some
returns-in-None-2-clause-some c =
    IfSome_then c.host_alone-in-None-2.result c.host_alone-in-None-2.ensures.some
    (λ host is. subst (IsHostText c.args.text.now) (sym is.0)
    (is.1, inr (refl, λ has. let colon = (has_sign 58 _ _ c.contains.ensures.cases (omega arith)).1 has in cc (colon, c.if-contains.false))))

pub returns-in-None-2-clause-none : goal.returns-in-None-2-clause-none
returns-in-None-2-clause-none c =
    if_none_then c.host_alone-in-None-2.result _ _ c.host_alone-in-None-2.ensures.none
    (no_host_alone c.args.text.now (strip_prefix_char 91 c.args.text.now None c.in-None-2.ensures.cases (omega arith)))
