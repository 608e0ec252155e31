use Rattle.std.proofs.Common.{◌∙◌, sym, ap}
use Rattle.std.specs.Fmt.{decimal}
use Rattle.std.proofs.lemmas.Bool.{iff_false}
use Rattle.lw_redis_log.proofs.TimeLemmas.{no_text, parsed, same_value}
use Rattle.lw_redis_log.proofs.times.number.Goals as goal

pub returns-in_default-clause-none : goal.returns-in_default-clause-none
returns-in_default-clause-none c = no_text c.args.digits.now c.in_default.ensures.cases.0

pub returns-in_default-parse-clause-none : goal.returns-in_default-parse-clause-none
returns-in_default-parse-clause-none c = λ n lt e.
    c.in_default-parse.not-Ok n (parsed c.args.digits.now c.in-Ok.text.now c.parse.result c.in-Ok.ensures.cases.0 c.parse.ensures.value.0 n lt e)

pub returns-then-not-prints-clause-none : goal.returns-then-not-prints-clause-none
returns-then-not-prints-clause-none c = λ n lt e.
    let again = parsed c.args.digits.now c.in-Ok.text.now c.parse.result c.in-Ok.ensures.cases.0 c.parse.ensures.value.0 n lt e in
    let same = same_value c.parse.result c.in-Ok-parse.number n c.in-Ok-parse.is again in
    iff_false c.prints.ensures c.if-not-prints.true (e ∙ ap decimal (sym same))
