use Rattle.std.proofs.Common.{◌∙◌, sym, ap, arith}
use Rattle.std.specs.Fmt.{decimal}
use Rattle.std.proofs.lemmas.Bool.{iff_false}
use Rattle.lw_resp.proofs.NumberLemmas.{no_text, parsed, same_value}
use Rattle.lw_resp.proofs.numbers.number.Goals as goal

pub returns-in_default-clause-none : goal.returns-in_default-clause-none
returns-in_default-clause-none c = no_text c.args.most c.args.digits.now (omega arith) c.in_default.ensures.cases.0

pub returns-in_default-parse-clause-none : goal.returns-in_default-parse-clause-none
returns-in_default-parse-clause-none c = λ n le e.
    c.in_default-parse.not-Ok n (parsed c.args.most c.args.digits.now c.in-Ok.text.now c.parse.result (omega arith) c.in-Ok.ensures.cases.0 c.parse.ensures.value.0 n le e)

pub returns-then-number-most-clause-none : goal.returns-then-number-most-clause-none
returns-then-number-most-clause-none c = λ n le e.
    let again = parsed c.args.most c.args.digits.now c.in-Ok.text.now c.parse.result (omega arith) c.in-Ok.ensures.cases.0 c.parse.ensures.value.0 n le e in
    let same = same_value c.parse.result c.in-Ok-parse.number n c.in-Ok-parse.is again in
    omega (arith, same, le)

pub returns-then-not-prints-clause-none : goal.returns-then-not-prints-clause-none
returns-then-not-prints-clause-none c = λ n le e.
    let again = parsed c.args.most c.args.digits.now c.in-Ok.text.now c.parse.result (omega arith) c.in-Ok.ensures.cases.0 c.parse.ensures.value.0 n le e in
    let same = same_value c.parse.result c.in-Ok-parse.number n c.in-Ok-parse.is again in
    iff_false c.prints.ensures c.if-not-prints.true (e ∙ ap decimal (sym same))
