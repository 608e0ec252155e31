use Rattle.std.proofs.Common.{◌≡◌, refl, rules}
use Rattle.std.specs.List.{before_first, after_first}
use Rattle.lw_route.specs.Parameters.{is_equals, HasEquals}
use Rattle.lw_route.proofs.PartLemmas.{gives, part_answered}
use Rattle.lw_route.proofs.parameters.Parameters.with.Goals as goal

pub returns-in-Some-read-clause-given : goal.returns-in-Some-read-clause-given
returns-in-Some-read-clause-given c =
    let has : HasEquals c.args.part.now = search rules in
    let before : c.in-Some.name.now ≡ before_first is_equals c.args.part.now = search rules in
    let after : c.in-Some.value.now ≡ after_first is_equals c.args.part.now = search rules in
    part_answered c.args.form c.args.self c.args.part.now c.in-Some.name.now c.in-Some.value.now c.in-Some-read.name c.with_value.result has before after c.in-Some-read.ensures c.with_value.ensures.given

pub returns-in-Some-read-clause-memory : goal.returns-in-Some-read-clause-memory
returns-in-Some-read-clause-memory c = λ none.
    gives c.args.form c.in-Some-read.name ((c.in-Some-read.ensures c.in-Some-read.name).0 refl).0 (c.with_value.ensures.memory none)
