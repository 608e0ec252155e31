use Rattle.std.proofs.Common.{◌≡◌, rules}
use Rattle.std.specs.List.{after_first}
use Rattle.lw_script.specs.Fields.{is_space}
use Rattle.lw_script.proofs.ScriptLemmas.{nodes_text, other_nodes}
use Rattle.lw_script.proofs.script.nodes_of.Goals as goal

pub returns-in_default-clause-none : goal.returns-in_default-clause-none
returns-in_default-clause-none c = λ nodes is. c.in_default.ensures.cases.0 (nodes_text nodes c.args.line.now is)

pub returns-then-not-contains-clause-none : goal.returns-then-not-contains-clause-none
returns-then-not-contains-clause-none c =
    let cut : c.in_ok-word.number.now ≡ after_first is_space c.args.line.now = search rules in
    other_nodes c.args.line.now c.in_ok-word.number.now c.in_ok-nodes.nodes cut c.in_ok-nodes.ensures.found (search rules)
