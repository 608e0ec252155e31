use Rattle.lw_resp.proofs.LiteralLemmas.{literal_found, literal_cut, literal_malformed}
use Rattle.lw_resp.proofs.literals.behind_literal.Goals as goal

pub returns-in-Some : goal.returns-in-Some
returns-in-Some c = literal_found c.args.literal.now c.args.bytes.now c.in-Some.behind c.in-Some.ensures.cases

pub returns-then-starts_with : goal.returns-then-starts_with
returns-then-starts_with c = literal_cut c.args.literal.now c.args.bytes.now c.in-None.ensures.cases c.if-starts_with.ensures.value

pub returns-else-starts_with : goal.returns-else-starts_with
returns-else-starts_with c = literal_malformed c.args.literal.now c.args.bytes.now c.in-None.ensures.cases c.if-starts_with.ensures.value
