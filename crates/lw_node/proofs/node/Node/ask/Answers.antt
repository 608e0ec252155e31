use Rattle.std.proofs.Common.{Option, List, ℕ, rules, subst}
use Rattle.std.specs.Option.{option_copied, option_map}
use Rattle.lw_stamp.specs.Moment.{ms_of}
use Rattle.lw_reg.specs.declared.path.Path.{Path}
use Rattle.lw_reg.specs.Marks.{Marks, among}
use Rattle.lw_reg.specs.Reading.{shown_in}
use Rattle.lw_reg.specs.Showing.{ShownOf}
use Rattle.lw_table.specs.LookUps.{WatchOfIdAfter}
use Rattle.lw_call.specs.declared.answer.Answer.TheVariants as answers
use Rattle.lw_call.specs.declared.question.Question.TheVariants as questions
use Rattle.lw_node.proofs.StepLemmas.{asked}
use Rattle.lw_node.proofs.node.Node.ask.Goals as goal

pub returns-in-ById : goal.returns-in-ById
returns-in-ById c = asked c.args.self.now (ms_of c.args.now) c.args.question.now (questions.ById c.in-ById.id) c.in-ById.is (answers.Registration c.by_id.result) c.registration.result c.registration.ensures.value c.registration.ensures.found c.by_id.ensures.read c.by_id.ensures.marks

pub returns-in-ByEndpoint : goal.returns-in-ByEndpoint
returns-in-ByEndpoint c =
    let shown = λ (M : Marks). λ (h : ShownOf M (ms_of c.args.now) c.as_str.result.now c.by_endpoint.result). subst (λ (e : List ℕ). ShownOf M (ms_of c.args.now) e c.by_endpoint.result) c.as_str.ensures h in
    asked c.args.self.now (ms_of c.args.now) c.args.question.now (questions.ByEndpoint c.in-ByEndpoint.endpoint) c.in-ByEndpoint.is (answers.Registration c.by_endpoint.result) c.registration-in-ByEndpoint.result c.registration-in-ByEndpoint.ensures.value c.registration-in-ByEndpoint.ensures.found
    (shown (shown_in c.args.self.now.table.state) c.by_endpoint.ensures.read) (λ ms knows. shown (among ms) (c.by_endpoint.ensures.marks ms knows))

pub returns-in-ByAddress : goal.returns-in-ByAddress
returns-in-ByAddress c = asked c.args.self.now (ms_of c.args.now) c.args.question.now (questions.ByAddress c.in-ByAddress.address) c.in-ByAddress.is (answers.Registration c.by_address.result) c.registration-in-ByAddress.result c.registration-in-ByAddress.ensures.value c.registration-in-ByAddress.ensures.found c.by_address.ensures.read c.by_address.ensures.marks

pub returns-in-ByToken : goal.returns-in-ByToken
returns-in-ByToken c = asked c.args.self.now (ms_of c.args.now) c.args.question.now (questions.ByToken c.in-ByToken.token) c.in-ByToken.is (answers.Watched c.by_token.result) c.watched.result c.watched.ensures.value c.watched.ensures.found c.by_token.ensures.read c.by_token.ensures.marks

pub returns-in-WatchAfter : goal.returns-in-WatchAfter
returns-in-WatchAfter c =
    let found = λ (M : Marks). λ (h : WatchOfIdAfter M (ms_of c.args.now) c.in-WatchAfter.id (option_copied c.as_ref.result) c.watch_after.result). subst (λ (after : Option Path). WatchOfIdAfter M (ms_of c.args.now) c.in-WatchAfter.id after c.watch_after.result) c.as_ref.ensures.value h in
    asked c.args.self.now (ms_of c.args.now) c.args.question.now (questions.WatchAfter c.in-WatchAfter.id c.in-WatchAfter.after) c.in-WatchAfter.is (answers.Watched c.watch_after.result) c.watched-in-WatchAfter.result c.watched-in-WatchAfter.ensures.value c.watched-in-WatchAfter.ensures.found
    (found (shown_in c.args.self.now.table.state) c.watch_after.ensures.read) (λ ms knows. found (among ms) (c.watch_after.ensures.marks ms knows))

pub returns-in-FirstAfter : goal.returns-in-FirstAfter
returns-in-FirstAfter c = asked c.args.self.now (ms_of c.args.now) c.args.question.now (questions.FirstAfter c.in-FirstAfter.after) c.in-FirstAfter.is (answers.Registration c.first_after.result) c.registration-in-FirstAfter.result c.registration-in-FirstAfter.ensures.value c.registration-in-FirstAfter.ensures.found (search rules) (search rules)

pub returns-in-ExpiredAfter : goal.returns-in-ExpiredAfter
returns-in-ExpiredAfter c = asked c.args.self.now (ms_of c.args.now) c.args.question.now (questions.ExpiredAfter c.in-ExpiredAfter.after) c.in-ExpiredAfter.is (answers.Expired (option_map (λ x. (x.0.now, x.1)) c.expired_after.result)) c.expired.result c.expired.ensures.value (search rules) (search rules) (search rules)

pub returns-in-Change : goal.returns-in-Change
returns-in-Change c = search rules
