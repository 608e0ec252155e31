use Rattle.std.proofs.Common.{Option, Some, subst, sym}
use Rattle.std.specs.Prelude.{string_bytes}
use Rattle.lw_stamp.specs.Moment.{ms_of}
use Rattle.lw_reg.specs.Registration.{Registration}
use Rattle.lw_reg.specs.Showing.{ShownOf}
use Rattle.lw_api.specs.Answers.{TellsWatchesOf}
use Rattle.lw_api.proofs.Knowing.{of_known}
use Rattle.lw_api.proofs.observing.observations.Goals as goal

pub returns-in_ok-observed-in-Some : goal.returns-in_ok-observed-in-Some
returns-in_ok-observed-in-Some c = record {
  shown = c.by_endpoint.result;
  answer = of_known c.args.node.now.table.state (λ M. ShownOf M (ms_of c.args.now) c.args.endpoint.now c.by_endpoint.result) c.by_endpoint.ensures.read c.by_endpoint.ensures.marks;
  told = subst (λ (o : Option Registration). TellsWatchesOf c.args.node.now.table.state (ms_of c.args.now) c.args.after c.args.limit o (Some (string_bytes c.in_ok-observed-in-Some.field-0))) (sym c.in-Some.is) (subst (λ (r : Registration). TellsWatchesOf c.args.node.now.table.state (ms_of c.args.now) c.args.after c.args.limit (Some r) (Some (string_bytes c.in_ok-observed-in-Some.field-0))) c.shown.view_is c.in_ok-observed-in-Some.ensures);
}
