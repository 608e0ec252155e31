use Rattle.std.proofs.Common.{◌≡◌, Option, None, sym, subst, ◌∙◌}
use Rattle.lw_stamp.specs.Moment.{ms_of}
use Rattle.lw_reg.specs.declared.path.Path.{Path}
use Rattle.lw_node.specs.Node.{marks_in}
use Rattle.lw_table.specs.LookUps.{WatchOfIdAfter}
use Rattle.lw_api.specs.Answers.{GoesOnAt, last_path}
use Rattle.lw_api.proofs.WatchLemmas.{no_last}
use Rattle.lw_api.proofs.observing.next_of.Goals as goal

pub returns-in-Some : goal.returns-in-Some
returns-in-Some c = λ known is.
    subst (λ (last : Option Path). GoesOnAt (marks_in c.args.node.now.table.state known) (ms_of c.args.now) c.args.id last c.next_path.result) (sym c.in-Some.is ∙ c.last_path.ensures) (c.next_path.ensures known is)

pub returns-in-None : goal.returns-in-None
returns-in-None c = λ known is.
    let none : last_path c.args.after c.args.page.now ≡ None = sym c.last_path.ensures ∙ c.in-None.is in
    let empty = no_last c.args.after c.args.page.now none in
    subst (λ page. WatchOfIdAfter (marks_in c.args.node.now.table.state known) (ms_of c.args.now) c.args.id (last_path c.args.after page) None) (sym empty) (c.requires empty known is)
