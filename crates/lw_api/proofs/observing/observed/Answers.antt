use Rattle.std.proofs.Common.{List, ap, subst, sym, ◌∙◌}
use Rattle.serde_json.specs.Written.{compact_text}
use Rattle.lw_stamp.specs.Moment.{ms_of}
use Rattle.lw_reg.specs.declared.watch.Watch.{Watch}
use Rattle.lw_reg.specs.Registration.{Registration}
use Rattle.lw_node.specs.Node.{marks_in}
use Rattle.lw_json.specs.Json.{observations_json}
use Rattle.lw_table.proofs.SinceLemmas.{if_slots}
use Rattle.lw_api.specs.Answers.{GoesOnAt, last_path}
use Rattle.lw_api.proofs.observing.observed.Goals as goal

pub next_of-next-requires : goal.next_of-next-requires
next_of-next-requires c = λ empty. c.in_ok-page.ensures.none (sym c.deref.ensures.value ∙ empty)

pub returns : goal.returns
returns c =
    let page = c.in_ok-page.page in
    let after = c.args.after in
    let next = c.next_of-next.result in
    if_slots _ _ (λ text is. record {
      page = page.items;
      next = next;
      answer = λ known k. record {
        watches = c.in_ok-page.ensures.watches known k;
        further = subst (λ (l : List (Registration × Watch)). GoesOnAt (marks_in c.args.node.now.table.state known) (ms_of c.args.now) c.args.id (last_path after l) next) c.deref.ensures.value (c.next_of-next.ensures known k);
      };
      within = c.in_ok-page.ensures.within;
      text_is = is ∙ ap (λ (l : List (Registration × Watch)). compact_text (observations_json l next)) c.deref-2.ensures.value;
    }) c.observations_text.result c.observations_text.ensures
