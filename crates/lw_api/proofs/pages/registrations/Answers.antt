use Rattle.std.proofs.Common.{List, ◌∙◌, ap, subst}
use Rattle.serde_json.specs.Written.{compact_text}
use Rattle.lw_reg.specs.Registration.{Registration}
use Rattle.lw_stamp.specs.Moment.{ms_of}
use Rattle.lw_table.specs.Answers.{after_text}
use Rattle.lw_table.specs.Pages.{IsPage}
use Rattle.lw_table.specs.Table.{TableContent}
use Rattle.lw_json.specs.Json.{page_json}
use Rattle.lw_table.proofs.SinceLemmas.{if_slots}
use Rattle.lw_api.specs.Known.{OfKnown}
use Rattle.lw_api.proofs.Knowing.{of_known}
use Rattle.lw_api.proofs.pages.registrations.Goals as goal

pub returns : goal.returns
returns c =
    let page = c.in_ok-page.page in
    let now = ms_of c.args.now in
    let after = after_text c.args.after in
    let next = after_text page.next in
    if_slots _ _ (λ text is. record {
      page = page.registrations.items;
      next = next;
      answer = subst (λ (t : TableContent). OfKnown t.state (λ M. IsPage M now after next page.registrations.items)) c.table.ensures
          (of_known c.table.result.now.state (λ M. IsPage M now after next page.registrations.items) c.in_ok-page.ensures.read (λ ms known. c.in_ok-page.ensures.marks ms known.0 known.1));
      within = c.in_ok-page.ensures.within;
      further = c.in_ok-page.ensures.further;
      text_is = is ∙ ap (λ (shown : List Registration). compact_text (page_json shown next)) c.deref.ensures.value;
    }) c.page_text.result c.page_text.ensures
