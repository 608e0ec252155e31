use Rattle.std.proofs.Common.{◌≡◌, [], sym, ap, subst, ◌∙◌}
use Rattle.lw_stamp.specs.Moment.{ms_of}
use Rattle.lw_reg.specs.Marks.{all_marks, left_by}
use Rattle.std.specs.Option.{option_to_list}
use Rattle.lw_call.specs.Contents.{TakenContent}
use Rattle.lw_node.specs.Calls.{Takes}
use Rattle.lw_node.specs.Node.{NodeContent, Knows, fresh}
use Rattle.lw_json.specs.Answer.{answer_text}
use Rattle.lw_fleet.proofs.NodeLemmas.{knows_none, knows_after, if_ok}
use Rattle.lw_fleet.proofs.one_datagram.answered.Goals as goal

pub returns : goal.returns
returns c =
    let now = ms_of c.args.now in
    let start : c.new-node.result ≡ fresh c.args.number = c.new-node.ensures in
    let taken = c.in_ok-taken.taken in
    let takes : Takes (fresh c.args.number) (left_by []) now c.args.source c.args.datagram.now taken c.take.new.self =
    subst (λ (n : NodeContent). Takes n (left_by []) now c.args.source c.args.datagram.now taken c.take.new.self) start
    (c.in_ok-taken.ensures.marks (all_marks []) (subst (λ (n : NodeContent). Knows n (all_marks [])) (sym start) (knows_none c.args.number))) in
    if_ok c.answer_text.result _ _ c.answer_text.ensures
    (λ text is. record {
      taken = taken;
      node = c.take.new.self;
      shown = c.first_after-shown.result;
      takes = takes;
      first = c.first_after-shown.ensures.marks (all_marks (option_to_list takes.operation)) (knows_after c.args.number takes.operation c.take.new.self takes.left);
      text_is = is ∙ (λ i. answer_text ((c.as_deref.ensures.value ∙ ap (λ (t : TakenContent). t.reply) c.taken.view_is) i) (c.as_ref.ensures.value i));
    })
