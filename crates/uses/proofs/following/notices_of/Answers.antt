use Rattle.std.proofs.Common.{ℕ, List, sym, subst}
use Rattle.lw_stamp.specs.Moment.{ms_of}
use Rattle.lw_reg.specs.Reading.{shown_in}
use Rattle.lw_call.specs.Contents.{TakenContent}
use Rattle.lw_node.specs.Calls.{Takes}
use Rattle.uses.specs.Following.{Keeps, TakesOne}
use Rattle.uses.proofs.Notices.{one_taken, all_taken}
use Rattle.uses.proofs.following.notices_of.Goals as goal

pub loop-datagram-preserved : goal.loop-datagram-preserved
loop-datagram-preserved c =
    let node = c.loop-datagram.node in
    let datagram = c.datagram-item.result in
    let takes : TakesOne node datagram c.in_ok-taken.taken c.take.new.self =
    subst (λ (bytes : List ℕ). Takes node (shown_in node.table.state) (ms_of datagram.now) datagram.from bytes c.in_ok-taken.taken c.take.new.self) c.deref.ensures.value c.in_ok-taken.ensures.read in
    let keeps : Keeps c.loop-datagram.notices.items c.args.token c.in_ok-taken.taken.notice c.keep.new.notices.items =
    subst (λ (t : TakenContent). Keeps c.loop-datagram.notices.items c.args.token t.notice c.keep.new.notices.items) c.taken.view_is c.in_ok-keep.ensures in
    one_taken c.args.token c.args.node.now c.args.datagrams.now c.loop-datagram.datagram-index datagram c.loop-datagram.notices.items c.keep.new.notices.items node c.take.new.self c.in_ok-taken.taken c.loop-datagram-test.true
    (sym c.datagram-item.is) takes keeps c.loop-datagram.invariant

pub returns : goal.returns
returns c = all_taken c.args.token c.args.node.now c.args.datagrams.now c.loop-datagram.datagram-index c.loop-datagram.notices.items c.loop-datagram.node c.loop-datagram-test.false c.loop-datagram.invariant
