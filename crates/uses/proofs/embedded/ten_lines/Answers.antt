use Rattle.std.proofs.Common.{sym, subst}
use Rattle.lw_stamp.specs.Moment.{ms_of}
use Rattle.lw_reg.specs.Reading.{shown_in}
use Rattle.lw_node.specs.Calls.{Takes}
use Rattle.lw_node.specs.Exchange.{IsDeltaSince}
use Rattle.lw_node.specs.Node.{NodeContent}
use Rattle.uses.proofs.embedded.ten_lines.Goals as goal

pub returns : goal.returns
returns g c = record {
  taken = c.in_ok-taken.taken;
  after_take = c.take.new.self;
  takes = subst (λ (n : NodeContent). Takes n (shown_in n.table.state) (ms_of c.args.wish.now.now) c.args.wish.now.from c.args.wish.now.datagram.now c.in_ok-taken.taken c.take.new.self) c.new-node.ensures c.in_ok-taken.ensures.read;
  request = c.in_ok-asked.asked;
  after_observe = c.observe.new.self;
  observes = c.in_ok-asked.ensures.read;
  ended = c.in_ok-_ended._ended;
  node = c.sweep.new.self;
  sweeps = c.in_ok-_ended.ensures.read;
  delta = c.deref-2.result.now;
  is_delta = subst (IsDeltaSince c.sweep.new.self c.args.kept) (sym c.deref-2.ensures.value) c.in_ok-delta.ensures;
  count = c.in_ok-merge.field-0;
  merges = c.in_ok-merge.ensures.merges;
  next_is = c.change-next.ensures;
}
