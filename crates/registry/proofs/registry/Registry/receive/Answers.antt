use Rattle.std.proofs.Common.{rules}
use Rattle.std.specs.Prelude.{string_bytes}
use Rattle.registry.proofs.registry.Registry.receive.Goals as goal

pub returns : goal.returns
returns c = record {
  expired = string_bytes c.in_ok-expired.expired;
  swept = c.expire.new.node;
  expires = c.in_ok-expired.ensures;
  taken = c.in_ok-taken.taken;
  event = c.in_ok-taken.event;
  after = c.take.new.node;
  takes = c.in_ok-taken.ensures;
  sent = string_bytes c.in_ok-sent.sent;
  observed = c.in_ok-sent.ensures;
  passes = c.in_ok-passed.ensures;
  mid_is = search rules;
  moment_is = search rules;
  text_is = search rules;
}
