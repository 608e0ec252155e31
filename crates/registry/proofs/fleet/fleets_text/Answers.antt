use Rattle.std.proofs.Common.{rules}
use Rattle.std.specs.Prelude.{string_bytes}
use Rattle.registry.proofs.fleet.fleets_text.Goals as goal

pub returns : goal.returns
returns c = record {
  one = string_bytes c.in_ok-one.one;
  two = string_bytes c.in_ok-two.two;
  shown_by_node = c.in_ok-one.ensures;
  shown_by_other = c.in_ok-two.ensures;
  text_is = search rules;
}
