use Rattle.std.proofs.Common.{ap, ◌∙◌}
use Rattle.std.specs.Prelude.{string_bytes}
use Rattle.lw_stamp.specs.Moment.{ms_of}
use Rattle.lw_reg.specs.Registration.{Registration}
use Rattle.registry.proofs.ObserveLemmas.{with_device}
use Rattle.registry.proofs.RunLemmas.{if_ok}
use Rattle.registry.proofs.observing.observe_registered.Goals as goal

pub returns : goal.returns
returns c =
    if_ok c.observe_device.result _ _ c.observe_device.ensures
    (λ text is. with_device c.args.node.now (ms_of c.args.now) c.args.mid c.args.seen.now _ _ (string_bytes text) c.observe_device.new.node
    (c.has_device.ensures.0 c.if-not-has_device.false) (c.as_str.ensures.value ∙ ap (λ (r : Registration). r.objects) c.seen.view_is) (ap (λ (r : Registration). r.id) c.seen.view_is) is)
