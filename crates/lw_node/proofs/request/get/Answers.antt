use Rattle.std.proofs.Common.{◌∙◌, subst, sym, refl}
use Rattle.lw_coap.specs.Fits.{Fits}
use Rattle.lw_coap.specs.declared.message.Kind.TheVariants.{Con}
use Rattle.lw_node.specs.inner.Observe.{observe_number}
use Rattle.lw_node.proofs.Requests.{get_fits, observe_small}
use Rattle.lw_node.proofs.request.get.Goals as goal

pub encode-requires : goal.encode-requires
encode-requires c =
    subst Fits (λ i. record {
      kind = Con;
      code = 1;
      mid = c.args.mid;
      token = sym (c.in_ok-from_slice.ensures.items ∙ c.to_bytes.ensures) i;
      options = sym c.in_ok-options_of.ensures.options i;
      payload = sym c.new.ensures.items i;
    }) (get_fits c.args.mid (observe_number c.args.observe) c.args.token.now c.args.path.now c.args.accept c.ranges.mid.fits (observe_small c.args.observe) c.in_ok-options_of.ensures.accept c.args.path.now.kept.front refl)
