use Rattle.std.proofs.Common.{◌∙◌, subst, sym, refl}
use Rattle.lw_coap.specs.Fits.{Fits}
use Rattle.lw_coap.specs.declared.message.Kind.TheVariants.{Con}
use Rattle.lw_messaging.specs.Blocks.{value_of}
use Rattle.lw_messaging.proofs.FetchLemmas.{get_fits}
use Rattle.lw_messaging.proofs.fetch_messages.get_block_of.Goals as goal

pub encode-requires : goal.encode-requires
encode-requires c =
    subst Fits (λ i. record {
      kind = Con;
      code = 1;
      mid = 0;
      token = sym (c.in_ok-from_slice.ensures.items ∙ c.to_be_bytes.ensures) i;
      options = sym c.in_ok-options_of.ensures i;
      payload = sym c.new.ensures.items i;
    }) (get_fits c.args.number c.args.path.now c.args.accept (value_of c.args.block.now) c.args.path.now.kept.front refl)
