use Rattle.std.proofs.Common.{sym, subst}
use Rattle.lw_coap.specs.Message.{MessageContent}
use Rattle.lw_coap.specs.Fits.{Fits}
use Rattle.lw_messaging.proofs.FetchLemmas.{without_fits}
use Rattle.lw_messaging.proofs.notifications.makes.Goals as goal

pub encode-requires : goal.encode-requires
encode-requires c =
    subst (λ (m : MessageContent). Fits m) (sym c.without_block2.ensures) (without_fits c.args.message c.requires)
