-- The values of the parameters, as they were gathered.
use Rattle.std.specs.Prelude.{ℕ, List, Option, option_copied}
use Rattle.lw_request.specs.declared.queries.Parameters.{Parameters}
use Rattle.lw_request.specs.Queries.{Parameter}
use Rattle.lw_request.specs.Queries.Parameter.{Ep, Lt, Lwm2m, B, Q, Sms}

abbrev pub value_in : Parameters → Parameter → Option (List ℕ)
value_in found Ep = option_copied found.endpoint
value_in found Lt = option_copied found.lifetime
value_in found Lwm2m = option_copied found.version
value_in found B = option_copied found.binding
value_in found Q = option_copied found.queue
value_in found Sms = option_copied found.sms
