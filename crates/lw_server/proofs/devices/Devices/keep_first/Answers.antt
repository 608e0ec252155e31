use Rattle.std.proofs.Common.{refl}
use Rattle.lw_server.proofs.Steps.{keeps_first}
use Rattle.lw_server.proofs.devices.Devices.keep_first.Goals as goal

pub returns : goal.returns
returns c = keeps_first _ _ _ _ _ _ c.self.view_is refl c.truncate.ensures.items refl
