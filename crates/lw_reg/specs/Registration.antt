-- What a server shows of a registration (LwM2M 1.1 Core, section 6.2).
use Rattle.std.specs.Prelude.{ℕ, Bool, List, Option}
use Rattle.lw_stamp.specs.declared.stamp.Stamp.{Stamp}
use Rattle.lw_stamp.specs.declared.moment.Moment.{Moment}
use Rattle.lw_reg.specs.declared.addr.Addr.{Addr}
use Rattle.lw_reg.specs.declared.binding.Binding.{Binding}
use Rattle.lw_reg.specs.declared.version.Version.{Version}

-- texts are bytes, `lifetime` is in seconds, `attributes` are name and value, names rising
pub record Registration : Type 0 where
  pub endpoint : List ℕ
  pub id : Stamp
  pub address : Addr
  pub seen : Moment
  pub lifetime : ℕ
  pub version : Version
  pub binding : Binding
  pub queue : Bool
  pub sms : Option (List ℕ)
  pub objects : List ℕ
  pub attributes : List (List ℕ × List ℕ)
