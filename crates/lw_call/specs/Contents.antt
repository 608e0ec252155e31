-- What contracts see of what a node gives and sends: texts and bytes as lists of numbers.
use Rattle.std.specs.Prelude.{ℕ, List, Option, Bool}
use Rattle.lw_stamp.specs.declared.stamp.Stamp.{Stamp}
use Rattle.lw_reg.specs.declared.addr.Addr.{Addr}
use Rattle.lw_reg.specs.declared.path.Path.{Path}

-- what the caller is told of a notification
pub record NoticeContent : Type 0 where
  pub token : Stamp
  pub id : Stamp
  pub endpoint : List ℕ
  pub path : Path
  pub code : ℕ
  pub observe : Option ℕ
  pub format : Option ℕ
  pub ended : Bool
  pub payload : List ℕ

-- what is given for a datagram: the reply's bytes or none, and a notice or none
pub record TakenContent : Type 0 where
  pub reply : Option (List ℕ)
  pub notice : Option NoticeContent

-- what is to be sent to a device
pub record OutgoingContent : Type 0 where
  pub to : Addr
  pub token : Stamp
  pub bytes : List ℕ

-- a delta, and the change number at which it was made
pub record SentContent : Type 0 where
  pub delta : List ℕ
  pub change : ℕ
