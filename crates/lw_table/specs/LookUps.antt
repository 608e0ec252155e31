-- The answers of the look-ups of a registration store over a set of marks, at a moment (LwM2M 1.1 Core, section
-- 6.2; RFC 7641, section 3). Where several fit one answer, which no node makes and marks from outside may, the
-- least endpoint answers, and of its watches the one on the least path.
use Rattle.std.specs.Prelude.{◌≡◌, ℕ, List, Option, Some, None}
use Rattle.lw_stamp.specs.declared.stamp.Stamp.{Stamp}
use Rattle.lw_stamp.specs.Order.{AtMost}
use Rattle.lw_stamp.specs.StampOrder.{stamp_cmp}
use Rattle.lw_stamp.specs.TextOrder.{text_cmp}
use Rattle.lw_reg.specs.declared.addr.Addr.{Addr}
use Rattle.lw_reg.specs.declared.path.Path.{Path}
use Rattle.lw_reg.specs.declared.watch.Watch.{Watch}
use Rattle.lw_reg.specs.Orders.{addr_cmp, path_cmp}
use Rattle.lw_reg.specs.Registration.{Registration}
use Rattle.lw_reg.specs.Marks.{Marks}
use Rattle.lw_reg.specs.Marks.Trace.{AddressAt}
use Rattle.lw_reg.specs.Showing.{IsWrite, IsShown, IsExpired, IsLive, WatchAfter}
use Rattle.lw_table.specs.Answers.{IsAfter, IsFirstAnswer}

-- ---- by identifier
-- the shown registration with the identifier
abbrev pub ById : Marks → ℕ → Stamp → Option Registration → Type 0
ById M now id = IsFirstAnswer (λ r. IsShown M now r × (r.id ≡ id))

-- ---- by address
-- the registration is shown, and the write of its address that counts is this one
pub record IsHolder (M : Marks) (now : ℕ) (address : Addr) (at : Stamp) (r : Registration) : Type 0 where
  pub shown : IsShown M now r
  pub held : r.address ≡ address
  pub written : IsWrite addr_cmp AddressAt M r.endpoint r.id (at, address)

-- no holder wrote the address later, and of those that wrote it with one stamp its endpoint is the least
pub record IsLatestHolder (M : Marks) (now : ℕ) (address : Addr) (r : Registration) : Type 0 where
  pub at : Stamp
  pub holds : IsHolder M now address at r
  pub latest : (s : Stamp) (other : Registration) → IsHolder M now address s other → AtMost stamp_cmp s at
  pub first : (other : Registration) → IsHolder M now address at other → AtMost text_cmp r.endpoint other.endpoint

-- the shown registration that wrote the address last
abbrev pub ByAddress : Marks → ℕ → Addr → Option Registration → Type 0
ByAddress M now address None = (s : Stamp) (r : Registration) → ¬ IsHolder M now address s r
ByAddress M now address (Some r) = IsLatestHolder M now address r

-- ---- by token
-- the watch of the registration lives, and has the token
pub record HasToken (M : Marks) (now : ℕ) (token : Stamp) (x : Registration × Watch) : Type 0 where
  pub lives : IsLive M now x.0 x.1
  pub token_is : x.1.token ≡ token

pub record IsFirstWithToken (M : Marks) (now : ℕ) (token : Stamp) (x : Registration × Watch) : Type 0 where
  pub fits : HasToken M now token x
  pub first : (other : Registration × Watch) → HasToken M now token other → AtMost text_cmp x.0.endpoint other.0.endpoint
  pub first_path : (w : Watch) → HasToken M now token (x.0, w) → AtMost path_cmp x.1.path w.path

-- the live watch with the token, and its registration
abbrev pub ByToken : Marks → ℕ → Stamp → Option (Registration × Watch) → Type 0
ByToken M now token None = (x : Registration × Watch) → ¬ HasToken M now token x
ByToken M now token (Some x) = IsFirstWithToken M now token x

-- ---- the watches of a registration, one after another
-- of the registration with the identifier, the live watch on the least path above the given one, or of all
abbrev pub WatchOfIdAfter : Marks → ℕ → Stamp → Option Path → Option (Registration × Watch) → Type 0
WatchOfIdAfter M now id after None = (r : Registration) → ById M now id (Some r) → WatchAfter M now r.endpoint after None
WatchOfIdAfter M now id after (Some x) = ById M now id (Some x.0) × WatchAfter M now x.0.endpoint after (Some x.1)

-- ---- what has expired, one after another
-- an expired registration, its endpoint above the given one
abbrev pub IsExpiredAfter : Marks → ℕ → Option (List ℕ) → Registration → Type 0
IsExpiredAfter M now after r = IsAfter after r.endpoint × IsExpired M now r

abbrev pub named_by : Registration → List ℕ × Stamp
named_by r = (r.endpoint, r.id)

-- endpoint and identifier of the least expired endpoint above the given one, or of the least of all
abbrev pub ExpiredAfter : Marks → ℕ → Option (List ℕ) → Option (List ℕ × Stamp) → Type 0
ExpiredAfter M now after None = (r : Registration) → ¬ IsExpiredAfter M now after r
ExpiredAfter M now after (Some x) = (r : Registration) × IsFirstAnswer (IsExpiredAfter M now after) (Some r) × (x ≡ named_by r)
