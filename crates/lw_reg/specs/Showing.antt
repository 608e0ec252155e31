-- What a set of marks says of an endpoint: its current registration, the values of its fields, whether it was
-- removed or has ended, what is shown of it at a moment, and which watches live (LwM2M 1.1 Core, section 6.2;
-- RFC 7641, section 3).
use Rattle.std.specs.Prelude.{◌≡◌, ℕ, ◌+◌, ◌*◌, ◌<◌, ◌⊎◌, ◌||◌, ◌==◌, Bool, List, Option, Some, None}
use Rattle.std.specs.List.{list_any}
use Rattle.std.specs.declared.cmp.Ordering.{Ordering}
use Rattle.std.specs.declared.cmp.Ordering.TheVariants.{Less}
use Rattle.std.specs.Ordering.{nat_cmp}
use Rattle.lw_stamp.specs.declared.moment.Moment.{Moment}
use Rattle.lw_stamp.specs.declared.stamp.Stamp.{Stamp}
use Rattle.lw_stamp.specs.Moment.{ms_of}
use Rattle.lw_stamp.specs.Order.{AtMost, IsGreatest}
use Rattle.lw_stamp.specs.StampOrder.{stamp_cmp}
use Rattle.lw_stamp.specs.TextOrder.{text_cmp}
use Rattle.lw_join.specs.Entries.{Rises, get}
use Rattle.lw_join.specs.Lww.{write_cmp}
use Rattle.lw_reg.specs.declared.base.Base.{Base}
use Rattle.lw_reg.specs.declared.binding.Binding.{Binding}
use Rattle.lw_reg.specs.declared.path.Path.{Path}
use Rattle.lw_reg.specs.declared.watch.Watch.{Watch}
use Rattle.lw_reg.specs.Binding.{binding_text}
use Rattle.lw_reg.specs.Orders.{addr_cmp, binding_cmp, base_cmp, moment_cmp, sms_cmp, format_cmp, path_cmp}
use Rattle.lw_reg.specs.Registration.{Registration}
use Rattle.lw_reg.specs.Marks.{Trace, Marks, Has}
use Rattle.lw_reg.specs.Marks.Trace.{Named, Based, AddressAt, SeenAt, LifetimeAt, BindingAt, SmsAt, ObjectsAt, AttributeAt, EndedAt, Removed, Watched, Cancelled}

-- the current registration of an endpoint: the greatest that is named
abbrev pub IsCurrent : Marks → List ℕ → Stamp → Type 0
IsCurrent M e r = IsGreatest stamp_cmp (λ s. Has M e s Named) r

-- the base of a registration; of two the greater counts
abbrev pub IsBase : Marks → List ℕ → Stamp → Base → Type 0
IsBase M e r b = IsGreatest base_cmp (λ c. Has M e r (Based c)) b

-- the write of a field that counts: the one with the greatest stamp, and at equal stamps the greater value
abbrev pub IsWrite : {V : Type 0} → (V → V → Ordering) → (Stamp → V → Trace) → Marks → List ℕ → Stamp → Stamp × V → Type 0
IsWrite cmp field M e r w = IsGreatest (write_cmp cmp) (λ x. Has M e r (field x.0 x.1)) w

abbrev pub IsValue : {V : Type 0} → (V → V → Ordering) → (Stamp → V → Trace) → Marks → List ℕ → Stamp → V → Type 0
IsValue cmp field M e r v = (at : Stamp) × IsWrite cmp field M e r (at, v)

-- the value of a name that was written, and none of one that was not
abbrev pub IsNamedValue : Marks → List ℕ → Stamp → List ℕ → Option (List ℕ) → Type 0
IsNamedValue M e r name None = (at : Stamp) (value : List ℕ) → ¬ Has M e r (AttributeAt name at value)
IsNamedValue M e r name (Some value) = IsValue text_cmp (AttributeAt name) M e r value

-- the attributes of a registration, names rising
pub record HasAttributes (M : Marks) (e : List ℕ) (r : Stamp) (attributes : List (List ℕ × List ℕ)) : Type 0 where
  pub rise : Rises text_cmp attributes
  pub each : (name : List ℕ) → IsNamedValue M e r name (get text_cmp attributes name)

-- queue mode is on where the Register asked for it, or the binding holds the letter Q
abbrev pub queue_of : Base → Binding → Bool
queue_of base binding = base.queue || list_any (λ c. c == 81) (binding_text binding)

-- The current registration of its endpoint is complete: it has a base and a write of each field, and these and its
-- attributes are what it shows.
pub record IsComplete (M : Marks) (r : Registration) : Type 0 where
  pub current : IsCurrent M r.endpoint r.id
  pub base : Base
  pub is_base : IsBase M r.endpoint r.id base
  pub version : r.version ≡ base.version
  pub queue : r.queue ≡ queue_of base r.binding
  pub address : IsValue addr_cmp AddressAt M r.endpoint r.id r.address
  pub seen : IsValue moment_cmp SeenAt M r.endpoint r.id r.seen
  pub lifetime : IsValue nat_cmp LifetimeAt M r.endpoint r.id r.lifetime
  pub binding : IsValue binding_cmp BindingAt M r.endpoint r.id r.binding
  pub sms : IsValue sms_cmp SmsAt M r.endpoint r.id r.sms
  pub objects : IsValue text_cmp ObjectsAt M r.endpoint r.id r.objects
  pub attributes : HasAttributes M r.endpoint r.id r.attributes

-- The registration has ended: the write of its moment that counts is not above a stamp up to which what was seen of
-- it is over.
pub record HasEnded (M : Marks) (e : List ℕ) (r : Stamp) : Type 0 where
  pub upto : Stamp
  pub over : Has M e r (EndedAt upto)
  pub seen : Stamp × Moment
  pub is_seen : IsWrite moment_cmp SeenAt M e r seen
  pub reached : AtMost stamp_cmp seen.0 upto

-- it is complete, was not removed, and has not ended
pub record IsRegistered (M : Marks) (r : Registration) : Type 0 where
  pub complete : IsComplete M r
  pub kept : ¬ Has M r.endpoint r.id Removed
  pub lasts : ¬ HasEnded M r.endpoint r.id

-- it never expires, or its lifetime, in seconds, is not over at this moment, in milliseconds
abbrev pub IsInTime : ℕ → Registration → Type 0
IsInTime now r = (r.lifetime ≡ 0) ⊎ (now < ms_of r.seen + 1000 * r.lifetime)

-- a registration is shown at a moment
pub record IsShown (M : Marks) (now : ℕ) (r : Registration) : Type 0 where
  pub registered : IsRegistered M r
  pub in_time : IsInTime now r

-- it has expired: it is not removed, has not ended, and is not shown any more
pub record IsExpired (M : Marks) (now : ℕ) (r : Registration) : Type 0 where
  pub registered : IsRegistered M r
  pub late : ¬ IsInTime now r

-- the tokens that a registration has on a path, cancelled or not
abbrev pub IsToken : Marks → List ℕ → Stamp → Path → Stamp → Type 0
IsToken M e r p t = ((a : Option ℕ) × Has M e r (Watched p t a)) ⊎ Has M e r (Cancelled p t)

-- The watch of a shown registration lives: its token is the greatest on its path, was watched, with what it
-- accepts, and was not cancelled.
pub record IsLive (M : Marks) (now : ℕ) (r : Registration) (w : Watch) : Type 0 where
  pub shown : IsShown M now r
  pub newest : IsGreatest stamp_cmp (IsToken M r.endpoint r.id w.path) w.token
  pub watched : IsGreatest format_cmp (λ a. Has M r.endpoint r.id (Watched w.path w.token a)) w.accept
  pub kept : ¬ Has M r.endpoint r.id (Cancelled w.path w.token)

-- the answer is of those that fit, or there is none that fits
abbrev pub IsAnswer : {A : Type 0} → (A → Type 0) → Option A → Type 0
IsAnswer {A} P None = (x : A) → ¬ P x
IsAnswer P (Some x) = P x

-- what is shown of the endpoint
abbrev pub ShownOf : Marks → ℕ → List ℕ → Option Registration → Type 0
ShownOf M now e = IsAnswer (λ r. (r.endpoint ≡ e) × IsShown M now r)

-- a live watch of the endpoint
abbrev pub LivesOf : Marks → ℕ → List ℕ → Watch → Type 0
LivesOf M now e w = (r : Registration) × (r.endpoint ≡ e) × IsLive M now r w

-- the endpoint has expired
abbrev pub HasExpired : Marks → ℕ → List ℕ → Type 0
HasExpired M now e = (r : Registration) × (r.endpoint ≡ e) × IsExpired M now r

-- it lives and fits, and its path is the least of those that live and fit
pub record IsFirstWatch (M : Marks) (now : ℕ) (e : List ℕ) (Fits : Watch → Type 0) (w : Watch) : Type 0 where
  pub lives : LivesOf M now e w
  pub fits : Fits w
  pub first : (v : Watch) → LivesOf M now e v → Fits v → AtMost path_cmp w.path v.path

-- the answer is the first of those that live and fit, or there is none
abbrev pub IsFirstOfWatches : Marks → ℕ → List ℕ → (Watch → Type 0) → Option Watch → Type 0
IsFirstOfWatches M now e Fits None = (w : Watch) → LivesOf M now e w → ¬ Fits w
IsFirstOfWatches M now e Fits (Some w) = IsFirstWatch M now e Fits w

-- the live watch with the token; of several, that on the least path
abbrev pub WatchWith : Marks → ℕ → List ℕ → Stamp → Option Watch → Type 0
WatchWith M now e token = IsFirstOfWatches M now e (λ w. w.token ≡ token)

-- above the path; all are above none
abbrev pub IsAbove : Option Path → Path → Type 0
IsAbove None path = Unit {0}
IsAbove (Some after) path = path_cmp after path ≡ Less

-- the live watch on the least path above the given one, or on the least of all
abbrev pub WatchAfter : Marks → ℕ → List ℕ → Option Path → Option Watch → Type 0
WatchAfter M now e after = IsFirstOfWatches M now e (λ w. IsAbove after w.path)
