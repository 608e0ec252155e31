-- A node's clock is at or above each counter that the node can read from what it knows.
use Rattle.std.specs.Prelude.{ℕ, ◌≤◌}
use Rattle.lw_reg.specs.declared.op.What.{What}
use Rattle.lw_reg.specs.declared.op.What.TheVariants.{Cancel, Expire}
use Rattle.lw_reg.specs.Marks.{Trace, Mark}
use Rattle.lw_reg.specs.Marks.Trace.{Named, Based, AddressAt, SeenAt, LifetimeAt, BindingAt, SmsAt, ObjectsAt, AttributeAt, EndedAt, Removed, Watched, Cancelled}
use Rattle.lw_reg.specs.Reading.{shown_in}
use Rattle.lw_reg.specs.State.{State}

-- no write, no end and no token is above the clock
abbrev pub TraceWithin : ℕ → Trace → Type 0
TraceWithin clock Named = Unit {0}
TraceWithin clock (Based base) = Unit {0}
TraceWithin clock (AddressAt s v) = s.counter ≤ clock
TraceWithin clock (SeenAt s v) = s.counter ≤ clock
TraceWithin clock (LifetimeAt s v) = s.counter ≤ clock
TraceWithin clock (BindingAt s v) = s.counter ≤ clock
TraceWithin clock (SmsAt s v) = s.counter ≤ clock
TraceWithin clock (ObjectsAt s v) = s.counter ≤ clock
TraceWithin clock (AttributeAt name s v) = s.counter ≤ clock
TraceWithin clock (EndedAt s) = s.counter ≤ clock
TraceWithin clock Removed = Unit {0}
TraceWithin clock (Watched path token accept) = token.counter ≤ clock
TraceWithin clock (Cancelled path token) = token.counter ≤ clock

-- nor is the registration
abbrev pub MarkWithin : ℕ → Mark → Type 0
MarkWithin clock m = (m.registration.counter ≤ clock) × TraceWithin clock m.trace

-- no mark that can be read from the state has a stamp above the clock
abbrev pub FitsClock : ℕ → State → Type 0
FitsClock clock state = (m : Mark) → shown_in state m → MarkWithin clock m

-- what is cancelled, or over, has a stamp that is not above the clock
abbrev pub TokenWithin : ℕ → What → Type 0
TokenWithin clock (Cancel path token) = token.counter ≤ clock
TokenWithin clock (Expire upto) = upto.counter ≤ clock
TokenWithin clock _ = Unit {0}
