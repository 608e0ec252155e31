use Rattle.std.proofs.Common.{ap, refl, ℕ}
use Rattle.lw_server.specs.declared.devices.RequestCounts.{RequestCounts}
use Rattle.lw_server.proofs.Steps.{no_more, some_more, steps_by}
use Rattle.lw_server.proofs.devices.Devices.step.Goals as goal

-- so many requests were not answered
abbrev counted_as : RequestCounts → ℕ → RequestCounts
counted_as counts n = record counts { unanswered = n }

pub returns-in-Send-clause-stepped : goal.returns-in-Send-clause-stepped
returns-in-Send-clause-stepped c =
    steps_by _ _ _ _ _ _ _ _ _ _ c.self.view_is c.in-Some.is c.in-Send.is c.in_ok-step.ensures.stepped
    (refl, refl) c.count.ensures (no_more _ _ c.in_ok-reserve.ensures.items) refl

pub returns-in-TimedOut-clause-stepped : goal.returns-in-TimedOut-clause-stepped
returns-in-TimedOut-clause-stepped c =
    steps_by _ _ _ _ _ _ _ _ _ _ c.self.view_is c.in-Some.is c.in-TimedOut.is c.in_ok-step.ensures.stepped refl
    (ap (λ (n : ℕ). counted_as c.self.inside.counts n) c.saturating_add-self-inside.ensures)
    (some_more _ _ _ _ c.in_ok-reserve.ensures.items c.put_left.ensures.left) refl

pub returns-in-Postponed-clause-stepped : goal.returns-in-Postponed-clause-stepped
returns-in-Postponed-clause-stepped c =
    steps_by _ _ _ _ _ _ _ _ _ _ c.self.view_is c.in-Some.is c.in-Postponed.is c.in_ok-step.ensures.stepped refl refl
    (no_more _ _ c.in_ok-reserve.ensures.items) refl
