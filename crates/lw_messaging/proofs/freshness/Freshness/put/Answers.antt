use Rattle.std.proofs.Common.{◌≡◌, ℕ, ◌+◌, ◌≤◌, Bool, true, cond, length, ap, sym, ◌∙◌, arith}
use Rattle.std.specs.Prelude.{nat_lt, ◌||◌, Option, Some, None, is_some}
use Rattle.std.proofs.lemmas.Bool.Decides.{nat_tests}
use Rattle.lw_messaging.specs.declared.freshness.Newest.{Newest}
use Rattle.lw_messaging.specs.Freshness.{Kept, newest_of, has_room}
use Rattle.lw_messaging.proofs.freshness.Freshness.put.Goals as goal

-- a token that is there adds none
bounded : (old : Option Newest) (before after : ℕ) → before ≤ 65536 → (is_some old || nat_lt before 65536) ≡ true
    → after ≡ before + cond (is_some old) 0 1 → after ≤ 65536
bounded None before after le room size = grind (arith, nat_tests)
bounded (Some newest) before after le room size = omega (arith, le, size)

pub invariant_of-self : goal.invariant_of-self
invariant_of-self c =
    let kept = c.self.inside.newest.entries in
    let room : has_room kept c.args.token ≡ true =
    ap (λ (k : Kept). has_room k c.args.token) c.self.view_is ∙ sym c.has_room.ensures ∙ c.if-has_room.true in
    let there : (is_some c.in_ok-insert.field-0 || nat_lt (length kept) 65536) ≡ true =
    ap (λ (old : Option Newest). is_some old || nat_lt (length kept) 65536) c.in_ok-insert.ensures.old ∙ room in
    bounded c.in_ok-insert.field-0 (length kept) (length c.insert.new.self.entries) c.self.invariant there
    c.in_ok-insert.ensures.len
