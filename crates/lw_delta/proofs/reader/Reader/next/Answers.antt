use Rattle.std.proofs.Common.{◌<◌, List, [], ◌∷◌, ℕ, length, sym, ap, ◌∙◌, subst}
use Rattle.std.specs.Option.{option_copied}
use Rattle.lw_reg.specs.declared.slot.Slot.{Slot}
use Rattle.lw_delta.specs.Format.{slot as slot_part}
use Rattle.lw_delta.specs.inner.Lent.{NextAt}
use Rattle.lw_delta.specs.Unread.{Unread, IsLeft}
use Rattle.lw_delta.proofs.Again.{next_found}
use Rattle.lw_delta.proofs.Takes.{next_takes}
use Rattle.lw_delta.proofs.Decided.{optional_decided}
use Rattle.lw_delta.proofs.Grammar.{slot_decided}
use Rattle.lw_delta.proofs.Left.{first_left, none_left, no_first}
use Rattle.lw_delta.proofs.reader.Reader.next.Goals as goal

pub next_slot-requires : goal.next_slot-requires
next_slot-requires c = λ again. next_found _ _ _ (record { value = c.self.invariant.0; rest = []; found = c.self.invariant.1 })

pub unreachable-requires : goal.unreachable-requires
unreachable-requires c =
    let f = next_found _ _ _ (record { value = c.self.invariant.0; rest = []; found = c.self.invariant.1 }) in
    absurd ((optional_decided (slot_decided c.self.inside.form c.self.inside.clock _)).apart _ _ _ _ f.found c.in_default.ensures.fault)

pub returns-in_default-next-clause-next : goal.returns-in_default-next-clause-next
returns-in_default-next-clause-next c = λ slots left.
    let form = c.self.inside.form in
    let clock = c.self.inside.clock in
    let after = option_copied c.self.inside.after in
    let end = subst (λ o. NextAt form clock after c.self.inside.rest.now o c.in-Ok.behind.now) c.in_default-next.is c.in-Ok.ensures.found in
    let none = none_left (slot_part form clock) (λ s. s.0) (slot_decided form clock) after (subst (λ (u : Unread). IsLeft u slots) (sym c.self.view_is) left) end in
    (none, subst (λ (xs : List (List ℕ × Slot)). IsLeft c.args.self.now xs) none left)

pub slot-requires : goal.slot-requires
slot-requires c =
    let s = subst (λ o. NextAt c.self.inside.form c.self.inside.clock (option_copied c.self.inside.after) c.self.inside.rest.now o c.in-Ok.behind.now) c.in-Some.is c.in-Ok.ensures.found in
    (s.more, s.holds)

pub returns-in_default-slot-clause-end : goal.returns-in_default-slot-clause-end
returns-in_default-slot-clause-end c = λ left.
    let form = c.self.inside.form in
    let clock = c.self.inside.clock in
    let after = option_copied c.self.inside.after in
    let s = subst (λ o. NextAt form clock after c.self.inside.rest.now o c.in-Ok.behind.now) c.in-Some.is c.in-Ok.ensures.found in
    no_first (first_left (slot_part form clock) (λ s. s.0) (slot_decided form clock) after (subst (λ (u : Unread). IsLeft u []) (sym c.self.view_is) left) s.found).1

pub invariant_of-self : goal.invariant_of-self
invariant_of-self c =
    let form = c.self.inside.form in
    let clock = c.self.inside.clock in
    let after = option_copied c.self.inside.after in
    let s = subst (λ o. NextAt form clock after c.self.inside.rest.now o c.in-Ok.behind.now) c.in-Some.is c.in-Ok.ensures.found in
    let left = first_left (slot_part form clock) (λ s. s.0) (slot_decided form clock) after c.self.invariant.1 s.found in
    (left.0, left.2)

pub returns-clause-next : goal.returns-clause-next
returns-clause-next c = λ slots given.
    let form = c.self.inside.form in
    let clock = c.self.inside.clock in
    let after = option_copied c.self.inside.after in
    let s = subst (λ o. NextAt form clock after c.self.inside.rest.now o c.in-Ok.behind.now) c.in-Some.is c.in-Ok.ensures.found in
    let left = first_left (slot_part form clock) (λ s. s.0) (slot_decided form clock) after (subst (λ (u : Unread). IsLeft u slots) (sym c.self.view_is) given) s.found in
    let same = c.in-Ok-slot.ensures.value s.more s.holds in
    (left.0, left.1 ∙ ap (λ x. x ∷ left.0) (sym same), left.2)

pub returns-clause-shorter : goal.returns-clause-shorter
returns-clause-shorter c =
    subst (λ (u : Unread). length c.in-Ok.behind.now < length u.bytes) c.self.view_is
    (next_takes c.self.inside.form c.self.inside.clock (option_copied c.self.inside.after) c.self.inside.rest.now c.in-Ok.next c.in-Ok.behind.now c.in-Ok.ensures.found)
