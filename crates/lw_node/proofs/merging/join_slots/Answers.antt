use Rattle.std.proofs.Common.{◌≡◌, ◌<◌, ℕ, List, [], ◌∷◌, ◌++◌, length, sym, ap, ◌∙◌, subst, append_assoc, append-nil, length-append, arith, refl}
use Rattle.std.specs.Option.{OnSome}
use Rattle.std.specs.List.Sorted.{IsStrictlySortedBy}
use Rattle.lw_reg.specs.declared.slot.Slot.{Slot}
use Rattle.lw_delta.specs.Unread.{IsLeft, Leaves}
use Rattle.lw_node.proofs.Joining.{entry_cmp, before_below, joined_none, joined_more, front_joined, front_refused, no_error, an_error}
use Rattle.lw_node.proofs.merging.join_slots.Goals as goal

pub loop-next-init : goal.loop-next-init
loop-next-init c = record {
  done = [];
  rest = c.requires.rise.0;
  left = c.requires.rise.1;
  whole = c.requires.rise.1;
  rise = c.requires.rise.2;
  counted = refl;
  fits = omega arith;
  joined_to = joined_none c.args.table.now;
}

pub loop-next-preserved : goal.loop-next-preserved
loop-next-preserved c =
    let so_far = c.loop-next.invariant in
    let x : List ℕ × Slot = c.in-Some.entry in
    let leaves = subst (λ o. Leaves so_far.rest o c.next.new.self) c.in-Some.is (c.in-Ok.ensures.next so_far.rest so_far.left) in
    let shorter = subst (λ o. OnSome o (length c.next.new.self.bytes < length c.loop-next.slots.bytes)) c.in-Some.is c.in-Ok.ensures.shorter in
    let split = ap (λ (ss : List (List ℕ × Slot)). so_far.done ++ ss) (sym leaves.1) in
    let same = append_assoc so_far.done (x ∷ []) leaves.0 ∙ split in
    let below = before_below so_far.done x leaves.0 (subst (IsStrictlySortedBy entry_cmp) (sym split) so_far.rise) in
    let is_ok = sym c.is_err.ensures.value ∙ c.if-is_err.false in
    record {
      done = so_far.done ++ x ∷ [];
      rest = leaves.0;
      left = leaves.2;
      whole = subst (λ (ss : List (List ℕ × Slot)). IsLeft c.args.slots ss) (sym same) so_far.whole;
      rise = subst (IsStrictlySortedBy entry_cmp) (sym same) so_far.rise;
      counted = omega (arith, length-append so_far.done (x ∷ []), so_far.counted);
      fits = omega (arith, shorter, so_far.fits);
      joined_to = joined_more c.args.table.now c.loop-next.table c.join_slot.new.table so_far.done x below so_far.joined_to (no_error c.join_slot.result is_ok c.join_slot.ensures.state) (no_error c.join_slot.result is_ok c.join_slot.ensures.count);
    }

pub returns-in_default : goal.returns-in_default
returns-in_default c =
    let so_far = c.loop-next.invariant in
    let leaves = subst (λ o. Leaves so_far.rest o c.next.new.self) c.in_default.is (c.in-Ok.ensures.next so_far.rest so_far.left) in
    let same : so_far.done ++ so_far.rest ≡ so_far.done = ap (λ (ss : List (List ℕ × Slot)). so_far.done ++ ss) leaves.0 ∙ append-nil so_far.done in (
      so_far.done,
      subst (λ (ss : List (List ℕ × Slot)). IsLeft c.args.slots ss) same so_far.whole,
      (sym so_far.counted, so_far.joined_to),
    )

pub returns-in-Err : goal.returns-in-Err
returns-in-Err c =
    let so_far = c.loop-next.invariant in
    let some : so_far.rest ≡ [] → ⊥ = λ none. (let bad = c.in-Err.ensures.end (subst (λ (ss : List (List ℕ × Slot)). IsLeft c.loop-next.slots ss) none so_far.left) in absurd cc) in
    (so_far.done ++ so_far.rest, so_far.whole, front_refused c.args.table.now c.loop-next.table so_far.done so_far.rest c.loop-next.joined some so_far.counted so_far.joined_to)

pub returns-then-is_err : goal.returns-then-is_err
returns-then-is_err c =
    let so_far = c.loop-next.invariant in
    let x : List ℕ × Slot = c.in-Some.entry in
    let leaves = subst (λ o. Leaves so_far.rest o c.next.new.self) c.in-Some.is (c.in-Ok.ensures.next so_far.rest so_far.left) in
    let split = ap (λ (ss : List (List ℕ × Slot)). so_far.done ++ ss) (sym leaves.1) in
    let refused = sym c.is_err.ensures.value ∙ c.if-is_err.true in (
      so_far.done ++ so_far.rest,
      so_far.whole,
      front_joined c.args.table.now c.loop-next.table c.join_slot.new.table (so_far.done ++ so_far.rest) so_far.done leaves.0 x c.loop-next.joined split so_far.counted so_far.joined_to
          (an_error c.join_slot.result refused c.join_slot.ensures.unchanged),
    )
