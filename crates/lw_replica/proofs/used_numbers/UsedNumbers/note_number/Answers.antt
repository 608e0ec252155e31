use Rattle.std.proofs.Common.{◌≡◌, ◌↔◌, ◌⊎◌, ℕ, List, ◌/◌, ◌%◌, ◌*◌, ◌^◌, arith, sym, subst, length, get_or, bit_or}
use Rattle.std.proofs.Math.ListN.{set}
use Rattle.lw_replica.specs.Reading.{HasBit}
use Rattle.lw_replica.proofs.Numbering.{bit_noted}
use Rattle.lw_replica.proofs.used_numbers.UsedNumbers.note_number.Goals as goal

pub returns : goal.returns
returns c = λ n.
    let number = c.args.number in
    let long : length c.deref_mut.result.now ≡ 8192 = omega arith in
    subst (λ i. HasBit (set c.deref_mut.result.now i (bit_or (get_or c.deref_mut.result.now i 0) (1 * 2 ^ (number % 8) % 256))) n ↔ (HasBit c.args.self.now.bytes.value n ⊎ (number ≡ n)))
    (sym c.from.ensures) (subst (λ (xs : List ℕ). HasBit (set c.deref_mut.result.now (number / 8) (bit_or (get_or c.deref_mut.result.now (number / 8) 0) (1 * 2 ^ (number % 8) % 256))) n ↔ (HasBit xs n ⊎ (number ≡ n)))
    c.deref_mut.ensures.value (bit_noted c.deref_mut.result.now number n (omega arith) long))
