use Rattle.std.proofs.Common.{◌≡◌, ℕ, suc, ◌+◌, ◌<◌, List, ◌∷◌, ◌++◌, length, get_or, drop, refl, sym, ap, ◌∙◌, add-one, drop-cons, append_assoc}
use Rattle.lw_delta.specs.Writing.{number16_bytes, numbers_bytes}
use Rattle.lw_delta.proofs.Begins.{begins_same, begins_through}
use Rattle.lw_delta.proofs.writing.put_numbers.Goals as goal

one_more : (ns : List ℕ) (i : ℕ) (a b all : List ℕ) → i < length ns → b ≡ a ++ number16_bytes (get_or ns i 0) → a ++ numbers_bytes (drop i ns) ≡ all → b ++ numbers_bytes (drop (i + 1) ns) ≡ all
one_more ns i a b all lt e h =
    let next : drop i ns ≡ get_or ns i 0 ∷ drop (suc i) ns = drop-cons ns i 0 lt in
    rw add-one (ap (λ (x : List ℕ). x ++ numbers_bytes (drop (suc i) ns)) e ∙ (append_assoc a (number16_bytes (get_or ns i 0)) (numbers_bytes (drop (suc i) ns))
    ∙ (ap (λ (ms : List ℕ). a ++ numbers_bytes ms) (sym next) ∙ h)))

pub loop-number-init : goal.loop-number-init
loop-number-init c = record { written = refl; kept = begins_same refl }

pub returns-in_err-put_number16-clause-kept : goal.returns-in_err-put_number16-clause-kept
returns-in_err-put_number16-clause-kept c = begins_through c.loop-number.invariant.kept c.in_err-put_number16.ensures.kept

pub loop-number-preserved : goal.loop-number-preserved
loop-number-preserved c = record {
  written = one_more c.args.numbers.now c.loop-number.number-index c.loop-number.out.items c.put_number16.new.out.items (c.args.out.now.items ++ numbers_bytes c.args.numbers.now)
      c.loop-number-test.true c.in_ok-put_number16.ensures.written c.loop-number.invariant.written;
  kept = begins_through c.loop-number.invariant.kept c.in_ok-put_number16.ensures.kept;
}

pub returns-clause-kept : goal.returns-clause-kept
returns-clause-kept c = c.loop-number.invariant.kept
