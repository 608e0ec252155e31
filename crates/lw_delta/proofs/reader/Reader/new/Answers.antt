use Rattle.std.proofs.Common.{◌≡◌, ℕ, List, [], ap, sym, subst}
use Rattle.lw_reg.specs.declared.slot.Slot.{Slot}
use Rattle.lw_delta.specs.declared.fault.DeltaFault.TheVariants.{NoMemory}
use Rattle.lw_delta.specs.Delta.{DeltaContent, IsSpelling}
use Rattle.lw_delta.specs.Part.{Found}
use Rattle.lw_delta.specs.Format.{slots}
use Rattle.lw_delta.specs.Unread.{Unread, IsLeft}
use Rattle.lw_delta.proofs.Answering.{apart, one_delta, walked_spelled, fault_answered, no_fault_answered, no_want}
use Rattle.std.proofs.lemmas.Result.{err_from_is_err_and}
use Rattle.lw_delta.proofs.reader.Reader.new.Goals as goal

pub returns-in_err-walked-clause-only : goal.returns-in_err-walked-clause-only
returns-in_err-walked-clause-only c = λ d s. absurd (apart c.args.bytes.now d _ s c.in_err-walked.ensures.fault)

pub returns-in_err-walked-clause-faults : goal.returns-in_err-walked-clause-faults
returns-in_err-walked-clause-faults c =
    let p = err_from_is_err_and c.from_residual.result c.from_residual.ensures.1 in
    rw (p.1, p.2) (fault_answered c.args.bytes.now _ c.in_err-walked.ensures.fault)

pub returns-clause-found : goal.returns-clause-found
returns-clause-found c =
    let w = c.in_ok-walked.ensures.found in
    let bytes = c.args.bytes.now in
    subst (λ (u : Unread). (ss : List (List ℕ × Slot)) × IsLeft u ss × IsSpelling bytes (record { clock = u.clock; slots = ss })) (sym c.of.ensures) (w.ss, w.found, walked_spelled bytes c.in_ok-walked.walked w)

pub returns-clause-only : goal.returns-clause-only
returns-clause-only c = λ d s.
    let w = c.in_ok-walked.ensures.found in
    let walked = c.in_ok-walked.walked in
    let same = one_delta c.args.bytes.now (record { clock = walked.clock; slots = w.ss }) d (walked_spelled c.args.bytes.now walked w) s in
    subst (λ (u : Unread). (u.clock ≡ d.clock) × IsLeft u d.slots) (sym c.of.ensures) (
      ap (λ (x : DeltaContent). x.clock) same,
      subst (λ (ss : List (List ℕ × Slot)). Found (slots walked.form walked.clock) walked.slots.now ss []) (ap (λ (x : DeltaContent). x.slots) same) w.found,
    )

pub returns-clause-faults : goal.returns-clause-faults
returns-clause-faults c =
    let w = c.in_ok-walked.ensures.found in
    no_fault_answered c.args.bytes.now _ (record { clock = c.in_ok-walked.walked.clock; slots = w.ss }) (walked_spelled c.args.bytes.now c.in_ok-walked.walked w)

pub returns-in_err-walked-clause-memory : goal.returns-in_err-walked-clause-memory
returns-in_err-walked-clause-memory c = λ want. no_want c.args.bytes.now ((returns-in_err-walked-clause-faults c NoMemory).0 want)

pub returns-clause-memory : goal.returns-clause-memory
returns-clause-memory c = λ want. no_want c.args.bytes.now ((returns-clause-faults c NoMemory).0 want)
