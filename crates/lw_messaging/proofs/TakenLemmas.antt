-- What it means that a datagram is taken.
use Rattle.std.proofs.Common.{◌≡◌, ℕ, List, sym, subst, refl, ap, ◌∙◌}
use Rattle.std.specs.Prelude.{Option, Some, None, Result, Ok, Err, IfOk, OnErr}
use Rattle.lw_stamp.specs.declared.no_memory.NoMemory.{NoMemory}
use Rattle.lw_coap.specs.Message.{MessageContent}
use Rattle.lw_coap.specs.Grammar.{IsSpelling}
use Rattle.lw_coap.proofs.Messages.{one_message}
use Rattle.lw_reg.specs.declared.addr.Addr.{Addr}
use Rattle.lw_messaging.specs.declared.piece.Piece.{Piece}
use Rattle.lw_messaging.specs.declared.piece.Piece.TheVariants.{Through}
use Rattle.lw_messaging.specs.BlockAnswers.{block_of, without_block}
use Rattle.lw_messaging.specs.Kept.{BodyContent, AreBounded}
use Rattle.lw_messaging.specs.Bodies.{Outcome, of_block, outcome_of, outcome, after, IsDone, IsTaken}

pub taken_nothing : (old : List BodyContent) (now : ℕ) (from : Addr) (bytes : List ℕ)
    → ((m : MessageContent) → IsSpelling bytes m → ⊥)
    → IsTaken old now from bytes Through old
taken_nothing old now from bytes h = record { no_message = λ g. (tt, refl); message = λ m s. absurd (h m s) }

pub taken_result : (old new : List BodyContent) (now : ℕ) (from : Addr) (bytes : List ℕ) (message : MessageContent)
    (result : Result Piece NoMemory) → IsSpelling bytes message
    → IfOk result (λ piece. IsDone old now from (outcome old now from message) piece new)
    → IfOk result (λ piece. IsTaken old now from bytes piece new)
taken_result old new now from bytes message (Ok piece) spelled done = record {
  no_message = λ h. absurd (h message spelled);
  message = λ m s. subst (λ (x : MessageContent). IsDone old now from (outcome old now from x) piece new)
      (one_message bytes message m spelled s) done;
}
taken_result old new now from bytes message (Err e) spelled done = tt

pub passed : (old : List BodyContent) (now : ℕ) (from : Addr) (message : MessageContent) (some : Option ℕ)
    → some ≡ block_of message
    → some ≡ None → IsDone old now from (outcome old now from message) Through old
passed old now from message some has none =
    subst (λ (o : Option ℕ). IsDone old now from (outcome_of old now from message o) Through old) (sym none ∙ has)
    (tt, refl)

pub done_block : (old new : List BodyContent) (now : ℕ) (from : Addr) (message rest : MessageContent) (value : ℕ)
    (result : Result Piece NoMemory) → Some value ≡ block_of message → rest ≡ without_block message
    → IfOk result (λ piece. IsDone old now from (of_block old now from value rest) piece new)
    → IfOk result (λ piece. IsDone old now from (outcome old now from message) piece new)
done_block old new now from message rest value result has is done =
    let e : of_block old now from value rest ≡ outcome old now from message =
    ap (λ (m : MessageContent). of_block old now from value m) is ∙ ap
    (λ (o : Option ℕ). outcome_of old now from message o) has in
    subst (λ (o : Outcome). IfOk result (λ piece. IsDone old now from o piece new)) e done

pub bounded_result : (old new : List BodyContent) (now : ℕ) (from : Addr) (outcome : Outcome)
    (result : Result Piece NoMemory)
    → IfOk result (λ piece. IsDone old now from outcome piece new) → OnErr result (new ≡ old) → AreBounded old
    → AreBounded (after old now from outcome) → AreBounded new
bounded_result old new now from outcome (Ok piece) done memory was will = subst
    (λ (l : List BodyContent). AreBounded l) (sym done.1) will
bounded_result old new now from outcome (Err e) done memory was will = subst (λ (l : List BodyContent). AreBounded l)
    (sym memory) was
