-- Messages that have a block, without it and with what came before.
use Rattle.std.proofs.Common.{◌≡◌, ℕ, ◌+◌, ◌*◌, ◌<◌, ◌≤◌, List, [], ◌∷◌, ◌++◌, length, Bool, true, false, cond, ◌&&◌}
use Rattle.std.proofs.Common.{eqb, refl, sym, subst, arith, inl, inr, ◌⊎◌}
use Rattle.std.specs.Prelude.{filter, Option, Some, None, Result, Ok, Err}
use Rattle.lw_coap.specs.declared.fault.Fault.{Fault}
use Rattle.lw_coap.specs.declared.fault.Fault.TheVariants.{NoMemory}
use Rattle.std.proofs.lemmas.Bool.{eqb-true}
use Rattle.lw_coap.specs.Message.{OptionContent, MessageContent}
use Rattle.lw_coap.specs.Fits.{Fits, AreRising, printed_length}
use Rattle.lw_messaging.specs.Blocks.{block_in, is_of_body}
use Rattle.lw_messaging.specs.BlockAnswers.{asks, block_of, without_block}
use Rattle.lw_messaging.specs.inner.Ready.{IsReady}

-- ---- options of which some are left out still rise
rising_from : (a b : ℕ) (options : List OptionContent) → a ≤ b → AreRising b options → AreRising a options
rising_from a b [] le h = tt
rising_from a b (option ∷ options) le h = (omega (arith, le, h.0), h.1, h.2)

pub rising_kept : (test : OptionContent → Bool) (before : ℕ) (options : List OptionContent) → AreRising before options
    → AreRising before (filter test options)
rising_kept test before [] h = tt
rising_kept test before (option ∷ options) h =
    let rest : AreRising option.number (filter test options) = rising_kept test option.number options h.2 in
    elim (test option) as (λ b. AreRising before (cond b (option ∷ filter test options) (filter test options))) [
      | true ↦ (h.0, h.1, rest)
      | false ↦ rising_from before option.number (filter test options) h.0 rest
    ]

-- ---- a message that has a block
second_is : (a b : Bool) (some : Option ℕ) (value : ℕ) → cond (a && b) some None ≡ Some value → b ≡ true
second_is true true some value h = refl
second_is true false some value h = absurd (cc)
second_is false b some value h = absurd (cc)

pub ready_from : (message : MessageContent) (value : ℕ) → Fits message → block_of message ≡ Some value
    → IsReady (without_block message)
ready_from message value fits has = record {
  token = fits.token;
  mid = fits.mid;
  code = eqb-true message.code 2 (second_is (asks message.kind) (eqb message.code 2) (block_in message.options) value
      has);
  options = rising_kept is_of_body 0 message.options fits.options;
}

pub ready_fits : (message : MessageContent) → IsReady message → printed_length message ≤ 8192 → Fits message
ready_fits message ready short =
    let code : message.code ≡ 2 = ready.code in
    record {
      token = ready.token;
      code = omega (arith, code);
      mid = ready.mid;
      options = ready.options;
      empty = λ (e : message.code ≡ 0). absurd (omega (arith, code, e));
      within = short;
    }

by_order : (n : ℕ) → (n ≤ 8192 → ⊥) → 8192 < n
by_order n never = omega (arith, never)

pub long_from : (message : MessageContent) → IsReady message → (Fits message → ⊥) → 8192 < printed_length message
long_from message ready never = by_order (printed_length message)
    (λ (h : printed_length message ≤ 8192). never (ready_fits message ready h))

-- ---- bytes that are not read
pub unread : (result : Result MessageContent Fault) (fault : Fault) (message : MessageContent) → result ≡ Err fault
    → (fault ≡ NoMemory → ⊥) → (result ≡ Ok message) ⊎ (result ≡ Err NoMemory) → ⊥
unread result fault message is other (inl e) = absurd (cc)
unread result fault message is other (inr e) = other (cc)
