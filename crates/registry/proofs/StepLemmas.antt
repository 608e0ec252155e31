-- A line that is taken.
use Rattle.std.proofs.Common.{◌≡◌, ◌∙◌, ◌==◌, ℕ, List, [], length, Bool, true, false, true≢false, ap, sym}
use Rattle.lw_stamp.specs.declared.moment.Moment.{Moment}
use Rattle.lw_reg.specs.declared.addr.Addr.{Addr}
use Rattle.registry.specs.declared.registry.Registry.{Registry}
use Rattle.registry.specs.Line.{IsReceived}
use Rattle.registry.specs.Steps.{Receives, TakesLine}

-- a line that spells a datagram, and so is not empty
pub takes_full : (old : Registry) (line : List ℕ) (now : Moment) (source : Addr) (datagram text : List ℕ) (new : Registry) → ¬ (line ≡ []) → IsReceived now source datagram line → Receives old now source datagram text new → TakesLine old line text new
takes_full old line now source datagram text new some spelled receives =
    record {
      empty = λ none. absurd (some none);
      full = λ _. record {
        now = now;
        source = source;
        datagram = datagram;
        spelled = spelled;
        receives = receives;
      };
    }

-- what is not empty
pub not_empty : (line : List ℕ) (empty : Bool) → empty ≡ (length line == 0) → empty ≡ false → ¬ (line ≡ [])
not_empty line empty is unlike none =
    let yes : empty ≡ true = is ∙ ap (λ (l : List ℕ). length l == 0) none in
    true≢false (sym yes ∙ unlike)
