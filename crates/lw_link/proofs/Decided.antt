-- Bytes spell a list or have a fault.
use Rattle.std.proofs.Common.{◌≡◌, ◌≢◌, ℕ, ◌+◌, ◌⊎◌, true, List, [], ◌∷◌, length, refl, inl, inr, chars}
use Rattle.std.specs.Str.{is_utf8}
use Rattle.std.specs.Char.{len_utf8}
use Rattle.std.proofs.lemmas.Bool.{both_ways, cases_Bool, cases_lt}
use Rattle.std.proofs.lemmas.Str.{IsUtf8-from_is_utf8, is_utf8-from_IsUtf8}
use Rattle.lw_link.specs.declared.fault.LinkFault.{LinkFault}
use Rattle.lw_link.specs.declared.fault.LinkFault.TheVariants.{NotText, Grammar, TooMany}
use Rattle.lw_link.specs.declared.style.Style.{Style}
use Rattle.lw_link.specs.declared.style.Style.TheVariants.{Any}
use Rattle.lw_link.specs.declared.state.State.{State}
use Rattle.lw_link.specs.declared.state.State.TheVariants.{Start, Target, Closed, Comma, Semicolon, Name, Equals, Word, Quotation, Backslash, Stop}
use Rattle.lw_link.specs.Spelling.{Spells}
use Rattle.lw_link.specs.Faults.{IsFault, IsRead}
use Rattle.lw_link.specs.inner.Machine.{read_on, next_state, is_end, Leaves}
use Rattle.lw_link.proofs.Sound.{whole_are}
use Rattle.lw_link.proofs.Places.{not_spelled, place_is}
use Rattle.lw_link.proofs.Scanned.{IsScanned, opened, scanned_start, scanned_more, scanned_stop, scanned_open, scanned_whole}

is_stop : (s : State) → (s ≡ Stop) ⊎ (s ≢ Stop)
is_stop Stop = inl refl
is_stop Start = inr (λ e. cc)
is_stop Target = inr (λ e. cc)
is_stop Closed = inr (λ e. cc)
is_stop Comma = inr (λ e. cc)
is_stop Semicolon = inr (λ e. cc)
is_stop Name = inr (λ e. cc)
is_stop Equals = inr (λ e. cc)
is_stop Word = inr (λ e. cc)
is_stop Quotation = inr (λ e. cc)
is_stop Backslash = inr (λ e. cc)

-- a text is a whole list, or leaves the grammar at a place
whole_or_leaves : (k : Style) (text : List ℕ) (s : State) (links place : ℕ) (left : List ℕ) → IsScanned k text s links place left
    → ((read_on k Start (chars text)).whole ≡ true) ⊎ ((p : ℕ) × Leaves k (chars text) p)
whole_or_leaves k text s links place [] h =
    elim (cases_Bool (is_end s)) [
      | inl end ↦ inl (scanned_whole k text s links place [] refl end h).0
      | inr end ↦ inr (place, scanned_open k text s links place [] refl end h)
    ]
whole_or_leaves k text s links place (c ∷ left) h =
    elim (is_stop (next_state k s c)) [
      | inl stop ↦ inr (place, scanned_stop k text s links place (c ∷ left) left c refl stop h)
      | inr live ↦ whole_or_leaves k text (next_state k s c) (links + opened s c) (place + len_utf8 c) left (scanned_more k text s links place (c ∷ left) left c refl live h)
    ]

pub read_or_fault : (bytes : List ℕ) → IsRead bytes ⊎ ((fault : LinkFault) × IsFault bytes fault)
read_or_fault bytes =
    elim (cases_Bool (is_utf8 bytes)) [
      | inr other ↦ inr (NotText, λ text. both_ways (is_utf8 bytes) other (is_utf8-from_IsUtf8 bytes text))
      | inl is ↦ (let text = IsUtf8-from_is_utf8 bytes is in
          elim (whole_or_leaves Any bytes Start 0 0 (chars bytes) (scanned_start Any bytes text)) [
            | inr (place, leaves) ↦ inr (Grammar place, (text, not_spelled bytes place leaves, place_is bytes place text leaves))
            | inl whole ↦ (let links = (read_on Any Start (chars bytes)).links in
                let spells : Spells bytes links = (text, whole_are Any (chars bytes) Start whole) in
                elim (cases_lt 256 (length links)) [
                  | inl many ↦ inr (TooMany, (links, spells, many))
                  | inr few ↦ inl (links, spells, few)
                ])
          ])
    ]
