-- Rows of fields, and what they spell.
use Rattle.std.proofs.Common.{◌≡◌, ℕ, List, Option, Some, None, Result, Ok, Err, IsOk, refl, sym, subst, ◌⊎◌, inl, inr}
use Rattle.std.specs.Prelude.{IfNone, IfSome}
use Rattle.std.specs.Option.{ok_or}
use Rattle.std.specs.List.{after_first}
use Rattle.hex.specs.declared.error.FromHexError.{FromHexError}
use Rattle.hex.specs.Hex.{decode_of}
use Rattle.lw_stamp.specs.declared.moment.Moment.{Moment}
use Rattle.lw_stamp.specs.Moment.{ms_of}
use Rattle.lw_reg.specs.declared.addr.Addr.{Addr}
use Rattle.lw_call.specs.declared.question.Question.TheVariants as question
use Rattle.lw_world.specs.declared.event.Event.{Event}
use Rattle.lw_script.specs.declared.fault.LineFault.{LineFault}
use Rattle.lw_script.specs.declared.fault.LineFault.TheVariants.{Refused, NoMemory}
use Rattle.lw_script.specs.Fields.{◌␣◌, IsShort, IsMoment, IsAddress, IsHex, IsName, is_space}
use Rattle.lw_script.specs.inner.Fields.{IsRest}
use Rattle.lw_script.specs.Lines.{Spells, IsAtStart, ReadsAs, asked}

-- where no first field is read, no row is
pub row_none : {A B T : Type 0} (P : A → List ℕ → Type 0) (Q : B → List ℕ → Type 0) (text : List ℕ) (r : Option T) → ((v : A × List ℕ) → ¬ (P ␣ IsRest) v text) → IfNone r ((v : A × B) → ¬ (P ␣ Q) v text)
row_none P Q text (Some x) none = tt
row_none P Q text None none = λ v row. none (v.0, after_first is_space text) (record { parted = row.parted; first = row.first; others = refl })

pub two_none : {A B C T : Type 0} (P : A → List ℕ → Type 0) (Q : B → List ℕ → Type 0) (R : C → List ℕ → Type 0) (text : List ℕ) (r : Option T) → ((v : A × (B × List ℕ)) → ¬ (P ␣ Q ␣ IsRest) v text) → IfNone r ((v : A × (B × C)) → ¬ (P ␣ Q ␣ R) v text)
two_none P Q R text (Some x) none = tt
two_none P Q R text None none = λ v row. none (v.0, (v.1.0, after_first is_space (after_first is_space text)))
    (record { parted = row.parted; first = row.first; others = record { parted = row.others.parted; first = row.others.first; others = refl } })

pub change_spelled : (node : ℕ) (now : Moment) (e : Event) (fields : List ℕ) → IsShort node fields → ms_of now ≡ 0 → e ≡ asked node now question.Change → Spells IsAtStart (λ (node, now). asked node now question.Change) e fields
change_spelled node now e fields is zero e_is = record { values = (node, now); said = record { node = is; now = zero }; event_is = e_is }

pub hex_some : (text : List ℕ) (d : Result (List ℕ) FromHexError) → decode_of text ≡ d → IsOk d → (x : List ℕ) × IsHex x text
hex_some text (Ok x) e ok = (x, e)
hex_some text (Err f) e ok = absurd cc

-- a fault of what the values are made of is one of the values
pub fault_of : {U V : Type 0} (Old : U → Type 0) (New : V → Type 0) (fault : LineFault) → ((u : U) → Old u → (v : V) × New v) → ((v : V) → New v → (u : U) × Old u) → ReadsAs Old (Err fault) → ReadsAs New (Err fault)
fault_of Old New Refused to back none = λ v is. let old = back v is in none old.0 old.1
fault_of Old New NoMemory to back some = to some.0 some.1

-- where a rest of the line is a last field or not, so is the line
pub two_not : {C : Type 0} (Q : C → List ℕ → Type 0) (text : List ℕ) → ((v : ℕ × (Moment × List ℕ)) → ¬ (IsShort ␣ IsMoment ␣ IsRest) v text) → (v : ℕ × (Moment × C)) → ¬ (IsShort ␣ IsMoment ␣ Q) v text
two_not Q text none = two_none IsShort IsMoment Q text (let r : Option ℕ = None in r) none

pub two_fault : {C : Type 0} (Q : C → List ℕ → Type 0) (text rest : List ℕ) (node : ℕ) (now : Moment) (fault : LineFault) → (IsShort ␣ IsMoment ␣ IsRest) (node, (now, rest)) text → ReadsAs (λ u. Q u rest) (Err fault) → ReadsAs (λ (x : ℕ × Moment × C). (IsShort ␣ IsMoment ␣ Q) (x.0, (x.1, x.2)) text) (Err fault)
two_fault Q text rest node now fault row = fault_of (λ u. Q u rest) (λ x. (IsShort ␣ IsMoment ␣ Q) (x.0, (x.1, x.2)) text) fault
    (λ u is. ((node, now, u), record { parted = row.parted; first = row.first; others = record { parted = row.others.parted; first = row.others.first; others = subst (Q u) (sym row.others.others) is } }))
    (λ x is. (x.2, subst (Q x.2) row.others.others is.others.others))

abbrev IsSender : ℕ × (Moment × (Addr × List ℕ)) → List ℕ → Type 0
IsSender v text = (IsShort ␣ IsMoment ␣ IsAddress ␣ IsRest) v text

abbrev IsTaken : ℕ × (Moment × (Addr × List ℕ)) → List ℕ → Type 0
IsTaken v text = (IsShort ␣ IsMoment ␣ IsAddress ␣ IsHex) v text

pub sender_not : (text : List ℕ) → ((v : ℕ × (Moment × (Addr × List ℕ))) → ¬ IsSender v text) → (v : ℕ × (Moment × (Addr × List ℕ))) → ¬ IsTaken v text
sender_not text none v row = none (v.0, (v.1.0, (v.1.1.0, after_first is_space (after_first is_space (after_first is_space text)))))
    (record {
      parted = row.parted;
      first = row.first;
      others = record {
        parted = row.others.parted;
        first = row.others.first;
        others =
            record { parted = row.others.others.parted; first = row.others.others.first; others = refl };
      };
    })

pub taken : (text rest bytes : List ℕ) (node : ℕ) (now : Moment) (from : Addr) → IsSender (node, (now, (from, rest))) text → IsHex bytes rest → IsTaken (node, (now, (from, bytes))) text
taken text rest bytes node now from row is =
    record {
      parted = row.parted;
      first = row.first;
      others = record {
        parted = row.others.parted;
        first = row.others.first;
        others =
            record { parted = row.others.others.parted; first = row.others.others.first; others = subst (IsHex bytes) (sym row.others.others.others) is };
      };
    }

-- what an option that finds what is said reads
pub option_reads : (Says : Event → Type 0) (r : Option Event) (s : Result Event LineFault) → IfSome r Says → IfNone r ((e : Event) → ¬ Says e) → s ≡ ok_or r Refused → ReadsAs Says s
option_reads Says (Some e) s found none same = subst (λ x. ReadsAs Says x) (sym same) found
option_reads Says None s found none same = subst (λ x. ReadsAs Says x) (sym same) none

pub take_fault : (text rest : List ℕ) (node : ℕ) (now : Moment) (from : Addr) (event : ℕ × (Moment × (Addr × List ℕ)) → Event) (fault : LineFault) → IsSender (node, (now, (from, rest))) text → ReadsAs (λ bytes. IsHex bytes rest) (Err fault) → ReadsAs (λ e. Spells (IsShort ␣ IsMoment ␣ IsAddress ␣ IsHex) event e text) (Err fault)
take_fault text rest node now from event fault row = fault_of (λ bytes. IsHex bytes rest) (λ e. Spells (IsShort ␣ IsMoment ␣ IsAddress ␣ IsHex) event e text) fault
    (λ bytes is. (event (node, (now, (from, bytes))), record { values = (node, (now, (from, bytes))); said = taken text rest bytes node now from row is; event_is = refl }))
    (λ e s. (s.values.1.1.1, subst (IsHex s.values.1.1.1) row.others.others.others s.said.others.others.others))

abbrev IsNamed : List ℕ → ℕ × Moment × List ℕ → Type 0
IsNamed text x = (IsShort ␣ IsMoment ␣ IsName) (x.0, (x.1, x.2)) text

pub named_fault : (text : List ℕ) (event : ℕ × (Moment × List ℕ) → Event) (fault : LineFault) → ReadsAs (IsNamed text) (Err fault) → ReadsAs (λ e. Spells (IsShort ␣ IsMoment ␣ IsName) event e text) (Err fault)
named_fault text event fault = fault_of (IsNamed text) (λ e. Spells (IsShort ␣ IsMoment ␣ IsName) event e text) fault
    (λ x is. (event (x.0, (x.1, x.2)), record { values = (x.0, (x.1, x.2)); said = is; event_is = refl }))
    (λ e s. ((s.values.0, s.values.1.0, s.values.1.1), s.said))

either_fault : (One Other : Event → Type 0) (fault : LineFault) → ((e : Event) → ¬ One e) → ReadsAs Other (Err fault) → ReadsAs (λ e. One e ⊎ Other e) (Err fault)
either_fault One Other Refused not none = λ e s. elim s [ inl a ↦ not e a | inr b ↦ none e b ]
either_fault One Other NoMemory not some = (some.0, inr some.1)

pub next_fault : (text : List ℕ) (one : ℕ × Moment → Event) (event : ℕ × (Moment × List ℕ) → Event) (fault : LineFault) → ((v : ℕ × Moment) → ¬ (IsShort ␣ IsMoment) v text) → ReadsAs (IsNamed text) (Err fault) → ReadsAs (λ e. Spells (IsShort ␣ IsMoment) one e text ⊎ Spells (IsShort ␣ IsMoment ␣ IsName) event e text) (Err fault)
next_fault text one event fault not named = either_fault _ _ fault (λ e s. not s.values s.said) (named_fault text event fault named)
