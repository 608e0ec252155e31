-- What a replay prints, line by line, and how it stops.
use Rattle.std.proofs.Common.{◌≡◌, ℕ, zero, suc, ◌+◌, ◌<◌, ◌≤◌, ◌⊎◌, List, [], ◌∷◌, ◌++◌, length, take, drop, slice_index_or, Option, Some, None, refl, sym, ap, subst, ◌∙◌, inl, inr, arith, append_assoc, append-nil}
use Rattle.std.specs.Prelude.{IfSome}
use Rattle.std.specs.Io.KnownBytes.{Appends, Keeps}
use Rattle.std.proofs.KnownBytes.{Appends-trans}
use Rattle.lw_world.specs.declared.event.Event.{Event}
use Rattle.lw_world.specs.declared.outcome.Outcome.{Outcome}
use Rattle.lw_world.specs.Run.{History, Runs, begun}
use Rattle.lw_world.specs.World.{WorldContent, world_of}
use Rattle.lw_script.specs.Script.{lines_of, AreLines, IsFirstBad, IsScript, ScriptContent}
use Rattle.lw_fleet.specs.declared.fault.Fault.{Fault}
use Rattle.lw_fleet.specs.declared.fault.Fault.TheVariants.{ReadFailed, TooLong, LineRefused, WriteFailed, NoMemory}
use Rattle.lw_serve.specs.Ending.{AppendsFront}
use Rattle.lw_fleet.specs.Replay.{line_text, lines_text, longest_script, IsReplayed, IsReplayStopped, Replays, ReplaysFront}
use Rattle.lw_fleet.proofs.OneLemmas.{if_some}

-- ---- fronts

appends_none : (a b : Option (List ℕ)) → Keeps a b → Appends a b []
appends_none None b keeps = tt
appends_none (Some x) None keeps = absurd keeps
appends_none (Some x) (Some y) keeps = keeps ∙ sym (append-nil x)

pub front_none : (a b : Option (List ℕ)) (text : List ℕ) → Keeps a b → AppendsFront a b text
front_none a b text keeps = ([], text, refl, appends_none a b keeps)

pub front_after : (a b c : Option (List ℕ)) (done text : List ℕ) → Appends a b done → AppendsFront b c text → AppendsFront a c (done ++ text)
front_after a b c done text written (front, back, split, more) =
    (done ++ front, back, ap (λ l. done ++ l) split ∙ sym (append_assoc done front back), Appends-trans a b c done front written more)

pub front_before : (a b : Option (List ℕ)) (text rest : List ℕ) → AppendsFront a b text → AppendsFront a b (text ++ rest)
front_before a b text rest (front, back, split, written) = (front, back ++ rest, ap (λ l. l ++ rest) split ∙ append_assoc front back rest, written)

-- ---- lines

lines_next : (ms : List (List ℕ)) (os : List Outcome) (k : ℕ) (o : Outcome) → k < length os → o ≡ slice_index_or os k o
    → lines_text ms (take (suc k) os) ≡ lines_text ms (take k os) ++ line_text ms o
lines_next ms [] k o within value = absurd (omega (arith, within))
lines_next ms (y ∷ ys) zero o within value = append-nil (line_text ms y) ∙ ap (line_text ms) (sym value)
lines_next ms (y ∷ ys) (suc k) o within value =
    ap (λ l. line_text ms y ++ l) (lines_next ms ys k o (omega (arith, within)) value) ∙ sym (append_assoc (line_text ms y) (lines_text ms (take k ys)) (line_text ms o))

lines_apart : (ms : List (List ℕ)) (os : List Outcome) (k : ℕ) → lines_text ms os ≡ lines_text ms (take k os) ++ lines_text ms (drop k os)
lines_apart ms [] zero = refl
lines_apart ms [] (suc k) = refl
lines_apart ms (y ∷ ys) zero = refl
lines_apart ms (y ∷ ys) (suc k) =
    ap (λ l. line_text ms y ++ l) (lines_apart ms ys k) ∙ sym (append_assoc (line_text ms y) (lines_text ms (take k ys)) (lines_text ms (drop k ys)))

-- a line more was written
pub lines_on : (a b c : Option (List ℕ)) (ms : List (List ℕ)) (os : List Outcome) (k : ℕ) (o : Outcome) → k < length os → o ≡ slice_index_or os k o
    → Appends a b (lines_text ms (take k os)) → Appends b c (line_text ms o) → Appends a c (lines_text ms (take (k + 1) os))
lines_on a b c ms os k o within value written more =
    let one : suc k ≡ k + 1 = omega arith in
    subst (Appends a c) (sym (lines_next ms os k o within value) ∙ ap (λ n. lines_text ms (take n os)) one) (Appends-trans a b c _ _ written more)

-- a line was written in part
pub lines_front : (a b c : Option (List ℕ)) (ms : List (List ℕ)) (os : List Outcome) (k : ℕ) (o : Outcome) → k < length os → o ≡ slice_index_or os k o
    → Appends a b (lines_text ms (take k os)) → AppendsFront b c (line_text ms o) → AppendsFront a c (lines_text ms os)
lines_front a b c ms os k o within value written more =
    subst (AppendsFront a c) (ap (λ l. l ++ lines_text ms (drop (suc k) os)) (sym (lines_next ms os k o within value)) ∙ sym (lines_apart ms os (suc k)))
    (front_before a c _ (lines_text ms (drop (suc k) os)) (front_after a b c _ (line_text ms o) written more))

take_whole : {T : Type 0} (n : ℕ) (xs : List T) → length xs ≤ n → take n xs ≡ xs
take_whole zero [] past = refl
take_whole (suc n) [] past = refl
take_whole zero (y ∷ ys) past = absurd (omega (arith, past))
take_whole (suc n) (y ∷ ys) past = ap (λ l. y ∷ l) (take_whole n ys (omega (arith, past)))

-- all lines were written
pub lines_whole : (a b : Option (List ℕ)) (ms : List (List ℕ)) (os : List Outcome) (k : ℕ) → length os ≤ k
    → Appends a b (lines_text ms (take k os)) → Appends a b (lines_text ms os)
lines_whole a b ms os k past written = subst (λ l. Appends a b (lines_text ms l)) (take_whole k os past) written

pub appends_kept : (a b c : Option (List ℕ)) (text : List ℕ) → Appends a b text → Keeps b c → Appends a c text
appends_kept None b c text written keeps = tt
appends_kept (Some x) None c text written keeps = absurd written
appends_kept (Some x) (Some y) None text written keeps = absurd keeps
appends_kept (Some x) (Some y) (Some z) text written keeps = keeps ∙ written

pub front_whole : (a b : Option (List ℕ)) (text : List ℕ) → Appends a b text → AppendsFront a b text
front_whole a b text written = (text, [], sym (append-nil text), written)

-- ---- runs of a script

pub between : (nodes : ℕ) (events : List Event) (bytes : List ℕ) → IsScript nodes events bytes → (1 ≤ nodes) × (nodes ≤ 16)
between nodes events bytes is = of_lines (lines_of bytes) is
  where
    of_lines : (lines : List (List ℕ)) → AreLines nodes events lines → (1 ≤ nodes) × (nodes ≤ 16)
    of_lines [] none = absurd none
    of_lines (first ∷ others) are = (are.0.some, omega (arith, are.0.number_is.fits))

-- what a script that was read lends is spelled by the bytes that were read
pub spelled : (bytes seen : List ℕ) (nodes : ℕ) (events : List Event) (content : ScriptContent) (lent : List Event)
    → seen ≡ bytes → content ≡ record { nodes = nodes; events = events } → lent ≡ content.events → IsScript nodes events seen → IsScript content.nodes lent bytes
spelled bytes seen nodes events content lent same is_content is_lent is =
    let of_bytes = subst (λ (b : List ℕ). IsScript nodes events b) same is in
    let of_content = subst (λ (s : ScriptContent). IsScript s.nodes s.events bytes) (sym is_content) of_bytes in
    subst (λ (es : List Event). IsScript content.nodes es bytes) (sym is_lent) of_content

-- the bytes were read, and their run has these outcomes
module _ (input before after : Option (List ℕ)) (bytes : List ℕ) (nodes : ℕ) (events : List Event) (outcomes : List Outcome) (world : WorldContent)
    (read : IfSome input (λ all. bytes ≡ all)) (fits : length bytes ≤ longest_script) (is : IsScript nodes events bytes)
    (ran : (h : History) × Runs (begun nodes) events outcomes h × (world ≡ world_of h)) where
  replayed : (all : List ℕ) → bytes ≡ all → IsReplayed all (lines_text world.messages outcomes)
  replayed all same = subst (λ b. IsReplayed b (lines_text world.messages outcomes)) same (record {
    nodes = nodes;
    events = events;
    outcomes = outcomes;
    history = ran.0;
    fits = fits;
    is = is;
    runs = ran.1;
    text_is = ap (λ (w : WorldContent). lines_text w.messages outcomes) ran.2;
  })

  pub replays : Appends before after (lines_text world.messages outcomes) → Replays input before after
  replays written = if_some input _ _ read (λ all same. (lines_text world.messages outcomes, replayed all same, written))

  replays_front : AppendsFront before after (lines_text world.messages outcomes) → ReplaysFront input before after
  replays_front written = if_some input _ _ read (λ all same. (lines_text world.messages outcomes, replayed all same, written))

  pub stopped_writing : (fault : Fault) → (fault ≡ WriteFailed) ⊎ (fault ≡ NoMemory) → AppendsFront before after (lines_text world.messages outcomes)
      → IsReplayStopped input before after fault
  stopped_writing fault (inl h) written = record {
    too_long = λ k. absurd cc;
    refused = λ line k. absurd cc;
    front = λ k. replays_front written;
    memory = λ k. absurd cc;
    nothing = λ k l. absurd (k h);
    of_one = (λ k. cc, λ k. cc);
  }
  stopped_writing fault (inr h) written = record {
    too_long = λ k. absurd cc;
    refused = λ line k. absurd cc;
    front = λ k. absurd cc;
    memory = λ k. inr (replays_front written);
    nothing = λ k l. absurd (l h);
    of_one = (λ k. cc, λ k. cc);
  }

-- ---- before anything is written

pub keeps_same : (a : Option (List ℕ)) → Keeps a a
keeps_same None = tt
keeps_same (Some x) = refl

pub stopped_for_memory : (input before after : Option (List ℕ)) (fault : Fault) → fault ≡ NoMemory → Keeps before after → IsReplayStopped input before after fault
stopped_for_memory input before after fault h keeps = record {
  too_long = λ k. absurd cc;
  refused = λ line k. absurd cc;
  front = λ k. absurd cc;
  memory = λ k. inl keeps;
  nothing = λ k l. keeps;
  of_one = (λ k. cc, λ k. cc);
}

pub stopped_reading : (input before after : Option (List ℕ)) (fault : Fault) → (fault ≡ ReadFailed) ⊎ ((fault ≡ TooLong) ⊎ (fault ≡ NoMemory))
    → (fault ≡ TooLong → IfSome input (λ bytes. longest_script < length bytes)) → Keeps before after → IsReplayStopped input before after fault
stopped_reading input before after fault (inl h) long keeps = record {
  too_long = long;
  refused = λ line k. absurd cc;
  front = λ k. absurd cc;
  memory = λ k. inl keeps;
  nothing = λ k l. keeps;
  of_one = (λ k. cc, λ k. cc);
}
stopped_reading input before after fault (inr (inl h)) long keeps = record {
  too_long = long;
  refused = λ line k. absurd cc;
  front = λ k. absurd cc;
  memory = λ k. inl keeps;
  nothing = λ k l. keeps;
  of_one = (λ k. cc, λ k. cc);
}
stopped_reading input before after fault (inr (inr h)) long keeps = stopped_for_memory input before after fault h keeps

pub stopped_at_a_line : (input before after : Option (List ℕ)) (bytes : List ℕ) (fault : Fault) → IfSome input (λ all. bytes ≡ all) → length bytes ≤ longest_script
    → ((line : ℕ) × (fault ≡ LineRefused line)) ⊎ (fault ≡ NoMemory) → ((line : ℕ) → fault ≡ LineRefused line → IsFirstBad (lines_of bytes) line)
    → Keeps before after → IsReplayStopped input before after fault
stopped_at_a_line input before after bytes fault read fits (inl (n, h)) bad keeps = record {
  too_long = λ k. absurd cc;
  refused = λ line k. if_some input _ _ read (λ all same. subst (λ b. (length b ≤ longest_script) × IsFirstBad (lines_of b) line) same (fits, bad line k));
  front = λ k. absurd cc;
  memory = λ k. inl keeps;
  nothing = λ k l. keeps;
  of_one = (λ k. cc, λ k. cc);
}
stopped_at_a_line input before after bytes fault read fits (inr h) bad keeps = stopped_for_memory input before after fault h keeps
