-- Lines of scripts, and what reads them.
use Rattle.std.proofs.Common.{◌≡◌, ℕ, zero, suc, ◌+◌, ◌<◌, ◌≤◌, ◌^◌, ◌==◌, ◌∙◌, List, [], ◌∷◌, ◌++◌, true, codes, length, take, get_or, Option, Some, None, Result, Ok, Err, refl, sym, subst, ap, inl, inr, arith}
use Rattle.std.specs.Prelude.{◌↔◌, IfNone, IfSome, slice_get}
use Rattle.std.specs.List.{AllZip, after_first, enumerate_from}
use Rattle.std.specs.Str.{IsUtf8, IsAscii}
use Rattle.std.proofs.lemmas.Bool.{cases_order}
use Rattle.std.proofs.lemmas.Bool.Decides.{nat_tests}
use Rattle.std.proofs.lemmas.Fmt.{IsAscii-decimal}
use Rattle.std.specs.Iterator.{Yields}
use Rattle.std.proofs.lemmas.Iterator.{YieldsList}
use Rattle.std.proofs.lemmas.Iterator.Consumers.{YieldsList-turn, YieldsList-end}
use Rattle.std.proofs.lemmas.List.{take_more, length-take-le}
use Rattle.std.proofs.lemmas.List.FromFn.{length-enumerate_from, get_or-enumerate_from}
use Rattle.std.proofs.lemmas.List.Splits.{length-slice_split}
use Rattle.std.proofs.Math.Seq.{take-length}
use Rattle.std.specs.Io.BufRead.{strip_last}
use Rattle.std.specs.Result.{result_err}
use Rattle.std.proofs.lemmas.List.Sums.{split_at_first, passes_at_first}
use Rattle.std.proofs.lemmas.Str.{IsAscii-append, IsUtf8-from_ascii}
use Rattle.std.proofs.lemmas.Str.Ascii.{IsAscii-nil}
use Rattle.std.proofs.lemmas.Option.{slice_get-get_or}
use Rattle.lw_world.specs.declared.event.Event.{Event}
use Rattle.lw_script.specs.declared.fault.LineFault.{LineFault}
use Rattle.lw_script.specs.declared.fault.LineFault.TheVariants as fault
use Rattle.lw_script.specs.declared.script.Progress.{Progress}
use Rattle.lw_script.specs.declared.script.Progress.TheVariants.{Blank, Read, Full}
use Rattle.lw_script.specs.declared.script.ScriptFault.{ScriptFault}
use Rattle.lw_script.specs.declared.script.ScriptFault.TheVariants.{Refused, NoMemory}
use Rattle.lw_script.specs.Fields.{IsShort, is_space}
use Rattle.lw_script.specs.Lines.{IsLine, ReadsAs}
use Rattle.lw_script.specs.Script.{ScriptContent, IsEvent, IsNodes, AreLines, IsGood, IsFirstBad, lines_of}
use Rattle.lw_script.specs.inner.Progress.{IsRead, Continues}
use Rattle.lw_script.proofs.NumberLemmas.{one_number, wide}

-- ---- a line
pub event_reads : (line text : List ℕ) (r : Result Event LineFault) → text ≡ line → IsUtf8 line → ReadsAs (λ event. IsLine event text) r → ReadsAs (λ event. IsEvent event line) r
event_reads line text (Ok event) same utf8 is = record { text = utf8; line_is = subst (IsLine event) same is }
event_reads line text (Err fault.Refused) same utf8 none = λ event is. none event (subst (IsLine event) (sym same) is.line_is)
event_reads line text (Err fault.NoMemory) same utf8 some = (some.0, record { text = utf8; line_is = subst (IsLine some.0) same some.1 })

cons_ascii : (x : ℕ) (xs : List ℕ) → x < 128 → IsAscii xs → IsAscii (x ∷ xs)
cons_ascii x xs small all zero = small
cons_ascii x xs small all (suc i) = all i

word_ascii : IsAscii (codes "nodes")
word_ascii = cons_ascii 110 (111 ∷ 100 ∷ 101 ∷ 115 ∷ []) (omega arith) (cons_ascii 111 (100 ∷ 101 ∷ 115 ∷ []) (omega arith) (cons_ascii 100 (101 ∷ 115 ∷ []) (omega arith) (cons_ascii 101 (115 ∷ []) (omega arith) (cons_ascii 115 [] (omega arith) IsAscii-nil))))

space_ascii : (x : ℕ) → is_space x ≡ true → x < 128
space_ascii x is = grind (arith, nat_tests)

-- the line that counts the nodes is a text
pub nodes_text : (nodes : ℕ) (line : List ℕ) → IsNodes nodes line → IsUtf8 line
nodes_text nodes line is =
    let cut = split_at_first is_space line 0 is.parted in
    let space = space_ascii _ (passes_at_first is_space line 0 is.parted) in
    let word = subst IsAscii (sym is.word_is) word_ascii in
    let number = subst IsAscii (sym is.number_is.printed) (IsAscii-decimal nodes (omega (arith, is.number_is.fits))) in
    IsUtf8-from_ascii line (subst IsAscii (sym cut) (IsAscii-append _ _ word (cons_ascii _ _ space number)))

-- where another number of 16 bits is read, it is this one
pub other_nodes : (line number : List ℕ) (m : ℕ) → number ≡ after_first is_space line → IsShort m number → (1 ≤ m → m < 17 → ⊥) → (n : ℕ) → ¬ IsNodes n line
other_nodes line number m cut short out n is =
    let same = one_number n m (after_first is_space line) (wide 17 n _ (omega arith) is.number_is) (wide (2 ^ 16) m _ (omega arith) (subst (IsShort m) cut short)) in
    out (omega (arith, same, is.some)) (omega (arith, same, is.number_is.fits))

pub no_event : (line : List ℕ) (r : Result Event LineFault) → result_err r ≡ Some fault.Refused → ReadsAs (λ event. IsEvent event line) r → (event : Event) → ¬ IsEvent event line
no_event line (Ok event) refused is = absurd cc
no_event line (Err fault.Refused) refused none = none
no_event line (Err fault.NoMemory) refused some = absurd cc

-- ---- lines in a row
events_push : (events : List Event) (lines : List (List ℕ)) (event : Event) (line : List ℕ) → AllZip IsEvent events lines → IsEvent event line → AllZip IsEvent (events ++ event ∷ []) (lines ++ line ∷ [])
events_push [] [] event line all is = (is, tt)
events_push [] (y ∷ ys) event line all is = absurd all
events_push (x ∷ xs) [] event line all is = absurd all
events_push (x ∷ xs) (y ∷ ys) event line all is = (all.0, events_push xs ys event line all.1 is)

lines_push : (nodes : ℕ) (events : List Event) (lines : List (List ℕ)) (event : Event) (line : List ℕ) → AreLines nodes events lines → IsEvent event line → AreLines nodes (events ++ event ∷ []) (lines ++ line ∷ [])
lines_push nodes events [] event line are is = absurd are
lines_push nodes events (first ∷ others) event line are is = (are.0, events_push events others event line are.1 is)

pub continued : (script : ScriptContent) (line : List ℕ) (r : Option Progress) → IfSome r (Continues script line) → (lines : List (List ℕ)) → AreLines script.nodes script.events lines → IfSome r (λ progress. IsRead progress (lines ++ line ∷ []))
continued script line None h lines are = tt
continued script line (Some Blank) h lines are = absurd h
continued script line (Some (Read longer)) h lines are =
    subst (λ s. AreLines s.nodes s.events (lines ++ line ∷ [])) (sym h.2) (lines_push script.nodes script.events lines h.0 line are h.1)
continued script line (Some Full) h lines are =
    (script.nodes, script.events ++ h.0 ∷ [], lines_push script.nodes script.events lines h.0 line are h.1)

-- a line that spells no event is bad behind others
bad_behind : (nodes : ℕ) (events : List Event) (line : List ℕ) (lines : List (List ℕ)) → AreLines nodes events lines → ((event : Event) → ¬ IsEvent event line) → ¬ IsGood (length lines) line
bad_behind nodes events line [] are none = absurd are
bad_behind nodes events line (first ∷ others) are none = λ good. none good.0 good.1

pub read_bad : (script : ScriptContent) (line : List ℕ) (r : Option Progress) → IfNone r ((event : Event) → ¬ IsEvent event line) → (lines : List (List ℕ)) → AreLines script.nodes script.events lines → IfNone r (¬ IsGood (length lines) line)
read_bad script line (Some progress) none lines are = tt
read_bad script line None none lines are = bad_behind script.nodes script.events line lines are none

pub full_more : (line : List ℕ) (lines : List (List ℕ)) → IsRead Full lines → (event : Event) × IsEvent event line → IsRead Full (lines ++ line ∷ [])
full_more line lines are is = (are.0, are.1 ++ is.0 ∷ [], lines_push are.0 are.1 lines is.0 line are.2 is.1)

pub full_bad : (line : List ℕ) (lines : List (List ℕ)) → IsRead Full lines → ¬ ((event : Event) × IsEvent event line) → ¬ IsGood (length lines) line
full_bad line lines are none = bad_behind are.0 are.1 line lines are.2 (λ event is. none (event, is))

events_good : (events : List Event) (lines : List (List ℕ)) (k : ℕ) (line : List ℕ) → AllZip IsEvent events lines → slice_get lines k ≡ Some line → (event : Event) × IsEvent event line
events_good [] [] k line all is = absurd cc
events_good [] (y ∷ ys) k line all is = absurd all
events_good (x ∷ xs) [] k line all is = absurd all
events_good (x ∷ xs) (y ∷ ys) zero line all is =
    let same : y ≡ line = cc in
    (x, subst (IsEvent x) same all.0)
events_good (x ∷ xs) (y ∷ ys) (suc k) line all is = events_good xs ys k line all.1 is

lines_good : (nodes : ℕ) (events : List Event) (lines : List (List ℕ)) (k : ℕ) (line : List ℕ) → AreLines nodes events lines → slice_get lines k ≡ Some line → IsGood k line
lines_good nodes events [] k line are is = absurd are
lines_good nodes events (first ∷ others) zero line are is =
    let same : first ≡ line = cc in
    (nodes, subst (IsNodes nodes) same are.0)
lines_good nodes events (first ∷ others) (suc k) line are is = events_good events others k line are.1 is

read_good : (progress : Progress) (lines : List (List ℕ)) (k : ℕ) (line : List ℕ) → IsRead progress lines → slice_get lines k ≡ Some line → IsGood k line
read_good Blank lines k line none is =
    let got : slice_get [] k ≡ Some line = subst (λ l. slice_get l k ≡ Some line) none is in
    absurd cc
read_good (Read script) lines k line are is = lines_good script.nodes script.events lines k line are is
read_good Full lines k line are is = lines_good are.0 are.1 lines k line are.2 is

slice_get-take : (lines : List (List ℕ)) (n k : ℕ) → k < n → slice_get (take n lines) k ≡ slice_get lines k
slice_get-take [] zero k less = refl
slice_get-take [] (suc n) k less = refl
slice_get-take (x ∷ xs) zero k less = absurd (omega (arith, less))
slice_get-take (x ∷ xs) (suc n) zero less = refl
slice_get-take (x ∷ xs) (suc n) (suc k) less = slice_get-take xs n k (omega (arith, less))

-- the first bad line stands behind lines that are read
pub first_bad : (lines : List (List ℕ)) (place : ℕ) (line : List ℕ) (progress : Progress) → place < length lines → line ≡ get_or lines place line → IsRead progress (take place lines) → ¬ IsGood place line → IsFirstBad lines (place + 1)
first_bad lines place line progress less is read bad =
    record {
      place = place;
      line = line;
      number_is = refl;
      line_is = slice_get-get_or lines place line less ∙ ap Some (sym is);
      bad = bad;
      before = λ k good below got. read_good progress (take place lines) k good read (slice_get-take lines place k below ∙ got);
    }

-- ---- a whole script
not_bad : (nodes : ℕ) (events : List Event) (lines : List (List ℕ)) (number : ℕ) → AreLines nodes events lines → ¬ IsFirstBad lines number
not_bad nodes events lines number are = λ first. first.bad (lines_good nodes events lines first.place first.line are first.line_is)

one_first_bad : (lines : List (List ℕ)) (n m : ℕ) → IsFirstBad lines n → IsFirstBad lines m → n ≡ m
one_first_bad lines n m a b = elim (cases_order a.place b.place) [
  | inl same ↦ a.number_is ∙ ap (λ k. k + 1) same ∙ sym b.number_is
  | inr other ↦ elim other [
    | inl less ↦ absurd (a.bad (b.before a.place a.line less a.line_is))
    | inr more ↦ absurd (b.bad (a.before b.place b.line more b.line_is))
  ]
]

-- what reading a script comes to
abbrev pub IsOutcome : List (List ℕ) → Result ScriptContent ScriptFault → Type 0
IsOutcome lines (Ok script) = AreLines script.nodes script.events lines
IsOutcome lines (Err (Refused line)) = IsFirstBad lines line
IsOutcome lines (Err NoMemory) = (nodes : ℕ) × (events : List Event) × AreLines nodes events lines

pub refused_when : (lines : List (List ℕ)) (r : Result ScriptContent ScriptFault) → IsOutcome lines r → (line : ℕ) → (r ≡ Err (Refused line)) ↔ IsFirstBad lines line
refused_when lines (Ok script) are line = ((λ e. absurd cc), (λ bad. absurd (not_bad script.nodes script.events lines line are bad)))
refused_when lines (Err (Refused n)) is line = ((λ e. let same : n ≡ line = cc in subst (IsFirstBad lines) same is), (λ bad. ap (λ k. Err (Refused k)) (one_first_bad lines n line is bad)))
refused_when lines (Err NoMemory) are line = ((λ e. absurd cc), (λ bad. absurd (not_bad are.0 are.1 lines line are.2 bad)))

pub no_blank : (bytes : List ℕ) → ¬ (lines_of bytes ≡ [])
no_blank bytes none = omega (arith, length-slice_split (λ byte. byte == 10) (strip_last 10 bytes), ap length none)

-- ---- lines by their numbers
pub numbered : (lines : List (List ℕ)) (n place : ℕ) (line : List ℕ) → (n < length (enumerate_from 0 lines)) × ((place, line) ≡ get_or (enumerate_from 0 lines) n (place, line)) → (n < length lines) × (place ≡ n) × (line ≡ get_or lines n line)
numbered lines n place line t =
    let less : n < length lines = omega (arith, length-enumerate_from 0 lines, t.0) in
    let at = t.1 ∙ get_or-enumerate_from 0 lines n (place, line) less in
    (less, omega (arith, ap (λ p. p.0) at), ap (λ p. p.1) at)

pub read_more : (lines : List (List ℕ)) (n m : ℕ) (line : List ℕ) (next : Progress) → m ≡ n + 1 → n < length lines → line ≡ get_or lines n line → IsRead next (take n lines ++ line ∷ []) → IsRead next (take m lines)
read_more lines n m line next more less is read =
    let same : take m lines ≡ take n lines ++ line ∷ [] = ap (λ k. take k lines) more ∙ take_more lines n line less ∙ ap (λ x. take n lines ++ x ∷ []) (sym is) in
    subst (IsRead next) (sym same) read

pub bad_here : (lines : List (List ℕ)) (n place : ℕ) (line : List ℕ) (progress : Progress) → n < length lines → place ≡ n → line ≡ get_or lines n line → IsRead progress (take n lines) → ¬ IsGood (length (take n lines)) line → IsFirstBad lines (place + 1)
bad_here lines n place line progress less same is read bad =
    let bad_at : ¬ IsGood n line = subst (λ k. ¬ IsGood k line) (length-take-le n lines (omega (arith, less))) bad in
    subst (λ k. IsFirstBad lines (k + 1)) (sym same) (first_bad lines n line progress less is read bad_at)

pub read_all : (lines : List (List ℕ)) (n : ℕ) (progress : Progress) → n ≡ length (enumerate_from 0 lines) → IsRead progress (take n lines) → IsRead progress lines
read_all lines n progress all read =
    let whole : n ≡ length lines = all ∙ length-enumerate_from 0 lines in
    subst (IsRead progress) (ap (λ k. take k lines) whole ∙ take-length lines) read

-- ---- the lines that an iterator gives, where its calls are known first
pub turn_by : {S A B : Type 0} {steps : S → Option A → S → Type 0} {v : A → B} {s : S} {all : List B} (xs : List A) (t : S) (y : Yields steps s xs t) (r : Option A) (u : S) (x : A) → r ≡ Some x → steps t r u → YieldsList steps v s all → (length xs < length all) × (v x ≡ get_or all (length xs) (v x))
turn_by xs t y r u x is step road = YieldsList-turn road xs t y r u x is step

pub end_by : {S A B : Type 0} {steps : S → Option A → S → Type 0} {v : A → B} {s : S} {all : List B} (xs : List A) (t : S) (y : Yields steps s xs t) (r : Option A) (u : S) → r ≡ None → steps t r u → YieldsList steps v s all → length xs ≡ length all
end_by xs t y r u is step road = (YieldsList-end road xs t y r u is step).1
