-- Lines that are taken in turn, and what is printed of them.
use Rattle.std.proofs.Common.{Bor, ◌≤◌, map, ◌≡◌, ◌∙◌, ◌++◌, ◌+◌, ◌<◌, ℕ, List, [], ◌∷◌, length, take, get_or, Option, Some, None, Result, Ok, Err, refl, sym, ap, subst, arith, append_assoc, append-nil}
use Rattle.std.specs.Prelude.{IfOk, IfSome, OnOk}
use Rattle.std.specs.Io.KnownBytes.{Appends}
use Rattle.std.proofs.KnownBytes.{Appends-trans}
use Rattle.std.specs.Iterator.{Yields}
use Rattle.std.proofs.Math.Seq.{take-length}
use Rattle.std.proofs.lemmas.Iterator.{YieldsList}
use Rattle.std.proofs.lemmas.Iterator.Consumers.{YieldsList-turn, YieldsList-end}
use Rattle.std.proofs.lemmas.List.{take_more, take_all, get_or-map, length-map, map-append}
use Rattle.registry.specs.declared.registry.Registry.{Registry}
use Rattle.registry.specs.Fleet.{AreFleets}
use Rattle.registry.specs.Run.{lines_of, Tells, TellsLine, TellsAll, Prints}
use Rattle.registry.specs.Steps.{IsNew, TakesLine}

tells_push : (old mid new : Registry) (lines : List (List ℕ)) (line text more : List ℕ) → Tells old lines text mid → TakesLine mid line more new → Tells old (lines ++ line ∷ []) (text ++ more) new
tells_push old mid new [] line text more told takes =
    (more, new, [], subst (λ (r : Registry). TakesLine r line more new) told.1 takes, (refl, refl), ap (λ l. l ++ more) told.0 ∙ sym (append-nil more))
tells_push old mid new (x ∷ xs) line text more told takes =
    let (first, next, rest, step, steps, is) = told in
    (first, next, rest ++ more, step, tells_push next mid new xs line rest more steps takes, ap (λ l. l ++ more) is ∙ append_assoc first rest more)

-- what is printed of a line, as the bytes that are appended
pub told_line : (old new : Registry) (line text bytes : List ℕ) (before after : Option (List ℕ)) → TakesLine old line text new → bytes ≡ text → Appends before after bytes → TellsLine old line new before after
told_line old new line text bytes before after takes is appended = (text, takes, subst (λ (b : List ℕ). Appends before after b) is appended)

-- one more line is taken
pub told_more : (lines : List (List ℕ)) (n m : ℕ) (line : List ℕ) (old mid new : Registry) (before between after : Option (List ℕ)) → m ≡ n + 1 → (n < length lines) × (line ≡ get_or lines n line) → TellsAll old (take n lines) mid before between → TellsLine mid line new between after → TellsAll old (take m lines) new before after
told_more lines n m line old mid new before between after one at told more =
    let same : take m lines ≡ take n lines ++ line ∷ [] = ap (λ k. take k lines) one ∙ take_more lines n line at.0 ∙ ap (λ x. take n lines ++ x ∷ []) (sym at.1) in
    (told.0 ++ more.0, subst (λ (ls : List (List ℕ)). Tells old ls (told.0 ++ more.0) new) (sym same) (tells_push old mid new (take n lines) line told.0 more.0 told.1 more.1), Appends-trans before between after told.0 more.0 told.2 more.2)

-- so of lines that are lent
pub told_next : (lent : List (Bor (List ℕ))) (n : ℕ) (d : Bor (List ℕ)) (old mid new : Registry) (before between after : Option (List ℕ)) → n < length lent → TellsAll old (take n (map (λ l. l.now) lent)) mid before between → TellsLine mid (get_or lent n d).now new between after → TellsAll old (take (n + 1) (map (λ l. l.now) lent)) new before after
told_next lent n d old mid new before between after less told more =
    let lines : List (List ℕ) = map (λ l. l.now) lent in
    let line : List ℕ = (get_or lent n d).now in
    let below : n < length lines = omega (arith, length-map lent (λ (l : Bor (List ℕ)). l.now), less) in
    let here : line ≡ get_or lines n line = sym (get_or-map (λ (l : Bor (List ℕ)). l.now) lent n d line less) in
    told_more lines n (n + 1) line old mid new before between after refl (below, here) told more

-- all lines are taken
pub told_all : (lent : List (Bor (List ℕ))) (n : ℕ) (old new : Registry) (before after : Option (List ℕ)) → length lent ≤ n → TellsAll old (take n (map (λ l. l.now) lent)) new before after → TellsAll old (map (λ l. l.now) lent) new before after
told_all lent n old new before after all told =
    let lines : List (List ℕ) = map (λ l. l.now) lent in
    let whole : length lines ≤ n = omega (arith, length-map lent (λ (l : Bor (List ℕ)). l.now), all) in
    subst (λ (ls : List (List ℕ)). TellsAll old ls new before after) (take_all n lines whole) told

-- the lines that are kept, when one more is
pub kept_more : (lines : List (List ℕ)) (kept more : List (Bor (List ℕ))) (n m : ℕ) (line : Bor (List ℕ)) → m ≡ n + 1 → (n < length lines) × (line.now ≡ get_or lines n line.now) → map (λ l. l.now) kept ≡ take n lines → more ≡ kept ++ line ∷ [] → map (λ l. l.now) more ≡ take m lines
kept_more lines kept more n m line one at was is =
    let same : take m lines ≡ take n lines ++ line.now ∷ [] = ap (λ k. take k lines) one ∙ take_more lines n line.now at.0 ∙ ap (λ x. take n lines ++ x ∷ []) (sym at.1) in
    ap (map (λ (l : Bor (List ℕ)). l.now)) is ∙ map-append (λ (l : Bor (List ℕ)). l.now) kept (line ∷ []) ∙ ap (λ ls. ls ++ line.now ∷ []) was ∙ sym same

-- all are kept
pub kept_all : (lines kept : List (List ℕ)) (n : ℕ) → n ≡ length lines → kept ≡ take n lines → kept ≡ lines
kept_all lines kept n all is = is ∙ ap (λ k. take k lines) all ∙ take-length lines

-- the lines are those of the input
pub told_lines : (lent items : List (Bor (List ℕ))) (lines : List (List ℕ)) (old new : Registry) (before after : Option (List ℕ)) → lent ≡ items → map (λ l. l.now) items ≡ lines → TellsAll old (map (λ l. l.now) lent) new before after → TellsAll old lines new before after
told_lines lent items lines old new before after same are told =
    subst (λ (ls : List (List ℕ)). TellsAll old ls new before after) (ap (map (λ (l : Bor (List ℕ)). l.now)) same ∙ are) told

-- the whole input
pub prints : (known before between after : Option (List ℕ)) (bytes slice fleets written : List ℕ) (first last : Registry) → IfSome known (λ all. bytes ≡ all) → slice ≡ bytes → IsNew first → TellsAll first (lines_of slice) last before between → AreFleets last fleets → written ≡ fleets → Appends between after written → Prints known before after
prints None before between after bytes slice fleets written first last is same new told are text appended = tt
prints (Some all) before between after bytes slice fleets written first last is same new told are text appended = (
  told.0 ++ fleets,
  record {
    first = first;
    last = last;
    told = told.0;
    fleets = fleets;
    is_new = new;
    tells = subst (λ (input : List ℕ). Tells first (lines_of input) told.0 last) (same ∙ is) told.1;
    are_fleets = are;
    text_is = refl;
  },
  Appends-trans before between after told.0 fleets told.2 (subst (λ (b : List ℕ). Appends between after b) text appended),
)

-- ---- what follows of a result
pub if_ok : {T E : Type 0} (r : Result T E) (P Q : T → Type 0) → IfOk r P → ((t : T) → P t → Q t) → IfOk r Q
if_ok (Ok t) P Q h f = f t h
if_ok (Err e) P Q h f = tt

pub on_ok : {T E : Type 0} (r : Result T E) (P Q : Type 0) → OnOk r P → (P → Q) → OnOk r Q
on_ok (Ok x) P Q h f = f h
on_ok (Err e) P Q h f = tt

-- ---- the lines that an iterator gives
pub turn_by : {S A B : Type 0} {steps : S → Option A → S → Type 0} {v : A → B} {s : S} {all : List B} (xs : List A) (t : S) (y : Yields steps s xs t) (r : Option A) (u : S) (x : A) → r ≡ Some x → steps t r u → YieldsList steps v s all → (length xs < length all) × (v x ≡ get_or all (length xs) (v x))
turn_by xs t y r u x is step road = YieldsList-turn road xs t y r u x is step

pub end_by : {S A B : Type 0} {steps : S → Option A → S → Type 0} {v : A → B} {s : S} {all : List B} (xs : List A) (t : S) (y : Yields steps s xs t) (r : Option A) (u : S) → r ≡ None → steps t r u → YieldsList steps v s all → length xs ≡ length all
end_by xs t y r u is step road = (YieldsList-end road xs t y r u is step).1
