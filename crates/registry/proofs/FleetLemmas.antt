-- A walk over the fleet, one registration after another.
use Rattle.std.proofs.Common.{◌≡◌, ◌∙◌, ◌++◌, ◌+◌, ◌-◌, ℕ, suc, List, [], ◌∷◌, length, Option, Some, None, refl, sym, ap, subst, arith, append_assoc, append-nil, take, get_or, ◌<◌}
use Rattle.std.specs.Prelude.{slice_get}
use Rattle.std.specs.Option.{option_map}
use Rattle.std.proofs.lemmas.List.{take_more}
use Rattle.lw_reg.specs.Marks.{Marks}
use Rattle.lw_reg.specs.Registration.{Registration}
use Rattle.lw_table.specs.Answers.{FirstAfter}
use Rattle.registry.specs.Fleet.{AreShownAfter, IsFleet, fleet_line, fleet_lines}
use Rattle.registry.specs.Walk.{AreMet, last_of}

-- the endpoint of the last, or else the given one
abbrev last_or : Option (List ℕ) → List Registration → Option (List ℕ)
last_or after [] = after
last_or after (r ∷ rs) = last_or (Some r.endpoint) rs

last_of_two : (r s : Registration) (rs : List Registration) → last_of (r ∷ s ∷ rs) ≡ last_of (s ∷ rs)
last_of_two r s rs =
    let one : length (r ∷ s ∷ rs) - 1 ≡ suc (length (s ∷ rs) - 1) = omega arith in
    ap (λ k. option_map (λ (x : Registration). x.endpoint) (slice_get (r ∷ s ∷ rs) k)) one

last_is : (after : Option (List ℕ)) (r : Registration) (rs : List Registration) → last_or after (r ∷ rs) ≡ last_of (r ∷ rs)
last_is after r [] = refl
last_is after r (s ∷ rs) = last_is (Some r.endpoint) s rs ∙ sym (last_of_two r s rs)

last_of_all : (rs : List Registration) → last_or None rs ≡ last_of rs
last_of_all [] = refl
last_of_all (r ∷ rs) = last_is None r rs

met_push : (M : Marks) (now : ℕ) (after : Option (List ℕ)) (rs : List Registration) (r : Registration) → AreMet M now after rs → FirstAfter M now (last_or after rs) (Some r) → AreMet M now after (rs ++ r ∷ [])
met_push M now after [] r met first = (first, tt)
met_push M now after (x ∷ xs) r met first = (met.0, met_push M now (Some x.endpoint) xs r met.1 first)

met_end : (M : Marks) (now : ℕ) (after : Option (List ℕ)) (rs : List Registration) → AreMet M now after rs → FirstAfter M now (last_or after rs) None → AreShownAfter M now after rs
met_end M now after [] met none = none
met_end M now after (x ∷ xs) met none = (met.0, met_end M now (Some x.endpoint) xs met.1 none)

-- one more is met
pub met_more : (M : Marks) (now : ℕ) (rs slice more : List Registration) (next : Option Registration) (r : Registration) → slice ≡ rs → AreMet M now None rs → FirstAfter M now (last_of slice) next → next ≡ Some r → more ≡ rs ++ r ∷ [] → AreMet M now None more
met_more M now rs slice more next r same met first is pushed =
    let after : last_of slice ≡ last_or None rs = ap last_of same ∙ sym (last_of_all rs) in
    let here : FirstAfter M now (last_or None rs) (Some r) = subst (FirstAfter M now (last_or None rs)) is (subst (λ (x : Option (List ℕ)). FirstAfter M now x next) after first) in
    subst (AreMet M now None) (sym pushed) (met_push M now None rs r met here)

-- no more is met
pub met_all : (M : Marks) (now : ℕ) (rs slice : List Registration) (next : Option Registration) → slice ≡ rs → AreMet M now None rs → FirstAfter M now (last_of slice) next → next ≡ None → IsFleet M now rs
met_all M now rs slice next same met first is =
    let after : last_of slice ≡ last_or None rs = ap last_of same ∙ sym (last_of_all rs) in
    let here : FirstAfter M now (last_or None rs) None = subst (FirstAfter M now (last_or None rs)) is (subst (λ (x : Option (List ℕ)). FirstAfter M now x next) after first) in
    met_end M now None rs met here

fleet_lines-push : (rs : List Registration) (r : Registration) → fleet_lines (rs ++ r ∷ []) ≡ fleet_lines rs ++ fleet_line r
fleet_lines-push [] r = append-nil (fleet_line r)
fleet_lines-push (x ∷ xs) r = ap (λ l. fleet_line x ++ l) (fleet_lines-push xs r) ∙ sym (append_assoc (fleet_line x) (fleet_lines xs) (fleet_line r))

-- the line of one more is added
pub lines_more : (rs : List Registration) (r : Registration) (n m : ℕ) (head old new : List ℕ) → m ≡ n + 1 → n < length rs → r ≡ get_or rs n r → old ≡ head ++ fleet_lines (take n rs) → new ≡ old ++ fleet_line r → new ≡ head ++ fleet_lines (take m rs)
lines_more rs r n m head old new one less is was added =
    let same : take m rs ≡ take n rs ++ r ∷ [] = ap (λ k. take k rs) one ∙ take_more rs n r less ∙ ap (λ x. take n rs ++ x ∷ []) (sym is) in
    added ∙ ap (λ l. l ++ fleet_line r) was ∙ append_assoc head (fleet_lines (take n rs)) (fleet_line r) ∙ ap (λ l. head ++ l) (sym (fleet_lines-push (take n rs) r)) ∙ ap (λ ls. head ++ fleet_lines ls) (sym same)
