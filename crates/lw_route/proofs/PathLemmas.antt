-- Paths, their last segments, and what they are of.
use Rattle.std.proofs.Common.{◌≡◌, ◌≢◌, ℕ, Bool, true, false, ◌+◌, ◌<◌, ◌≤◌, ◌==◌, if◌then◌else◌, List, [], ◌∷◌, ◌++◌, codes, length, take, drop, get_or, Option, Some, None, refl, sym, subst, ap, ◌∙◌, arith, length-append}
use Rattle.std.specs.Prelude.{◌↔◌, IsSomeAnd}
use Rattle.std.specs.List.{All}
use Rattle.std.specs.Str.Pattern.{RFindsChar}
use Rattle.std.proofs.lemmas.Bool.Decides.{nat_tests}
use Rattle.std.proofs.lemmas.List.{take-append-drop}
use Rattle.std.proofs.lemmas.List.Elements.{All-from_get_or}
use Rattle.std.proofs.lemmas.Str.Pattern.{NoCharPasses-char, drop_at_char}
use Rattle.std.proofs.Math.Seq.{get_or-append_seam}
use Rattle.lw_route.specs.declared.resource.Resource.{Resource}
use Rattle.lw_route.specs.declared.resource.Resource.TheVariants.{Page, Health, Node, Metrics, Registrations, Registration, Observations, ById, ByAddress, ByToken, Changes, Notifications}
use Rattle.lw_route.specs.Targets.{Place, place_of, slash, IsBelow, IsWithin, IsPathOf}
use Rattle.lw_route.specs.Targets.Place.{At, Below, Within}

-- ---- the last slash
has_slash : (front back : List ℕ) → ¬ (All (λ byte. byte ≢ slash) (front ++ slash ∷ back))
has_slash front back all =
    all (length front) 0 (omega (arith, length-append front (slash ∷ back))) (get_or-append_seam front slash back 0)

tail_is : (a b : ℕ) (xs ys : List ℕ) → a ∷ xs ≡ b ∷ ys → xs ≡ ys
tail_is a b xs ys e = cc

head_is : (a b : ℕ) (xs ys : List ℕ) → a ∷ xs ≡ b ∷ ys → a ≡ b
head_is a b xs ys e = cc

-- a path has one last slash
pub one_last : (a b s t : List ℕ) → a ++ slash ∷ s ≡ b ++ slash ∷ t → All (λ byte. byte ≢ slash) s → All (λ byte. byte ≢ slash) t → (a ≡ b) × (s ≡ t)
one_last [] [] s t e no_s no_t = (refl, tail_is _ _ s t e)
one_last [] (y ∷ ys) s t e no_s no_t =
    absurd (has_slash ys t (subst (All (λ byte. byte ≢ slash)) (tail_is _ _ s (ys ++ slash ∷ t) e) no_s))
one_last (x ∷ xs) [] s t e no_s no_t =
    absurd (has_slash xs s (subst (All (λ byte. byte ≢ slash)) (sym (tail_is _ _ (xs ++ slash ∷ s) t e)) no_t))
one_last (x ∷ xs) (y ∷ ys) s t e no_s no_t =
    let rest = one_last xs ys s t (tail_is _ _ (xs ++ slash ∷ s) (ys ++ slash ∷ t) e) no_s no_t in
    (ap (λ k. k ∷ xs) (head_is _ _ (xs ++ slash ∷ s) (ys ++ slash ∷ t) e) ∙ ap (λ ks. y ∷ ks) rest.0, rest.1)

-- what `rsplit_once` cuts at the last slash
pub cut_at_last : (path upper segment : List ℕ) (i j : ℕ) → RFindsChar 47 path (Some (i, j)) → upper ≡ take i path → segment ≡ drop j path → (path ≡ upper ++ slash ∷ segment) × All (λ byte. byte ≢ slash) segment
cut_at_last path upper segment i j finds front back =
    let whole : take i path ++ slash ∷ drop j path ≡ path = ap (λ xs. take i path ++ xs) (sym (drop_at_char 47 path i j finds.1 (omega arith))) ∙ take-append-drop i path in
    let none = All-from_get_or (λ byte. byte ≢ slash) (drop j path) 0 (λ k less. NoCharPasses-char 47 (drop j path) k finds.0 (omega arith) less) in
    (sym (ap (λ xs. xs ++ slash ∷ segment) front ∙ ap (λ xs. take i path ++ slash ∷ xs) back ∙ whole), subst (All (λ byte. byte ≢ slash)) (sym back) none)

pub no_last : (path : List ℕ) → RFindsChar 47 path None → (upper segment : List ℕ) → ¬ IsBelow upper segment path
no_last path none upper segment is =
    NoCharPasses-char 47 path (length upper) none (omega arith) (omega (arith, length-append upper (slash ∷ segment), ap length is.path_is))
    (ap (λ xs. get_or xs (length upper) 0) is.path_is ∙ get_or-append_seam upper slash segment 0)

pub is_some : (xs : List ℕ) (r : Bool) → r ≡ (length xs == 0) → r ≡ false → 1 ≤ length xs
is_some [] r is none = absurd cc
is_some (x ∷ xs) r is none = omega arith

pub is_none : (xs : List ℕ) (r : Bool) → r ≡ (length xs == 0) → r ≡ true → length xs ≡ 0
is_none xs r is empty = grind (arith, nat_tests)

-- ---- how many slashes a path has
slashes : List ℕ → ℕ
slashes [] = 0
slashes (byte ∷ bytes) = (if byte == slash then 1 else 0) + slashes bytes

more_slashes : (upper segment : List ℕ) → slashes upper < slashes (upper ++ slash ∷ segment)
unfolding slashes
more_slashes [] segment = omega arith
more_slashes (byte ∷ bytes) segment = let more = more_slashes bytes segment in omega arith

few_slashes : (a : Resource) (path : List ℕ) → place_of a ≡ At path → slashes path ≤ 2
unfolding slashes
few_slashes Page path e = let same : codes "/" ≡ path = cc in subst (λ p. slashes p ≤ 2) same (omega arith)
few_slashes Health path e = let same : codes "/v1/health" ≡ path = cc in subst (λ p. slashes p ≤ 2) same (omega arith)
few_slashes Node path e = let same : codes "/v1/node" ≡ path = cc in subst (λ p. slashes p ≤ 2) same (omega arith)
few_slashes Metrics path e = let same : codes "/metrics" ≡ path = cc in subst (λ p. slashes p ≤ 2) same (omega arith)
few_slashes Registrations path e = let same : codes "/v1/registrations" ≡ path = cc in subst (λ p. slashes p ≤ 2) same (omega arith)
few_slashes Changes path e = let same : codes "/v1/changes" ≡ path = cc in subst (λ p. slashes p ≤ 2) same (omega arith)
few_slashes Notifications path e = let same : codes "/v1/notifications" ≡ path = cc in subst (λ p. slashes p ≤ 2) same (omega arith)
few_slashes Registration path e = absurd cc
few_slashes Observations path e = absurd cc
few_slashes ById path e = absurd cc
few_slashes ByAddress path e = absurd cc
few_slashes ByToken path e = absurd cc

two_slashes : (a : Resource) (upper : List ℕ) → place_of a ≡ Below upper → slashes upper ≡ 2
unfolding slashes
two_slashes Registration upper e = let same : codes "/v1/registrations" ≡ upper = cc in subst (λ p. slashes p ≡ 2) same (omega arith)
two_slashes ById upper e = let same : codes "/v1/ids" ≡ upper = cc in subst (λ p. slashes p ≡ 2) same (omega arith)
two_slashes ByAddress upper e = let same : codes "/v1/addresses" ≡ upper = cc in subst (λ p. slashes p ≡ 2) same (omega arith)
two_slashes ByToken upper e = let same : codes "/v1/tokens" ≡ upper = cc in subst (λ p. slashes p ≡ 2) same (omega arith)
two_slashes Observations upper e = absurd cc
two_slashes Page upper e = absurd cc
two_slashes Health upper e = absurd cc
two_slashes Node upper e = absurd cc
two_slashes Metrics upper e = absurd cc
two_slashes Registrations upper e = absurd cc
two_slashes Changes upper e = absurd cc
two_slashes Notifications upper e = absurd cc

within_slashes : (a : Resource) (upper lower : List ℕ) → place_of a ≡ Within upper lower → 2 ≤ slashes upper
unfolding slashes
within_slashes Observations upper lower e = let same : codes "/v1/registrations" ≡ upper = cc in subst (λ p. 2 ≤ slashes p) same (omega arith)
within_slashes Registration upper lower e = absurd cc
within_slashes ById upper lower e = absurd cc
within_slashes ByAddress upper lower e = absurd cc
within_slashes ByToken upper lower e = absurd cc
within_slashes Page upper lower e = absurd cc
within_slashes Health upper lower e = absurd cc
within_slashes Node upper lower e = absurd cc
within_slashes Metrics upper lower e = absurd cc
within_slashes Registrations upper lower e = absurd cc
within_slashes Changes upper lower e = absurd cc
within_slashes Notifications upper lower e = absurd cc

-- no path is of both kinds of places
not_both : (a b : Resource) (upper segment path : List ℕ) → place_of a ≡ At path → place_of b ≡ Below upper → path ≡ upper ++ slash ∷ segment → ⊥
not_both a b upper segment path at below is =
    omega (arith, few_slashes a path at, two_slashes b upper below, more_slashes upper segment, ap slashes is)

not_within : (a b : Resource) (upper segment lower path : List ℕ) → place_of a ≡ At path → place_of b ≡ Within upper lower → IsWithin upper segment lower path → ⊥
not_within a b upper segment lower path at within is =
    omega (arith, few_slashes a path at, within_slashes b upper lower within, more_slashes upper segment, more_slashes is.front lower, ap slashes is.segment_is.path_is, ap slashes is.lower_is.path_is)

pub not_below : (a b : Resource) (upper segment lower front : List ℕ) → place_of a ≡ Below front → place_of b ≡ Within upper lower → IsBelow upper segment front → ⊥
not_below a b upper segment lower front below within is =
    omega (arith, two_slashes a front below, within_slashes b upper lower within, more_slashes upper segment, ap slashes is.path_is)

-- ---- the resource of a path
some_is : (a b : Resource) → Some a ≡ Some b → a ≡ b
some_is a b e = cc

at_place : (a b : Resource) (path segment : List ℕ) (p : Place) → place_of b ≡ p → ((r : Resource) → (Some a ≡ Some r) ↔ (place_of r ≡ At path)) → IsPathOf p segment path → (a ≡ b) × (segment ≡ [])
at_place a b path segment (At whole) e read is = (some_is a b ((read b).1 (e ∙ ap At (sym is.0))), is.1)
at_place a b path segment (Below upper) e read is =
    absurd (not_both a b upper segment path ((read a).0 refl) e is.path_is)
at_place a b path segment (Within upper lower) e read is =
    absurd (not_within a b upper segment lower path ((read a).0 refl) e is)

pub only_at : (a : Resource) (path : List ℕ) → ((r : Resource) → (Some a ≡ Some r) ↔ (place_of r ≡ At path)) → (b : Resource) (segment : List ℕ) → IsPathOf (place_of b) segment path → (a ≡ b) × (segment ≡ [])
only_at a path read b segment is = at_place a b path segment (place_of b) refl read is

-- what is said of paths below a place, and of those within one, is said of all that are not places themselves
below_place : {X : Type 0} (o : Option Resource) (r : Option X) (P : Resource → List ℕ → X → Type 0) (b : Resource) (path segment : List ℕ) (p : Place) → o ≡ None → place_of b ≡ p → ((c : Resource) → (o ≡ Some c) ↔ (place_of c ≡ At path)) → ((c : Resource) (upper segment : List ℕ) → place_of c ≡ Below upper → IsBelow upper segment path → IsSomeAnd r (P c segment)) → ((c : Resource) (upper segment lower : List ℕ) → place_of c ≡ Within upper lower → IsWithin upper segment lower path → IsSomeAnd r (P c segment)) → IsPathOf p segment path → IsSomeAnd r (P b segment)
below_place o r P b path segment (At whole) none e read below within is =
    let some = (read b).1 (e ∙ ap At (sym is.0)) in
    absurd cc
below_place o r P b path segment (Below upper) none e read below within is = below b upper segment e is
below_place o r P b path segment (Within upper lower) none e read below within is = within b upper segment lower e is

pub only_below : {X : Type 0} (o : Option Resource) (r : Option X) (P : Resource → List ℕ → X → Type 0) (path : List ℕ) → o ≡ None → ((c : Resource) → (o ≡ Some c) ↔ (place_of c ≡ At path)) → ((c : Resource) (upper segment : List ℕ) → place_of c ≡ Below upper → IsBelow upper segment path → IsSomeAnd r (P c segment)) → ((c : Resource) (upper segment lower : List ℕ) → place_of c ≡ Within upper lower → IsWithin upper segment lower path → IsSomeAnd r (P c segment)) → (b : Resource) (segment : List ℕ) → IsPathOf (place_of b) segment path → IsSomeAnd r (P b segment)
only_below o r P path none read below within b segment is = below_place o r P b path segment (place_of b) none refl read below within is
