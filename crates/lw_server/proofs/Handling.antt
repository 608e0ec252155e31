-- The calls of a turn and their replies, one after another.
use Rattle.std.specs.Prelude.{◌≡◌, ℕ, suc, ◌+◌, ◌≤◌, length, Option, None, Some, List, [], ◌∷◌, ◌++◌, refl}
use Rattle.std.proofs.Common.{sym, ap, ◌∙◌, append_assoc, arith, subst}
use Rattle.std.proofs.lemmas.List.{append-nil}
use Rattle.std.specs.List.{AllZip}
use Rattle.std.specs.Option.{option_to_list}
use Rattle.lw_call.specs.declared.reply.Reply.{Reply}
use Rattle.lw_server.specs.declared.blocks.Handled.{Handled}
use Rattle.lw_server.specs.declared.blocks.Origin.{Origin}
use Rattle.lw_server.specs.Blocks.{made, made_of, IsHandled, AreHandled}

AllZip-behind : {A B : Type 0} (R : A → B → Type 0) (xs zs : List A) (ys ws : List B) → AllZip R xs ys → AllZip R zs ws → AllZip R (xs ++ zs) (ys ++ ws)
AllZip-behind R [] zs [] ws none more = more
AllZip-behind R (x ∷ xs) zs (y ∷ ys) ws are more = (are.0, AllZip-behind R xs zs ys ws are.1 more)
AllZip-behind R [] zs (y ∷ ys) ws are more = absurd are
AllZip-behind R (x ∷ xs) zs [] ws are more = absurd are

-- some of the calls are handled, and the rest is to be
pub record IsHandling (all : List (Origin × Option (List ℕ))) (old now : List Handled) (rest : List (Origin × Option (List ℕ))) : Type 0 where
  pub front : List (Origin × Option (List ℕ))
  pub more : List Handled
  pub are : all ≡ front ++ rest
  pub handled : now ≡ old ++ more
  pub each : AllZip IsHandled front more

pub handling_begins : (all rest : List (Origin × Option (List ℕ))) (old now : List Handled) → rest ≡ all → now ≡ old → IsHandling all old now rest
handling_begins all rest old now is same = record { front = []; more = []; are = sym is; handled = same ∙ sym (append-nil old); each = tt }

made_first : (o : Origin) (r : Reply) (os : List Origin) (rs : List Reply) (m : Option (Origin × Option (List ℕ))) → made o r ≡ m
    → made_of (o ∷ os) (r ∷ rs) ≡ option_to_list m ++ made_of os rs
made_first o r os rs None is = simp is
made_first o r os rs (Some m) is = simp is

pub handling_goes_on : (all : List (Origin × Option (List ℕ))) (old now new : List Handled) (origins more : List Origin) (replies left : List Reply) (o : Origin) (r : Reply) (h : Option Handled)
    → origins ≡ o ∷ more → replies ≡ r ∷ left → AllZip IsHandled (option_to_list (made o r)) (option_to_list h)
    → new ≡ now ++ option_to_list h → IsHandling all old now (made_of origins replies) → IsHandling all old new (made_of more left)
handling_goes_on all old now new origins more replies left o r h first given is puts way = record {
  front = way.front ++ option_to_list (made o r);
  more = way.more ++ option_to_list h;
  are = way.are ∙ ap (λ (t : List (Origin × Option (List ℕ))). way.front ++ t)
      (ap (λ (os : List Origin). made_of os replies) first ∙ ap (made_of (o ∷ more)) given ∙ made_first o r more left (made o r) refl)
      ∙ sym (append_assoc way.front (option_to_list (made o r)) (made_of more left));
  handled = puts ∙ ap (λ (t : List Handled). t ++ option_to_list h) way.handled ∙ append_assoc old way.more (option_to_list h);
  each = AllZip-behind IsHandled way.front (option_to_list (made o r)) way.more (option_to_list h) way.each is;
}

pub made_of-none : (origins : List Origin) (replies : List Reply) → replies ≡ [] → made_of origins replies ≡ []
made_of-none [] replies none = refl
made_of-none (o ∷ os) [] none = refl
made_of-none (o ∷ os) (r ∷ rs) none = absurd (cc)

pub handling_ends : (all rest : List (Origin × Option (List ℕ))) (old now : List Handled) → rest ≡ [] → IsHandling all old now rest
    → (more : List Handled) × ((now ≡ old ++ more) × AllZip IsHandled all more)
handling_ends all rest old now none way = (
  way.more,
  (
    way.handled,
    subst (λ (xs : List (Origin × Option (List ℕ))). AllZip IsHandled xs way.more)
        (sym (append-nil way.front) ∙ ap (λ (t : List (Origin × Option (List ℕ))). way.front ++ t) (sym none) ∙ sym way.are) way.each,
  ),
)

-- there is room for as many as there are
pub room_for : {X : Type 0} (used long most : ℕ) (xs ys : List X) → used + long ≤ most → long ≡ length ys → xs ≡ ys → used + length xs ≤ most
room_for used long most xs ys fits counted same =
    subst (λ (n : ℕ). used + n ≤ most) (counted ∙ sym (ap length same)) fits

one_less : (used more most kept n m : ℕ) → n ≡ suc m → more ≡ used + 1 → kept ≡ most → used + n ≤ most → more + m ≤ kept
one_less used more most kept n m longer counted same fits = omega arith

-- and there is, once one of them is used
pub room_stays : {X : Type 0} (used more most kept : ℕ) (xs ys : List X) (x : X) → xs ≡ x ∷ ys → more ≡ used + 1 → kept ≡ most
    → used + length xs ≤ most → more + length ys ≤ kept
room_stays used more most kept xs ys x first counted same fits =
    one_less used more most kept (length xs) (length ys) (ap length first) counted same fits
