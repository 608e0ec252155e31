-- What is left of parts that stand one after another, behind the first.
use Rattle.std.proofs.Common.{◌≡◌, ℕ, List, [], ◌∷◌, Option, Some, None, refl, sym, ap, subst}
use Rattle.lw_delta.specs.Part.{Part, Found, optional, last_key, Walks, repeated}
use Rattle.lw_reg.specs.declared.slot.Slot.{Slot}
use Rattle.lw_delta.specs.Format.{slot}
use Rattle.lw_delta.specs.Unread.{Unread, IsLeft}
use Rattle.lw_delta.proofs.Decided.{Decided, optional_decided, repeated_decided}
use Rattle.lw_delta.proofs.Grammar.{slot_decided}

module _ {K A : Type 0} (item : Option K → Part A) (key : A → K) (d : (k : Option K) → Decided (item k)) (after : Option K) where
  apart_some : {G : Type 0} (x : A) → ◌≡◌ {A = Option A} None (Some x) → G
  apart_some x e = absurd cc

  same_some : (x y : A) → ◌≡◌ {A = Option A} (Some x) (Some y) → x ≡ y
  same_some x y e = cc

  first_of : (xs : List A) (bytes behind rest : List ℕ) (x : A) (r : List ℕ) → Walks item key after bytes xs behind → Found (optional (item (last_key key after xs))) behind None rest
      → Found (optional (item after)) bytes (Some x) r → (ys : List A) × (xs ≡ x ∷ ys) × Found (repeated item key (Some (key x))) r ys rest
  unfolding repeated
  first_of [] bytes behind rest x r w f g =
      apart_some x ((optional_decided (d after)).one bytes None (Some x) rest r (subst (λ (b : List ℕ). Found (optional (item after)) b None rest) (sym w) f) g).0
  first_of (y ∷ ys) bytes behind rest x r w f g =
      let e = (optional_decided (d after)).one bytes (Some y) (Some x) w.0 r w.1 g in
      let same : y ≡ x = same_some y x e.0 in
      let all : Found (repeated item key (Some (key y))) w.0 ys rest = record { is = (behind, w.2, f) } in (
        ys,
        ap (λ z. z ∷ ys) same,
        subst (λ (b : List ℕ). Found (repeated item key (Some (key x))) b ys rest) e.1 (subst (λ z. Found (repeated item key (Some (key z))) w.0 ys rest) same all),
      )

  pub first_left : {bytes : List ℕ} {xs : List A} {rest : List ℕ} {x : A} {r : List ℕ} → Found (repeated item key after) bytes xs rest → Found (optional (item after)) bytes (Some x) r
      → (ys : List A) × (xs ≡ x ∷ ys) × Found (repeated item key (Some (key x))) r ys rest
  unfolding repeated
  first_left {bytes} {xs} {rest} {x} {r} f g = first_of xs bytes f.is.0 rest x r f.is.1 f.is.2 g

  none_of : (xs : List A) (bytes behind rest r : List ℕ) → Walks item key after bytes xs behind → Found (optional (item (last_key key after xs))) behind None rest
      → Found (optional (item after)) bytes None r → xs ≡ []
  none_of [] bytes behind rest r w f g = refl
  none_of (y ∷ ys) bytes behind rest r w f g = apart_some y ((optional_decided (d after)).one bytes None (Some y) r w.0 g w.1).0

  pub none_left : {bytes : List ℕ} {xs : List A} {rest r : List ℕ} → Found (repeated item key after) bytes xs rest → Found (optional (item after)) bytes None r → xs ≡ []
  unfolding repeated
  none_left {bytes} {xs} {rest} {r} f g = none_of xs bytes f.is.0 rest r f.is.1 f.is.2 g

pub no_first : {A G : Type 0} {x : A} {ys : List A} → [] ≡ x ∷ ys → G
no_first e = absurd cc

-- what is left is left in one way
pub one_left : (unread : Unread) (a b : List (List ℕ × Slot)) → IsLeft unread a → IsLeft unread b → a ≡ b
one_left unread a b f g = ((repeated_decided (slot unread.form unread.clock) (λ s. s.0) (slot_decided unread.form unread.clock) unread.after).one unread.bytes a b [] [] f g).0
