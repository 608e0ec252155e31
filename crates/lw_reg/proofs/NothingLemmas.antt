-- Nothing is below all that is known, and adds nothing to it.
use Rattle.std.proofs.Common.{◌≡◌, ◌∙◌, Bool, true, [], Option, Some, None, is_none, refl, sym, ap, subst}
use Rattle.std.specs.Prelude.{◌↔◌, IsTrue}
use Rattle.std.proofs.lemmas.Bool.{and_parts}
use Rattle.lw_join.specs.JoinLaws.{semilattice, absorbed}
use Rattle.lw_join.specs.OrGone.{gone_below, gone_join}
use Rattle.lw_join.specs.Parts.{entries_of}
use Rattle.lw_join.specs.PartsLaws.{entries_made}
use Rattle.lw_join.specs.declared.or_gone.OrGone.{OrGone}
use Rattle.lw_join.specs.declared.or_gone.OrGone.TheVariants.{Here, Gone}
use Rattle.lw_reg.specs.declared.body.Body.{Body}
use Rattle.lw_reg.specs.Body.{BodyBelow, body_join, maps_of, nothing}
use Rattle.lw_reg.specs.BodyLaws.{body_laws}
use Rattle.lw_reg.specs.Reading.{told_attributes, told_watches}
use Rattle.lw_reg.specs.BodyOrGone.{known_in}
use Rattle.lw_reg.specs.inner.BodyOrGone.{has_no_fields}
use Rattle.lw_reg.proofs.WriteLemmas.{no_attributes_are, no_attributes_below}
use Rattle.lw_reg.proofs.WatchLemmas.{no_watches_are, no_watches_below}

nothing_below : (b : Body) → BodyBelow nothing b
nothing_below b = record { base = tt; address = tt; seen = tt; lifetime = tt; binding = tt; sms = tt; objects = tt; ended = tt; maps = (no_attributes_below b.maps.left, no_watches_below b.maps.right) }

below_told : (x : OrGone Body) → gone_below BodyBelow (Here nothing) x
below_told Gone = tt
below_told (Here b) = nothing_below b

pub nothing_below_told : (x y : OrGone Body) → x ≡ Here nothing → gone_below BodyBelow x y
nothing_below_told x y e = subst (λ z. gone_below BodyBelow z y) (sym e) (below_told y)

below_nothing : (b : Body) → BodyBelow b nothing ↔ (b ≡ nothing)
below_nothing b = (λ h. body_laws.antisymmetric b nothing h (nothing_below b), λ e. subst (BodyBelow b) e (body_laws.reflexive b))

pub told_below_nothing : (x y : OrGone Body) (b : Body) (r : Bool) → x ≡ Here b → y ≡ Here nothing → (IsTrue r ↔ (b ≡ nothing)) → IsTrue r ↔ gone_below BodyBelow x y
told_below_nothing x y b r ex ey h =
    subst (λ z. IsTrue r ↔ gone_below BodyBelow x z) (sym ey)
    (subst (λ z. IsTrue r ↔ gone_below BodyBelow z (Here nothing)) (sym ex) (λ t. (below_nothing b).1 (h.0 t), λ t. h.1 ((below_nothing b).0 t)))

pub nothing_right : (b : Body) → body_join b nothing ≡ b
nothing_right b = absorbed body_laws b nothing (nothing_below b)

-- joined to nothing
pub joined_to_nothing : (x : OrGone Body) (b : Body) → x ≡ Here nothing → Here b ≡ gone_join body_join x (Here b)
joined_to_nothing x b e = ap Here (sym ((semilattice body_laws).commutative nothing b ∙ nothing_right b)) ∙ ap (λ y. gone_join body_join y (Here b)) (sym e)

-- nothing joined
pub joined_nothing : (x : OrGone Body) → x ≡ gone_join body_join x (Here nothing)
joined_nothing Gone = refl
joined_nothing (Here b) = ap Here (sym (nothing_right b))

pub nothing_joined : (x y : OrGone Body) → y ≡ Here nothing → x ≡ gone_join body_join x y
nothing_joined x y e = joined_nothing x ∙ ap (gone_join body_join x) (sym e)

none_is : {A : Type 0} (o : Option A) → is_none o ≡ true → o ≡ None
none_is None h = refl
none_is (Some x) h = absurd cc

pub is_nothing_known : (b : Body) → has_no_fields b ≡ true → (entries_of b.maps.left ≡ []) × (entries_of b.maps.right ≡ []) → b ≡ nothing
is_nothing_known b h empty =
    let a = and_parts _ _ h in
    let c = and_parts _ _ a.0 in
    let d = and_parts _ _ c.0 in
    let e = and_parts _ _ d.0 in
    let f = and_parts _ _ e.0 in
    let g = and_parts _ _ f.0 in
    let j = and_parts _ _ g.0 in
    let base = none_is b.base.value j.0 in
    let address = none_is b.address.write j.1 in
    let seen = none_is b.seen.write g.1 in
    let lifetime = none_is b.lifetime.write f.1 in
    let binding = none_is b.binding.write e.1 in
    let sms = none_is b.sms.write d.1 in
    let objects = none_is b.objects.write c.1 in
    let ended = none_is b.ended.value a.1 in
    let attributes = no_attributes_are b.maps.left empty.0 in
    let watches = no_watches_are b.maps.right empty.1 in
    λ i. record {
      base = record { value = base i };
      address = record { write = address i };
      seen = record { write = seen i };
      lifetime = record { write = lifetime i };
      binding = record { write = binding i };
      sms = record { write = sms i };
      objects = record { write = objects i };
      ended = record { value = ended i };
      maps = maps_of (attributes i) (watches i);
    }

pub nothing_has_no_fields : (b : Body) → b ≡ nothing → has_no_fields b ≡ true
nothing_has_no_fields b e = ap has_no_fields e

pub nothing_has_no_entries : (b : Body) → b ≡ nothing → (entries_of b.maps.left ≡ []) × (entries_of b.maps.right ≡ [])
nothing_has_no_entries b e = (ap (λ (x : Body). entries_of x.maps.left) e ∙ entries_made _ _ _ [] tt, ap (λ (x : Body). entries_of x.maps.right) e ∙ entries_made _ _ _ [] tt)

-- the watches of what is known
watches_known : (x : OrGone Body) → entries_of (known_in x).maps.right ≡ told_watches x
watches_known Gone = entries_made _ _ _ [] tt
watches_known (Here b) = refl

pub watches_of_known : (x : OrGone Body) (b : Body) → b ≡ known_in x → entries_of b.maps.right ≡ told_watches x
watches_of_known x b e = ap (λ (y : Body). entries_of y.maps.right) e ∙ watches_known x

pub watches_of_nothing : (x : OrGone Body) → nothing ≡ known_in x → [] ≡ told_watches x
watches_of_nothing x e = sym (entries_made _ _ _ [] tt) ∙ watches_of_known x nothing e

-- the attributes of what is known
attributes_known : (x : OrGone Body) → entries_of (known_in x).maps.left ≡ told_attributes x
attributes_known Gone = entries_made _ _ _ [] tt
attributes_known (Here b) = refl

pub attributes_of_known : (x : OrGone Body) (b : Body) → b ≡ known_in x → entries_of b.maps.left ≡ told_attributes x
attributes_of_known x b e = ap (λ (y : Body). entries_of y.maps.left) e ∙ attributes_known x

pub attributes_of_nothing : (x : OrGone Body) → nothing ≡ known_in x → [] ≡ told_attributes x
attributes_of_nothing x e = sym (entries_made _ _ _ [] tt) ∙ attributes_of_known x nothing e
