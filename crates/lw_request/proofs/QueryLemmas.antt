-- The queries of a Register and an Update.
use Rattle.std.proofs.Common.{◌≡◌, ℕ, ◌+◌, ◌-◌, ◌≤◌, true, false, List, [], ◌∷◌, length, codes, Option, Some, None, refl, sym, ap, subst, ◌∙◌, inl, inr, arith, length-drop, ◌≢◌, ◌↔◌, ◌⊎◌, Result, Ok, Err}
use Rattle.std.specs.Prelude.{IfOk, OnErr, IfNone, unwrap_or, bytes_eq, if◌then◌else◌, ◌==◌}
use Rattle.std.specs.List.{AllByRecursion, position_or_len}
use Rattle.std.specs.Option.{option_map}
use Rattle.std.proofs.lemmas.Bool.{cases_Bool, cond-true, cond-false}
use Rattle.std.proofs.lemmas.List.{length-take}
use Rattle.std.proofs.lemmas.Slice.Eq.{bytes_eq-Decides}
use Rattle.lw_reg.specs.declared.binding.Binding.{Binding}
use Rattle.lw_reg.specs.declared.version.Version.{Version}
use Rattle.lw_reg.specs.Version.{version_text}
use Rattle.lw_reg.specs.Binding.{binding_text}
use Rattle.lw_reg.specs.BindingText.{IsBindingText}
use Rattle.lw_coap.specs.Message.{OptionContent}
use Rattle.lw_request.specs.Options.{values_of, has_unrecognised}
use Rattle.lw_request.specs.Queries.{name_of, value_of, later_or, Parameter, parameter_name, given, Accepts, IsLifetime, AreTexts, IsOfUpdate, HasBadQuery, IsGiven, AreSettings}
use Rattle.lw_request.specs.inner.Queries.{EachIsLookedAt, IsWithin, IsNotAccepted}
use Rattle.lw_request.specs.Queries.Parameter.{Ep, Lt, Lwm2m, B, Q, Sms}
use Rattle.lw_request.proofs.Recognised.{IsShortQuery, recognised_short}

none_some : {V : Type 0} (v : V) → (◌≡◌ {A = Option V} None (Some v)) → ⊥
none_some v e = cc

some_is : {V : Type 0} (v w : V) → (◌≡◌ {A = Option V} (Some v) (Some w)) → v ≡ w
some_is v w e = cc

-- ---- gathering the parameters

-- what stands before the queries that are left has these values, and is UTF-8
pub record AreGathered (all left : List (List ℕ)) (values : Parameter → Option (List ℕ)) : Type 0 where
  pub texts : AreTexts left → AreTexts all
  pub back : AreTexts all → AreTexts left
  pub values_are : (p : Parameter) → given p all ≡ later_or (given p left) (values p)

-- ---- the length of a value

pub value_short : (query name : List ℕ) → IsShortQuery query → name_of query ≡ name → length (value_of query) ≤ 254 - length name
value_short query name short named =
    let n = position_or_len (λ (c : ℕ). c == 61) query in
    let front = length-take n query in
    let back = length-drop (n + 1) query in
    let same : length (name_of query) ≡ length name = ap length named in
    omega (arith, front, back, same, short)

later_short : (most : ℕ) (later earlier : Option (List ℕ)) → IsWithin most later → IsWithin most earlier → IsWithin most (later_or later earlier)
later_short most (Some v) earlier h k = h
later_short most None earlier h k = k

value_is_short : (query name : List ℕ) → IsShortQuery query → IsWithin (254 - length name) (if bytes_eq (name_of query) name then Some (value_of query) else None)
value_is_short query name short =
    elim (cases_Bool (bytes_eq (name_of query) name)) [
      | inl same ↦ subst (IsWithin (254 - length name)) (sym (cond-true (bytes_eq (name_of query) name) (Some (value_of query)) None same))
          (λ text e. subst (λ (v : List ℕ). length v ≤ 254 - length name) (some_is (value_of query) text e) (value_short query name short ((bytes_eq-Decides (name_of query) name).0 same)))
      | inr other ↦ subst (IsWithin (254 - length name)) (sym (cond-false (bytes_eq (name_of query) name) (Some (value_of query)) None other))
          (λ text e. absurd (none_some text e))
    ]

given_short : (p : Parameter) (queries : List (List ℕ)) → AllByRecursion IsShortQuery queries → IsWithin (254 - length (parameter_name p)) (given p queries)
given_short p [] h = λ text e. absurd (none_some text e)
given_short p (query ∷ queries) h =
    later_short (254 - length (parameter_name p)) (given p queries) (if bytes_eq (name_of query) (parameter_name p) then Some (value_of query) else None) (given_short p queries h.1)
    (value_is_short query (parameter_name p) h.0)

-- an SMS number stands behind `sms=` and an endpoint behind `ep=`, in a query of at most 255 bytes
pub sms_short : (options : List OptionContent) → (has_unrecognised options ≡ true → ⊥) → IsWithin 251 (given Sms (values_of 15 options))
sms_short options h = given_short Sms (values_of 15 options) (recognised_short options h)

pub endpoint_short : (options : List OptionContent) → (has_unrecognised options ≡ true → ⊥) → IsWithin 252 (given Ep (values_of 15 options))
endpoint_short options h = given_short Ep (values_of 15 options) (recognised_short options h)

-- ---- bad queries

pub bad_value : (P : Parameter → Type 0) (p : Parameter) (queries : List (List ℕ)) (o : Option (List ℕ)) → P p → o ≡ given p queries → IsNotAccepted p o → HasBadQuery P queries
bad_value P p queries o looked same (value, is, refuted) =
    inr (inl (record { parameter = p; value = value; looked_at = looked; is_given = sym same ∙ is; not_accepted = refuted }))

pub bad_more : (P R : Parameter → Type 0) (queries : List (List ℕ)) → ((p : Parameter) → P p → R p) → HasBadQuery P queries → HasBadQuery R queries
bad_more P R queries f (inl texts) = inl texts
bad_more P R queries f (inr (inl bad)) = inr (inl (record { parameter = bad.parameter; value = bad.value; looked_at = f bad.parameter bad.looked_at; is_given = bad.is_given; not_accepted = bad.not_accepted }))
bad_more P R queries f (inr (inr (looked, none))) = inr (inr (f Ep looked, none))

binding_accepted : (binding : Binding) (text : List ℕ) → binding_text binding ≡ text → IsBindingText text
binding_accepted binding text e = subst IsBindingText e binding.padded.text

pub given_or : (value text : List ℕ) (o : Option (List ℕ)) → o ≡ Some text → (x : List ℕ) → x ≡ unwrap_or o value → x ≡ text
given_or value text o e x h = h ∙ ap (λ (v : Option (List ℕ)). unwrap_or v value) e

good_register_value : (queries : List (List ℕ)) (endpoint : List ℕ) (lifetime : ℕ) (binding : Binding)
    → given Ep queries ≡ Some endpoint → 1 ≤ length endpoint → IsLifetime (unwrap_or (given Lt queries) (codes "86400")) lifetime
    → binding_text binding ≡ unwrap_or (given B queries) (codes "U")
    → (p : Parameter) (value : List ℕ) → given p queries ≡ Some value → Accepts p value
good_register_value queries endpoint lifetime binding ep long lt b Ep value e =
    subst (λ (v : List ℕ). 1 ≤ length v) (some_is endpoint value (sym ep ∙ e)) long
good_register_value queries endpoint lifetime binding ep long lt b Lt value e =
    (lifetime, subst (λ (o : Option (List ℕ)). IsLifetime (unwrap_or o (codes "86400")) lifetime) e lt)
good_register_value queries endpoint lifetime binding ep long lt b Lwm2m value e = tt
good_register_value queries endpoint lifetime binding ep long lt b B value e =
    binding_accepted binding value (given_or (codes "U") value (given B queries) e (binding_text binding) b)
good_register_value queries endpoint lifetime binding ep long lt b Q value e = tt
good_register_value queries endpoint lifetime binding ep long lt b Sms value e = tt

pub good_register : (P : Parameter → Type 0) (queries : List (List ℕ)) (endpoint : List ℕ) (lifetime : ℕ) (binding : Binding) → AreTexts queries
    → given Ep queries ≡ Some endpoint → 1 ≤ length endpoint → IsLifetime (unwrap_or (given Lt queries) (codes "86400")) lifetime
    → binding_text binding ≡ unwrap_or (given B queries) (codes "U")
    → HasBadQuery P queries → ⊥
good_register P queries endpoint lifetime binding texts ep long lt b (inl bad) = bad texts
good_register P queries endpoint lifetime binding texts ep long lt b (inr (inl bad)) =
    bad.not_accepted (good_register_value queries endpoint lifetime binding ep long lt b bad.parameter bad.value bad.is_given)
good_register P queries endpoint lifetime binding texts ep long lt b (inr (inr (looked, none))) = none_some endpoint (sym none ∙ ep)

read_given : {V : Type 0} (R : List ℕ → V → Type 0) (o : Option (List ℕ)) (v : Option V) (text : List ℕ) → o ≡ Some text → IsGiven R o v → (value : V) × R text value
read_given R None v text e h = absurd (none_some text e)
read_given R (Some t) None text e h = absurd h
read_given {V = V} R (Some t) (Some v) text e h = (v, subst (λ (x : List ℕ). R x v) (some_is t text e) h)

read_binding : (o : Option Binding) (text : List ℕ) → option_map binding_text o ≡ Some text → IsBindingText text
read_binding None text e = absurd (none_some text e)
read_binding (Some b) text e = binding_accepted b text (some_is (binding_text b) text e)

good_update_value : (queries : List (List ℕ)) (lifetime : Option ℕ) (binding : Option Binding) (sms : Option (List ℕ)) → AreSettings queries lifetime binding sms
    → (p : Parameter) (value : List ℕ) → IsOfUpdate p → given p queries ≡ Some value → Accepts p value
good_update_value queries lifetime binding sms h Ep value looked e = absurd (false_is looked)
  where
    false_is : false ≡ true → ⊥
    false_is x = cc
good_update_value queries lifetime binding sms h Lt value looked e = read_given IsLifetime (given Lt queries) lifetime value e h.lifetime_is
good_update_value queries lifetime binding sms h Lwm2m value looked e = tt
good_update_value queries lifetime binding sms h B value looked e = read_binding binding value (h.binding_is ∙ e)
good_update_value queries lifetime binding sms h Q value looked e = tt
good_update_value queries lifetime binding sms h Sms value looked e = tt

pub good_update : (P : Parameter → Type 0) (queries : List (List ℕ)) (lifetime : Option ℕ) (binding : Option Binding) (sms : Option (List ℕ)) → AreTexts queries
    → AreSettings queries lifetime binding sms → ((p : Parameter) → P p → IsOfUpdate p) → HasBadQuery P queries → ⊥
good_update P queries lifetime binding sms texts h f (inl bad) = bad texts
good_update P queries lifetime binding sms texts h f (inr (inl bad)) =
    bad.not_accepted (good_update_value queries lifetime binding sms h bad.parameter bad.value (f bad.parameter bad.looked_at) bad.is_given)
good_update P queries lifetime binding sms texts h f (inr (inr (looked, none))) =
    let x : false ≡ true = f Ep looked in cc

-- ---- what is made of the values

pub on_err : {V E : Type 0} (P : Type 0) (r : Result V E) → P → OnErr r P
on_err P (Ok v) h = tt
on_err P (Err e) h = h

pub on_err_as : {V E : Type 0} (P R : Type 0) (r : Result V E) → (P → R) → OnErr r P → OnErr r R
on_err_as P R (Ok v) f h = tt
on_err_as P R (Err e) f h = f h

pub if_ok_all : {V E : Type 0} (First Second Third All : V → Type 0) (r : Result V E) → ((v : V) → First v → Second v → Third v → All v) → IfOk r First → IfOk r Second → IfOk r Third → IfOk r All
if_ok_all First Second Third All (Ok v) f a b c = f v a b c
if_ok_all First Second Third All (Err e) f a b c = tt

pub bad_endpoint : (queries : List (List ℕ)) (o : Option (List ℕ)) → o ≡ given Ep queries → (o ≡ None) ⊎ IsNotAccepted Ep o → HasBadQuery EachIsLookedAt queries
bad_endpoint queries o same (inl none) = inr (inr (tt, sym same ∙ none))
bad_endpoint queries o same (inr bad) = bad_value EachIsLookedAt Ep queries o tt same bad

pub bad_settings : (P : Parameter → Type 0) (queries : List (List ℕ)) (lt b : Option (List ℕ)) → P Lt → P B → lt ≡ given Lt queries → b ≡ given B queries
    → IsNotAccepted Lt lt ⊎ IsNotAccepted B b → HasBadQuery P queries
bad_settings P queries lt b looked other same is (inl bad) = bad_value P Lt queries lt looked same bad
bad_settings P queries lt b looked other same is (inr bad) = bad_value P B queries b other is bad

pub other_version : (r : Option Version) (o : Option (List ℕ)) (text : List ℕ) → o ≡ Some text → ((v : Version) → (r ≡ Some v) ↔ (text ≡ version_text v))
    → IfNone r ((x : List ℕ) × (o ≡ Some x) × ((v : Version) → x ≢ version_text v))
other_version None o text is iff = (text, is, λ v e. none_some v ((iff v).1 e))
other_version (Some v) o text is iff = tt

pub lifetime_or : (o : Option (List ℕ)) (l : Option ℕ) → IsGiven IsLifetime o l → IsLifetime (unwrap_or o (codes "86400")) (unwrap_or l 86400)
lifetime_or None None h = (omega arith, omega arith, ((omega arith, omega arith), ((omega arith, omega arith), ((omega arith, omega arith), ((omega arith, omega arith), ((omega arith, omega arith), tt))))), refl, omega arith)
lifetime_or None (Some l) h = absurd h
lifetime_or (Some text) None h = absurd h
lifetime_or (Some text) (Some l) h = h
