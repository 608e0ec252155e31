-- A message has one meaning.
use Rattle.std.proofs.Common.{◌≡◌, ℕ, Bool, List, [], ◌∷◌, codes, get_or, Option, Some, None, refl, sym, ap, subst, ◌∙◌, inl, inr, arith}
use Rattle.std.specs.Prelude.{unwrap_or, slice_get}
use Rattle.std.specs.Option.{option_map}
use Rattle.lw_stamp.specs.declared.stamp.Stamp.{Stamp}
use Rattle.lw_coap.specs.Message.{MessageContent}
use Rattle.lw_reg.specs.declared.binding.Binding.{Binding}
use Rattle.lw_reg.specs.declared.settings.GivenSettings.{GivenSettings}
use Rattle.lw_reg.specs.declared.settings.Settings.{Settings}
use Rattle.lw_reg.specs.declared.version.Version.{Version}
use Rattle.lw_reg.specs.declared.version.Version.TheVariants.{V10, V11}
use Rattle.lw_reg.specs.Binding.{binding_text}
use Rattle.lw_reg.specs.BindingLaws.{same_binding}
use Rattle.lw_reg.specs.Version.{version_text}
use Rattle.lw_request.specs.declared.asked.Asked.{Asked}
use Rattle.lw_request.specs.declared.asked.Asked.TheVariants.{Register, Update, Deregister, Report, Ping, Refuse, Reject, Ignore}
use Rattle.lw_request.specs.declared.role.Role.{Role}
use Rattle.lw_request.specs.declared.role.Role.TheVariants.{Ignored, Ping as Probe, Request, Response, Reserved}
use Rattle.lw_request.specs.Queries.{given, IsLifetime, IsGiven}
use Rattle.lw_request.specs.Queries.Parameter.{Lt as Lifetime}
use Rattle.lw_request.specs.Steps.{IsEntry, queries_of, Step, steps}
use Rattle.lw_request.specs.Meaning.{Names, AreObjects, AsksRegister, AsksUpdate, Asks, MeansBy, role_of, RoleMeans, Means}
use Rattle.lw_request.proofs.AttributeLemmas.{one_attributes}
use Rattle.lw_request.proofs.ObjectLemmas.{one_list}
use Rattle.lw_request.proofs.Paths.{not_both, delete_is_no_post}

none_some : {V : Type 0} (v : V) → (◌≡◌ {A = Option V} None (Some v)) → ⊥
none_some v e = cc

some_is : {V : Type 0} (v w : V) → (◌≡◌ {A = Option V} (Some v) (Some w)) → v ≡ w
some_is v w e = cc

-- a segment names one registration, or none
one_id : (segment : List ℕ) (a b : Option Stamp) → Names segment a → Names segment b → a ≡ b
one_id segment None None h k = refl
one_id segment None (Some s) h k = absurd (none_some s ((h s).1 ((k s).0 refl)))
one_id segment (Some s) b h k = sym ((k s).1 ((h s).0 refl))

one_entry : (m : MessageContent) (a b : List ℕ) → IsEntry m a → IsEntry m b → a ≡ b
one_entry m a b h k = some_is a b (ap (λ (segments : List (List ℕ)). slice_get segments 1) (sym h ∙ k))

one_version : (a b : Version) → version_text a ≡ version_text b → a ≡ b
one_version V10 V10 e = refl
one_version V10 V11 e = let third : 48 ≡ 49 = ap (λ (text : List ℕ). get_or text 2 0) e in absurd (omega (arith, third))
one_version V11 V10 e = let third : 49 ≡ 48 = ap (λ (text : List ℕ). get_or text 2 0) e in absurd (omega (arith, third))
one_version V11 V11 e = refl

one_lifetime : (text : List ℕ) (a b : ℕ) → IsLifetime text a → IsLifetime text b → a ≡ b
one_lifetime text a b h k = h.3 ∙ sym k.3

one_given : (o : Option (List ℕ)) (a b : Option ℕ) → IsGiven IsLifetime o a → IsGiven IsLifetime o b → a ≡ b
one_given None None None h k = refl
one_given None None (Some b) h k = absurd k
one_given None (Some a) b h k = absurd h
one_given (Some text) None b h k = absurd h
one_given (Some text) (Some a) None h k = absurd k
one_given (Some text) (Some a) (Some b) h k = ap (λ (n : ℕ). Some n) (one_lifetime text a b h k)

one_binding : (a b : Option Binding) → option_map binding_text a ≡ option_map binding_text b → a ≡ b
one_binding None None e = refl
one_binding None (Some b) e = absurd (none_some (binding_text b) e)
one_binding (Some a) None e = absurd (none_some (binding_text a) (sym e))
one_binding (Some a) (Some b) e = ap (λ (x : Binding). Some x) (same_binding a b (some_is (binding_text a) (binding_text b) e))

one_objects : (payload : List ℕ) (a b : Option (List ℕ)) → AreObjects payload a → AreObjects payload b → a ≡ b
one_objects payload None None h k = refl
one_objects payload None (Some b) h k = absurd (k.0 h)
one_objects payload (Some a) None h k = absurd (h.0 k)
one_objects payload (Some a) (Some b) h k = ap (λ (x : List ℕ). Some x) (one_list payload a b h.1 k.1)

register_one : (m : MessageContent) (e e' : List ℕ) (v v' : Version) (q q' : Bool) (s s' : Settings)
    → AsksRegister m e v q s → AsksRegister m e' v' q' s' → Register e v q s ≡ Register e' v' q' s'
register_one m e e' v v' q q' s s' h k =
    let endpoint = some_is e e' (sym h.endpoint_is ∙ k.endpoint_is) in
    let version = one_version v v' (h.version_is ∙ sym k.version_is) in
    let queue = h.queue_is ∙ sym k.queue_is in
    let lifetime = one_lifetime (unwrap_or (given Lifetime (queries_of m)) (codes "86400")) s.lifetime s'.lifetime h.lifetime_is k.lifetime_is in
    let binding = same_binding s.binding s'.binding (h.binding_is ∙ sym k.binding_is) in
    let sms = h.sms_is ∙ sym k.sms_is in
    let objects = one_list m.payload s.objects s'.objects h.objects_are k.objects_are in
    let attributes = one_attributes (queries_of m) s.attributes s'.attributes h.attributes_are k.attributes_are in
    λ i. Register (endpoint i) (version i) (queue i) (record { lifetime = lifetime i; binding = binding i; sms = sms i; objects = objects i; attributes = attributes i })

update_one : (m : MessageContent) (i i' : Option Stamp) (s s' : GivenSettings)
    → AsksUpdate m i s → AsksUpdate m i' s' → Update i s ≡ Update i' s'
update_one m i i' s s' h k =
    let id = one_id h.segment i i' h.id_is (subst (λ (segment : List ℕ). Names segment i') (one_entry m k.segment h.segment k.form.0 h.form.0) k.id_is) in
    let lifetime = one_given (given Lifetime (queries_of m)) s.lifetime s'.lifetime h.settings_are.lifetime_is k.settings_are.lifetime_is in
    let binding = one_binding s.binding s'.binding (h.settings_are.binding_is ∙ sym k.settings_are.binding_is) in
    let sms = h.settings_are.sms_is ∙ sym k.settings_are.sms_is in
    let objects = one_objects m.payload s.objects s'.objects h.objects_are k.objects_are in
    let attributes = one_attributes (queries_of m) s.attributes s'.attributes h.attributes_are k.attributes_are in
    λ j. Update (id j) (record { lifetime = lifetime j; binding = binding j; sms = sms j; objects = objects j; attributes = attributes j })

asks_one : (m : MessageContent) (a b : Asked) → Asks m a → Asks m b → a ≡ b
asks_one m (Register e v q s) (Register e' v' q' s') h k = register_one m e e' v v' q q' s s' h k
asks_one m (Register e v q s) (Update i' s') h k = absurd (not_both m k.segment h.form.0 k.form.0)
asks_one m (Register e v q s) (Deregister i') h k = absurd (not_both m k.0 h.form.0 k.1.0)
asks_one m (Register e v q s) (Report r') h k = absurd k
asks_one m (Register e v q s) Ping h k = absurd k
asks_one m (Register e v q s) (Refuse f') h k = absurd k
asks_one m (Register e v q s) Reject h k = absurd k
asks_one m (Register e v q s) Ignore h k = absurd k
asks_one m (Update i s) (Register e' v' q' s') h k = absurd (not_both m h.segment k.form.0 h.form.0)
asks_one m (Update i s) (Update i' s') h k = update_one m i i' s s' h k
asks_one m (Update i s) (Deregister i') h k = absurd (delete_is_no_post m k.1.1 h.form.1)
asks_one m (Update i s) (Report r') h k = absurd k
asks_one m (Update i s) Ping h k = absurd k
asks_one m (Update i s) (Refuse f') h k = absurd k
asks_one m (Update i s) Reject h k = absurd k
asks_one m (Update i s) Ignore h k = absurd k
asks_one m (Deregister i) (Register e' v' q' s') h k = absurd (not_both m h.0 k.form.0 h.1.0)
asks_one m (Deregister i) (Update i' s') h k = absurd (delete_is_no_post m h.1.1 k.form.1)
asks_one m (Deregister i) (Deregister i') h k = ap (λ (id : Option Stamp). Deregister id) (one_id h.0 i i' h.2 (subst (λ (segment : List ℕ). Names segment i') (one_entry m k.0 h.0 k.1.0 h.1.0) k.2))
asks_one m (Deregister i) (Report r') h k = absurd k
asks_one m (Deregister i) Ping h k = absurd k
asks_one m (Deregister i) (Refuse f') h k = absurd k
asks_one m (Deregister i) Reject h k = absurd k
asks_one m (Deregister i) Ignore h k = absurd k
asks_one m (Report r) other h k = absurd h
asks_one m Ping other h k = absurd h
asks_one m (Refuse f) other h k = absurd h
asks_one m Reject other h k = absurd h
asks_one m Ignore other h k = absurd h

by_one : (rest : List Step) (m : MessageContent) (a b : Asked) → MeansBy rest m a → MeansBy rest m b → a ≡ b
by_one [] m a b h k = asks_one m a b h k
by_one (step ∷ rest) m a b (inl h) (inl k) = h.1 ∙ sym k.1
by_one (step ∷ rest) m a b (inl h) (inr k) = absurd (k.0 h.0)
by_one (step ∷ rest) m a b (inr h) (inl k) = absurd (h.0 k.0)
by_one (step ∷ rest) m a b (inr h) (inr k) = by_one rest m a b h.1 k.1

role_one : (role : Role) (m : MessageContent) (a b : Asked) → RoleMeans role m a → RoleMeans role m b → a ≡ b
role_one Ignored m a b h k = h ∙ sym k
role_one Probe m a b h k = h ∙ sym k
role_one Request m a b h k = by_one steps m a b h k
role_one Response m a b (inl h) (inl k) = h.1 ∙ sym k.1
role_one Response m a b (inl h) (inr k) = absurd (k.0 h.0)
role_one Response m a b (inr h) (inl k) = absurd (h.0 k.0)
role_one Response m a b (inr h) (inr k) = h.1 ∙ sym k.1
role_one Reserved m a b h k = h ∙ sym k

pub one_meaning : (m : MessageContent) (a b : Asked) → Means m a → Means m b → a ≡ b
one_meaning m a b h k = role_one (role_of m.kind m.code) m a b h k
