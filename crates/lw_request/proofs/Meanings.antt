-- What a function of the reading answers is what the message means.
use Rattle.std.proofs.Common.{◌≡◌, ◌≢◌, ◌↔◌, ℕ, ◌≤◌, ◌⊎◌, Bool, true, false, List, [], ◌∷◌, length, codes, Option, Some, None, Result, Ok, Err, refl, sym, ap, subst, ◌∙◌, inl, inr}
use Rattle.std.specs.Prelude.{unwrap_or, is_some, IsTrue, IsSome, IsErr, IfOk, OnErr}
use Rattle.std.proofs.lemmas.Bool.{both_ways}
use Rattle.lw_stamp.specs.declared.no_memory.NoMemory.{NoMemory}
use Rattle.lw_stamp.specs.declared.stamp.Stamp.{Stamp}
use Rattle.lw_coap.specs.Message.{OptionContent, MessageContent}
use Rattle.lw_link.specs.Spelling.{Spells}
use Rattle.lw_reg.specs.declared.binding.Binding.{Binding}
use Rattle.lw_reg.specs.declared.settings.GivenSettings.{GivenSettings}
use Rattle.lw_reg.specs.declared.settings.Settings.{Settings}
use Rattle.lw_reg.specs.declared.version.Version.{Version}
use Rattle.lw_reg.specs.Binding.{binding_text}
use Rattle.lw_reg.specs.Version.{version_text}
use Rattle.lw_request.specs.declared.asked.Asked.{Asked}
use Rattle.lw_request.specs.declared.asked.Asked.TheVariants.{Register, Update, Deregister, Refuse}
use Rattle.lw_request.specs.declared.refusal.Refusal.TheVariants.{BadRequest, PreconditionFailed, RequestEntityTooLarge, UnsupportedContentFormat}
use Rattle.lw_request.specs.declared.objects.Unread.{Unread}
use Rattle.lw_request.specs.declared.objects.Unread.TheVariants.{TooLarge, NoLinks as NoList, NoMemory as WantOfMemory}
use Rattle.lw_request.specs.Options.{values_of, content_format}
use Rattle.lw_request.specs.Queries.{given, IsLifetime, AreTexts, IsOfUpdate, HasBadQuery, AreSettings, GiveAttributes}
use Rattle.lw_request.specs.inner.Queries.{EachIsLookedAt, GivesAttribute}
use Rattle.lw_request.specs.Queries.Parameter.{Ep, Lt, Lwm2m, B, Q, Sms}
use Rattle.lw_request.specs.Objects.{IsObjectList, IsTooLarge, SpellsNone}
use Rattle.lw_request.specs.inner.Objects.{IsUnread}
use Rattle.lw_request.specs.Steps.{IsPost, IsRegister, IsUpdate, IsDeregister, IsLookedAt, queries_of, Cause, post_steps, path_steps, steps}
use Rattle.lw_request.specs.Steps.Step.{WrongFormat, BadQuery, OtherVersion, TooManyLinks, NoLinks}
use Rattle.lw_request.specs.declared.role.Role.{Role}
use Rattle.lw_request.specs.declared.role.Role.TheVariants.{Request}
use Rattle.lw_request.specs.Meaning.{Names, AreObjects, MeansBy, role_of, RoleMeans, Means, Owns}
use Rattle.lw_request.specs.inner.Meaning.{Understands, UnreadAsks}
use Rattle.lw_request.proofs.AttributeLemmas.{attributes_in, attributes_given, gives_some}
use Rattle.lw_request.proofs.ObjectLemmas.{list_fits, none_fits, nothing_fits, nothing_spelled}
use Rattle.lw_request.proofs.Paths.{not_both, entry_known, delete_allowed, delete_is_no_post}
use Rattle.lw_request.proofs.QueryLemmas.{bad_more, good_register, good_update, given_or}

-- the same answer of what is meant in other words
pub understands_as : (P R : Asked → Type 0) (r : Result Asked NoMemory) → ((asked : Asked) → P asked → R asked) → Understands P r → Understands R r
understands_as P R (Ok asked) f h = f asked h
understands_as P R (Err e) f h = (h.0, f h.0 h.1, h.2)

-- what is made is meant, and want of memory comes in its place
pub understands_made : (P : Asked → Type 0) (r : Result Asked NoMemory) (made : Asked) (Why : Type 0) → P made → IfOk r (λ asked. asked ≡ made) → OnErr r Why → (Why → Owns made) → Understands P r
understands_made P (Ok asked) made Why h is err owned = subst P (sym is) h
understands_made P (Err e) made Why h is err owned = (made, h, owned err)

-- what is made with the attributes that the queries give is meant
pub understands_given : (P : Asked → Type 0) (r : Result Asked NoMemory) (queries : List (List ℕ)) (made : List (List ℕ × List ℕ) → Asked) (Why : Type 0) → ((a : List (List ℕ × List ℕ)) → GiveAttributes queries a → P (made a))
    → IfOk r (λ asked. (a : List (List ℕ × List ℕ)) × GiveAttributes queries a × (asked ≡ made a)) → OnErr r Why → (Why → Owns (made (attributes_in queries))) → Understands P r
understands_given P (Ok asked) queries made Why meant is err owned = subst P (sym is.2) (meant is.0 is.1)
understands_given P (Err e) queries made Why meant is err owned = (made (attributes_in queries), meant (attributes_in queries) (attributes_given queries), owned err)

pub any_error : (r : Result Asked NoMemory) → OnErr r (Unit {0})
any_error (Ok asked) = tt
any_error (Err e) = tt

pub if_not_understood : (P : Asked → Type 0) (r : Result Asked NoMemory) → Understands P r → OnErr r ((asked : Asked) × P asked × Owns asked)
if_not_understood P (Ok asked) h = tt
if_not_understood P (Err e) h = h

pub understands_error : (P : Asked → Type 0) (r : Result Asked NoMemory) (meant : Asked) → IsErr r → P meant → Owns meant → Understands P r
understands_error P (Ok asked) meant e h owned = absurd cc
understands_error P (Err e) meant is h owned = (meant, h, owned)

-- ---- settings

abbrev pub settings_of : ℕ → Binding → Option (List ℕ) → List ℕ → List (List ℕ × List ℕ) → Settings
settings_of l b s o a = record { lifetime = l; binding = b; sms = s; objects = o; attributes = a }

abbrev pub given_of : Option ℕ → Option Binding → Option (List ℕ) → Option (List ℕ) → List (List ℕ × List ℕ) → GivenSettings
given_of l b s o a = record { lifetime = l; binding = b; sms = s; objects = o; attributes = a }

-- ---- formats

-- whether the options have another format than that of links
abbrev pub HasOtherFormat : List OptionContent → Bool → Type 0
HasOtherFormat options b = IsTrue b ↔ ((format : ℕ) × (content_format options ≡ Some format) × (format ≢ 40))

pub right_format : (m : MessageContent) (options : List OptionContent) (b : Bool) → options ≡ m.options → HasOtherFormat options b → b ≡ false → Cause WrongFormat m → ⊥
right_format m options b same iff e (post, wrong) =
    both_ways b e (iff.1 (subst (λ (os : List OptionContent). (format : ℕ) × (content_format os ≡ Some format) × (format ≢ 40)) (sym same) wrong))

pub wrong_format : (m : MessageContent) (options : List OptionContent) (b : Bool) → options ≡ m.options → HasOtherFormat options b → b ≡ true → IsPost m → MeansBy post_steps m (Refuse UnsupportedContentFormat)
wrong_format m options b same iff e post =
    inl ((post, subst (λ (os : List OptionContent). (format : ℕ) × (content_format os ≡ Some format) × (format ≢ 40)) same (iff.0 e)), refl)

-- ---- a Register

-- what the queries of a Register say
pub record HasQueries (queries : List (List ℕ)) (endpoint : List ℕ) (queue : Bool) (lifetime : ℕ) (binding : Binding) (sms : Option (List ℕ)) : Type 0 where
  pub texts : AreTexts queries
  pub endpoint_is : given Ep queries ≡ Some endpoint
  pub named : 1 ≤ length endpoint
  pub queue_is : queue ≡ is_some (given Q queries)
  pub lifetime_is : IsLifetime (unwrap_or (given Lt queries) (codes "86400")) lifetime
  pub binding_is : binding_text binding ≡ unwrap_or (given B queries) (codes "U")
  pub sms_is : sms ≡ given Sms queries

pub good_queries : (m : MessageContent) (e : List ℕ) (q : Bool) (l : ℕ) (b : Binding) (s : Option (List ℕ)) → HasQueries (queries_of m) e q l b s → Cause BadQuery m → ⊥
good_queries m e q l b s h (post, bad) =
    good_register (IsLookedAt m) (queries_of m) e l b h.texts h.endpoint_is h.named h.lifetime_is h.binding_is bad

pub right_version : (m : MessageContent) (v : Version) → version_text v ≡ unwrap_or (given Lwm2m (queries_of m)) (codes "1.0") → Cause OtherVersion m → ⊥
right_version m v h (form, (text, is, none)) = none v (sym (given_or (codes "1.0") text (given Lwm2m (queries_of m)) is (version_text v) h))

-- what the options of a Register were read as, but for its version
pub record IsReadRegister (m : MessageContent) (endpoint : List ℕ) (queue : Bool) (lifetime : ℕ) (binding : Binding) (sms : Option (List ℕ)) : Type 0 where
  pub form : IsRegister m
  pub format : Cause WrongFormat m → ⊥
  pub queries : HasQueries (queries_of m) endpoint queue lifetime binding sms

pub register_read : (m view : MessageContent) (other : Bool) (e : List ℕ) (q : Bool) (l : ℕ) (b : Binding) (s : Option (List ℕ)) → view ≡ m
    → IsRegister m → HasOtherFormat view.options other → other ≡ false → HasQueries (values_of 15 view.options) e q l b s → IsReadRegister m e q l b s
register_read m view other e q l b s same form iff right has =
    let are = ap (λ (m : MessageContent). m.options) same in
    record {
      form = form;
      format = right_format m view.options other are iff right;
      queries = subst (λ (os : List OptionContent). HasQueries (values_of 15 os) e q l b s) are has;
    }

-- the version that a Register speaks, given by its options
abbrev pub IsSpoken : Version → List OptionContent → Type 0
IsSpoken v options = version_text v ≡ unwrap_or (given Lwm2m (values_of 15 options)) (codes "1.0")

pub register_bad : (m : MessageContent) → IsRegister m → (Cause WrongFormat m → ⊥) → HasBadQuery EachIsLookedAt (queries_of m) → MeansBy post_steps m (Refuse BadRequest)
register_bad m form format bad = inr (format, inl ((form.1, bad_more EachIsLookedAt (IsLookedAt m) (queries_of m) (λ p looked. inl form.0) bad), refl))

pub register_other : (m : MessageContent) → IsRegister m → (Cause WrongFormat m → ⊥) → (Cause BadQuery m → ⊥)
    → ((text : List ℕ) × (given Lwm2m (queries_of m) ≡ Some text) × ((version : Version) → text ≢ version_text version)) → MeansBy post_steps m (Refuse PreconditionFailed)
register_other m form format query other = inr (format, inr (query, inl ((form, other), refl)))

pub links_fit : (m : MessageContent) (objects : List ℕ) → IsObjectList m.payload objects → Cause TooManyLinks m → ⊥
links_fit m objects h (post, large) = list_fits m.payload objects h large

pub post_too_large : (m : MessageContent) → IsPost m → (Cause WrongFormat m → ⊥) → (Cause BadQuery m → ⊥) → (Cause OtherVersion m → ⊥) → IsTooLarge m.payload → MeansBy post_steps m (Refuse RequestEntityTooLarge)
post_too_large m post format query version large = inr (format, inr (query, inr (version, inl ((post, large), refl))))

empty_or_none : (payload : List ℕ) → SpellsNone payload → (payload ≡ []) ⊎ ((payload ≢ []) × SpellsNone payload)
empty_or_none [] none = inl refl
empty_or_none (b ∷ payload) none = inr ((λ e. cc), none)

none_is_cause : (m : MessageContent) → IsRegister m → (m.payload ≡ []) ⊎ ((m.payload ≢ []) × SpellsNone m.payload) → Cause NoLinks m
none_is_cause m form (inl empty) = (form.1, inl (form.0, empty))
none_is_cause m form (inr none) = (form.1, inr none)

pub register_no_links : (m : MessageContent) → IsRegister m → (Cause WrongFormat m → ⊥) → (Cause BadQuery m → ⊥) → (Cause OtherVersion m → ⊥)
    → (length m.payload ≤ 8192) × SpellsNone m.payload → MeansBy post_steps m (Refuse BadRequest)
register_no_links m form format query version none =
    inr (format, inr (query, inr (version, inr ((λ large. none_fits m.payload none.0 none.1 large.1), inl (none_is_cause m form (empty_or_none m.payload none.1), refl)))))

list_is_some : (m : MessageContent) (objects : List ℕ) → IsObjectList m.payload objects → Cause NoLinks m → ⊥
list_is_some m objects (within, (links, spells, few, is)) (post, inl (directory, empty)) =
    nothing_spelled links (subst (λ (bytes : List ℕ). Spells bytes links) empty spells)
list_is_some m objects (within, (links, spells, few, is)) (post, inr (some, none)) = none links spells

pub register_asks : (m : MessageContent) (e : List ℕ) (v : Version) (q : Bool) (l : ℕ) (b : Binding) (s : Option (List ℕ)) (o : List ℕ) (a : List (List ℕ × List ℕ))
    → IsRegister m → (Cause WrongFormat m → ⊥) → HasQueries (queries_of m) e q l b s → version_text v ≡ unwrap_or (given Lwm2m (queries_of m)) (codes "1.0")
    → IsObjectList m.payload o → GiveAttributes (queries_of m) a → MeansBy post_steps m (Register e v q (settings_of l b s o a))
register_asks m e v q l b s o a form format h version objects attributes =
    inr (
      format,
      inr (
        good_queries m e q l b s h,
        inr (
          right_version m v version,
          inr (
            links_fit m o objects,
            inr (
              list_is_some m o objects,
              record {
                form = form;
                endpoint_is = h.endpoint_is;
                version_is = version;
                queue_is = h.queue_is;
                lifetime_is = h.lifetime_is;
                binding_is = h.binding_is;
                sms_is = h.sms_is;
                objects_are = objects;
                attributes_are = attributes;
              },
            ),
          ),
        ),
      ),
    )

pub read_register_asks : (m : MessageContent) (e : List ℕ) (v : Version) (q : Bool) (l : ℕ) (b : Binding) (s : Option (List ℕ)) (o : List ℕ) (a : List (List ℕ × List ℕ))
    → IsReadRegister m e q l b s → IsSpoken v m.options → IsObjectList m.payload o → GiveAttributes (queries_of m) a → MeansBy post_steps m (Register e v q (settings_of l b s o a))
read_register_asks m e v q l b s o a read spoken objects attributes = register_asks m e v q l b s o a read.form read.format read.queries spoken objects attributes

-- a Register whose payload was not read
pub register_unread : (m : MessageContent) (e : List ℕ) (v : Version) (q : Bool) (l : ℕ) (b : Binding) (s : Option (List ℕ)) (unread : Unread) (r : Result Asked NoMemory)
    → IsReadRegister m e q l b s → IsSpoken v m.options → IsUnread m.payload unread → UnreadAsks unread r → Understands (MeansBy post_steps m) r
register_unread m e v q l b s TooLarge r read spoken large is =
    rw is (post_too_large m read.form.1 read.format (good_queries m e q l b s read.queries) (right_version m v spoken) large)
register_unread m e v q l b s NoList r read spoken none is =
    rw is (register_no_links m read.form read.format (good_queries m e q l b s read.queries) (right_version m v spoken) none)
register_unread m e v q l b s WantOfMemory r read spoken (objects, list) is =
    let a = attributes_in (queries_of m) in
    understands_error (MeansBy post_steps m) r (Register e v q (settings_of l b s objects a)) is (read_register_asks m e v q l b s objects a read spoken list (attributes_given (queries_of m))) tt

-- ---- an Update

-- what an Update was read as, but for its object list
pub record IsReadUpdate (m : MessageContent) (segment : List ℕ) (id : Option Stamp) (lifetime : Option ℕ) (binding : Option Binding) (sms : Option (List ℕ)) : Type 0 where
  pub form : IsUpdate m segment
  pub format : Cause WrongFormat m → ⊥
  pub texts : AreTexts (queries_of m)
  pub settings : AreSettings (queries_of m) lifetime binding sms
  pub id_is : Names segment id

pub update_read : (m view : MessageContent) (segment : List ℕ) (other : Bool) (id : Option Stamp) (l : Option ℕ) (b : Option Binding) (s : Option (List ℕ))
    → view ≡ m → IsUpdate m segment → HasOtherFormat view.options other → other ≡ false
    → AreTexts (values_of 15 view.options) → AreSettings (values_of 15 view.options) l b s → Names segment id → IsReadUpdate m segment id l b s
update_read m view segment other id l b s same form iff right texts settings names =
    let are = ap (λ (m : MessageContent). m.options) same in
    record {
      form = form;
      format = right_format m view.options other are iff right;
      texts = subst (λ (os : List OptionContent). AreTexts (values_of 15 os)) are texts;
      settings = subst (λ (os : List OptionContent). AreSettings (values_of 15 os) l b s) are settings;
      id_is = names;
    }

pub good_settings : (m : MessageContent) (segment : List ℕ) (l : Option ℕ) (b : Option Binding) (s : Option (List ℕ)) → IsUpdate m segment → AreTexts (queries_of m) → AreSettings (queries_of m) l b s
    → Cause BadQuery m → ⊥
good_settings m segment l b s form texts h (post, bad) =
    good_update (IsLookedAt m) (queries_of m) l b s texts h (λ p looked. elim looked [ inl d ↦ absurd (not_both m segment d form.0) | inr u ↦ u ]) bad

pub no_version : (m : MessageContent) (segment : List ℕ) → IsUpdate m segment → Cause OtherVersion m → ⊥
no_version m segment form (register, other) = not_both m segment register.0 form.0

pub update_bad : (m : MessageContent) (segment : List ℕ) → IsUpdate m segment → (Cause WrongFormat m → ⊥) → HasBadQuery IsOfUpdate (queries_of m) → MeansBy post_steps m (Refuse BadRequest)
update_bad m segment form format bad = inr (format, inl ((form.1, bad_more IsOfUpdate (IsLookedAt m) (queries_of m) (λ p looked. inr looked) bad), refl))

pub update_no_links : (m : MessageContent) (segment : List ℕ) → IsUpdate m segment → (Cause WrongFormat m → ⊥) → (Cause BadQuery m → ⊥)
    → (m.payload ≢ []) → (length m.payload ≤ 8192) × SpellsNone m.payload → MeansBy post_steps m (Refuse BadRequest)
update_no_links m segment form format query some none =
    inr (format, inr (query, inr (no_version m segment form, inr ((λ large. none_fits m.payload none.0 none.1 large.1), inl ((form.1, inr (some, none.1)), refl)))))

objects_fit : (m : MessageContent) (objects : Option (List ℕ)) → AreObjects m.payload objects → Cause TooManyLinks m → ⊥
objects_fit m None h (post, large) = nothing_fits (subst IsTooLarge h large)
objects_fit m (Some objects) h (post, large) = list_fits m.payload objects h.1 large

objects_are_some : (m : MessageContent) (segment : List ℕ) (objects : Option (List ℕ)) → IsUpdate m segment → AreObjects m.payload objects → Cause NoLinks m → ⊥
objects_are_some m segment None form h (post, inl (directory, empty)) = not_both m segment directory form.0
objects_are_some m segment None form h (post, inr (some, none)) = some h
objects_are_some m segment (Some objects) form h cause = list_is_some m objects h.1 cause

pub update_asks : (m : MessageContent) (segment : List ℕ) (id : Option Stamp) (l : Option ℕ) (b : Option Binding) (s : Option (List ℕ)) (o : Option (List ℕ)) (a : List (List ℕ × List ℕ))
    → IsUpdate m segment → (Cause WrongFormat m → ⊥) → AreTexts (queries_of m) → AreSettings (queries_of m) l b s → Names segment id → AreObjects m.payload o → GiveAttributes (queries_of m) a
    → MeansBy post_steps m (Update id (given_of l b s o a))
update_asks m segment id l b s o a form format texts h names objects attributes =
    inr (
      format,
      inr (
        good_settings m segment l b s form texts h,
        inr (
          no_version m segment form,
          inr (
            objects_fit m o objects,
            inr (
              objects_are_some m segment o form objects,
              record {
                segment = segment;
                form = form;
                id_is = names;
                settings_are = h;
                objects_are = objects;
                attributes_are = attributes;
              },
            ),
          ),
        ),
      ),
    )

pub read_update_asks : (m : MessageContent) (segment : List ℕ) (id : Option Stamp) (l : Option ℕ) (b : Option Binding) (s : Option (List ℕ)) (o : Option (List ℕ)) (a : List (List ℕ × List ℕ))
    → IsReadUpdate m segment id l b s → AreObjects m.payload o → GiveAttributes (queries_of m) a → MeansBy post_steps m (Update id (given_of l b s o a))
read_update_asks m segment id l b s o a read objects attributes = update_asks m segment id l b s o a read.form read.format read.texts read.settings read.id_is objects attributes

-- an Update owns the SMS number and the attributes that it gives
pub owns_given : (queries : List (List ℕ)) (id : Option Stamp) (l : Option ℕ) (b : Option Binding) (s o : Option (List ℕ)) → IsSome s ⊎ GivesAttribute queries → Owns (Update id (given_of l b s o (attributes_in queries)))
owns_given queries id l b s o (inl number) = inl number
owns_given queries id l b s o (inr attribute) = inr (inr (gives_some queries attribute))

-- an Update whose payload was not read
pub update_unread : (m : MessageContent) (segment : List ℕ) (id : Option Stamp) (l : Option ℕ) (b : Option Binding) (s : Option (List ℕ)) (unread : Unread) (r : Result Asked NoMemory)
    → IsReadUpdate m segment id l b s → (m.payload ≢ []) × IsUnread m.payload unread → UnreadAsks unread r → Understands (MeansBy post_steps m) r
update_unread m segment id l b s TooLarge r read (some, large) is =
    rw is (post_too_large m read.form.1 read.format (good_settings m segment l b s read.form read.texts read.settings) (no_version m segment read.form) large)
update_unread m segment id l b s NoList r read (some, none) is =
    rw is (update_no_links m segment read.form read.format (good_settings m segment l b s read.form read.texts read.settings) some none)
update_unread m segment id l b s WantOfMemory r read (some, (objects, list)) is =
    let a = attributes_in (queries_of m) in
    understands_error (MeansBy post_steps m) r (Update id (given_of l b s (Some objects) a)) is (read_update_asks m segment id l b s (Some objects) a read (some, list) (attributes_given (queries_of m))) (inr (inl refl))

-- ---- a Deregister

pub deregister_asks : (m : MessageContent) (segment : List ℕ) (id : Option Stamp) → IsDeregister m segment → Names segment id → MeansBy path_steps m (Deregister id)
deregister_asks m segment id form names =
    let no = delete_is_no_post m form.1 in
    inr (entry_known m segment form.0, inr (delete_allowed m segment form.0 form.1, inr ((λ cause. no cause.0), inr ((λ cause. no cause.0), inr ((λ cause. no cause.0.1), inr ((λ cause. no cause.0), inr ((λ cause. no cause.0), (segment, form, names))))))))

-- ---- roles

pub request_means : (m : MessageContent) (role : Role) (asked : Asked) → role ≡ role_of m.kind m.code → role ≡ Request → MeansBy steps m asked → Means m asked
request_means m role asked is e h = subst (λ (r : Role). RoleMeans r m asked) (sym e ∙ is) h
