-- Each message has a meaning.
use Rattle.std.proofs.Common.{◌≡◌, ◌≢◌, ℕ, ◌-◌, ◌≤◌, ◌^◌, ◌⊎◌, Bool, false, List, [], ◌∷◌, ◌++◌, length, replicate, codes, Option, Some, None, Result, Ok, Err, refl, sym, ap, subst, ◌∙◌, inl, inr, arith, IsUtf8, bytes_eq}
use Rattle.std.specs.Prelude.{unwrap_or, is_some}
use Rattle.std.specs.Char.{is_ascii_uppercase}
use Rattle.std.specs.List.{AllByRecursion, list_all}
use Rattle.std.specs.Option.{option_map}
use Rattle.std.specs.Str.{is_utf8}
use Rattle.std.proofs.lemmas.Bool.{both_ways, cases_Bool, cases_lt, cases_eq}
use Rattle.std.proofs.lemmas.Str.{IsUtf8-from_is_utf8, is_utf8-from_IsUtf8}
use Rattle.std.proofs.lemmas.Slice.Eq.{bytes_eq-Decides}
use Rattle.hex.specs.Hex.{decode_sized}
use Rattle.hex.specs.declared.error.FromHexError.{FromHexError}
use Rattle.lw_stamp.specs.declared.stamp.Stamp.{Stamp}
use Rattle.lw_stamp.specs.Stamp.{id_of, stamp_bytes}
use Rattle.lw_stamp.specs.StampBytes.{counter_in}
use Rattle.lw_stamp.specs.inner.StampBytes.{node_in}
use Rattle.lw_stamp.proofs.StampLemmas.{id_decodes, same_stamp, spelled_counter, spelled_node}
use Rattle.lw_coap.specs.Message.{MessageContent}
use Rattle.lw_link.specs.declared.fault.LinkFault.{LinkFault}
use Rattle.lw_link.specs.declared.fault.LinkFault.TheVariants.{NotText, Grammar, TooMany, NoMemory}
use Rattle.lw_link.specs.Faults.{IsFault}
use Rattle.lw_link.specs.Printing.{printing}
use Rattle.lw_link.proofs.Decided.{read_or_fault}
use Rattle.lw_reg.specs.declared.binding.Binding.{Binding}
use Rattle.lw_reg.specs.declared.version.Version.{Version}
use Rattle.lw_reg.specs.declared.version.Version.TheVariants.{V10, V11}
use Rattle.lw_reg.specs.Binding.{binding_text}
use Rattle.lw_reg.specs.BindingText.{IsBindingText}
use Rattle.lw_reg.specs.Version.{version_text}
use Rattle.lw_reg.proofs.BindingLemmas.{letters_of_text}
use Rattle.lw_request.specs.declared.asked.Asked.{Asked}
use Rattle.lw_request.specs.declared.asked.Asked.TheVariants.{Register, Update, Deregister, Report, Ping, Refuse, Reject, Ignore}
use Rattle.lw_request.specs.declared.refusal.Refusal.TheVariants.{BadRequest, NotFound, MethodNotAllowed, PreconditionFailed, RequestEntityTooLarge, UnsupportedContentFormat, ProxyingNotSupported}
use Rattle.lw_request.specs.declared.role.Role.{Role}
use Rattle.lw_request.specs.declared.role.Role.TheVariants.{Ignored, Ping as Probe, Request, Response, Reserved}
use Rattle.lw_request.specs.Options.{has_critical, has_proxy, has_unrecognised, content_format}
use Rattle.lw_request.specs.Queries.{Accepts, given, IsDigit, decimal_value, IsLifetime, AreTexts, IsOfUpdate, HasBadQuery, IsGiven, AreSettings}
use Rattle.lw_request.specs.inner.Queries.{EachIsLookedAt}
use Rattle.lw_request.specs.Queries.Parameter.{Ep, Lt, Lwm2m, B as Bound, Q as Queue, Sms}
use Rattle.lw_request.specs.Objects.{IsObjectList, IsTooLarge, SpellsNone}
use Rattle.lw_request.specs.Report.{report_of}
use Rattle.lw_request.specs.Steps.{IsPost, IsDirectory, IsEntry, IsRegister, IsUpdate, path_of, queries_of, Cause, post_steps, path_steps, steps}
use Rattle.lw_request.specs.Steps.Step.{UnrecognisedOption, WrongFormat}
use Rattle.lw_request.specs.Meaning.{Names, MeansBy, refused, ResponseMeans, role_of, RoleMeans, Means}
use Rattle.lw_request.proofs.AttributeLemmas.{attributes_in, attributes_given}
use Rattle.lw_request.proofs.Paths.{directory_known, entry_known, post_allowed}
use Rattle.lw_request.proofs.Meanings.{settings_of, given_of, HasQueries, good_queries, right_version, register_bad, register_other, post_too_large, register_no_links, register_asks, good_settings, no_version, update_bad, update_no_links, update_asks, deregister_asks}

abbrev Decided : Type 0 → Type 0
Decided P = P ⊎ (P → ⊥)

none_some : {V : Type 0} (v : V) → (◌≡◌ {A = Option V} None (Some v)) → ⊥
none_some v e = cc

some_is : {V : Type 0} (v w : V) → (◌≡◌ {A = Option V} (Some v) (Some w)) → v ≡ w
some_is v w e = cc

both : (X Y : Type 0) → Decided X → Decided Y → Decided (X × Y)
both X Y (inl x) (inl y) = inl (x, y)
both X Y (inl x) (inr refuted) = inr (λ h. refuted h.1)
both X Y (inr refuted) other = inr (λ h. refuted h.0)

-- ---- the parts of a request

decided_text : (bytes : List ℕ) → Decided (IsUtf8 bytes)
decided_text bytes =
    elim (cases_Bool (is_utf8 bytes)) [
      | inl is ↦ inl (IsUtf8-from_is_utf8 bytes is)
      | inr other ↦ inr (λ text. both_ways (is_utf8 bytes) other (is_utf8-from_IsUtf8 bytes text))
    ]

decided_texts : (queries : List (List ℕ)) → Decided (AreTexts queries)
decided_texts [] = inl tt
decided_texts (query ∷ queries) = both (IsUtf8 query) (AreTexts queries) (decided_text query) (decided_texts queries)

decided_digit : (c : ℕ) → Decided (IsDigit c)
decided_digit c =
    elim (cases_lt c 48) [
      | inl below ↦ inr (λ h. omega (arith, h.0, below))
      | inr least ↦ elim (cases_lt 57 c) [
        | inl above ↦ inr (λ h. omega (arith, h.1, above))
        | inr most ↦ inl (least, most)
      ]
    ]

decided_digits : (text : List ℕ) → Decided (AllByRecursion IsDigit text)
decided_digits [] = inl tt
decided_digits (c ∷ text) = both (IsDigit c) (AllByRecursion IsDigit text) (decided_digit c) (decided_digits text)

decided_lifetime : (text : List ℕ) → Decided ((lifetime : ℕ) × IsLifetime text lifetime)
decided_lifetime text =
    elim (cases_lt 0 (length text)) [
      | inr empty ↦ inr (λ h. omega (arith, h.1.0, empty))
      | inl some ↦ elim (cases_lt 10 (length text)) [
        | inl long ↦ inr (λ h. omega (arith, h.1.1, long))
        | inr few ↦ elim (decided_digits text) [
          | inr other ↦ inr (λ h. other h.1.2)
          | inl digits ↦ elim (cases_lt (decimal_value text) 4294967296) [
            | inr large ↦ inr (λ h. omega (arith, h.1.3, h.1.4, large))
            | inl fits ↦ inl (decimal_value text, (omega (arith, some), few, digits, refl, fits))
          ]
        ]
      ]
    ]

decided_binding : (text : List ℕ) → Decided (IsBindingText text)
decided_binding text =
    elim (cases_lt 0 (length text)) [
      | inr empty ↦ inr (λ h. omega (arith, h.some, empty))
      | inl some ↦ elim (cases_lt 8 (length text)) [
        | inl long ↦ inr (λ h. omega (arith, h.most, long))
        | inr few ↦ elim (cases_Bool (list_all is_ascii_uppercase text)) [
          | inr other ↦ inr (λ h. both_ways (list_all is_ascii_uppercase text) other h.letters)
          | inl letters ↦ inl (record { some = omega (arith, some); most = few; letters = letters })
        ]
      ]
    ]

binding_of : (text : List ℕ) → IsBindingText text → (binding : Binding) × (binding_text binding ≡ text)
binding_of text h =
    let letters = text ++ replicate (8 - length text) 0 in
    let made = letters_of_text text text letters refl h refl in
    (record { letters = letters; padded = made.0 }, made.1)

decided_objects : (bytes : List ℕ) → IsTooLarge bytes ⊎ (((objects : List ℕ) × IsObjectList bytes objects) ⊎ ((length bytes ≤ 8192) × SpellsNone bytes))
decided_objects bytes =
    elim (cases_lt 8192 (length bytes)) [
      | inl over ↦ inl (inl over)
      | inr within ↦ elim (read_or_fault bytes) [
        | inl (links, spells, few) ↦ inr (inl (printing links, (within, (links, spells, few, refl))))
        | inr (fault, is) ↦ elim (fault_objects bytes fault is) [ inl large ↦ inl large | inr none ↦ inr (inr (within, none)) ]
      ]
    ]
  where
    fault_objects : (bytes : List ℕ) (fault : LinkFault) → IsFault bytes fault → IsTooLarge bytes ⊎ SpellsNone bytes
    fault_objects bytes NotText h = inr (λ links spells. h spells.0)
    fault_objects bytes (Grammar place) h = inr h.1
    fault_objects bytes TooMany h = inl (inr h)
    fault_objects bytes NoMemory h = absurd h

-- ---- the registration that a segment names

no_name : (segment : List ℕ) → ((stamp : Stamp) → segment ≡ id_of stamp → ⊥) → (id : Option Stamp) × Names segment id
no_name segment refuted = (None, (λ stamp. ((λ e. absurd (none_some stamp e)), (λ e. absurd (refuted stamp e)))))

names_of : (segment bytes : List ℕ) → decode_sized segment 8 ≡ Ok bytes → (stamp : Stamp) → segment ≡ id_of stamp → bytes ≡ stamp_bytes stamp
names_of segment bytes decoded stamp e =
    let same : Ok bytes ≡ Ok (stamp_bytes stamp) = sym decoded ∙ ap (λ (t : List ℕ). decode_sized t 8) e ∙ id_decodes stamp in
    ok_is bytes (stamp_bytes stamp) same
  where
    ok_is : (a b : List ℕ) → (◌≡◌ {A = Result (List ℕ) FromHexError} (Ok a) (Ok b)) → a ≡ b
    ok_is a b e = cc

named : (segment bytes : List ℕ) → decode_sized segment 8 ≡ Ok bytes → (id : Option Stamp) × Names segment id
named segment bytes decoded =
    elim (cases_lt 0 (counter_in bytes)) [
      | inr zero_counter ↦ no_name segment (λ stamp e. let range = stamp.in_range in let same = spelled_counter stamp bytes (sym (names_of segment bytes decoded stamp e)) in omega (arith, range, same, zero_counter))
      | inl some ↦ elim (cases_lt (counter_in bytes) (2 ^ 48)) [
        | inr large ↦ no_name segment (λ stamp e. let range = stamp.in_range in let same = spelled_counter stamp bytes (sym (names_of segment bytes decoded stamp e)) in omega (arith, range, same, large))
        | inl fits ↦ elim (cases_lt (node_in bytes) (2 ^ 16)) [
          | inr large ↦ no_name segment (λ stamp e. let range = stamp.in_range in let same = spelled_node stamp bytes (sym (names_of segment bytes decoded stamp e)) in omega (arith, range, same, large))
          | inl node ↦ named_by segment bytes decoded (record { counter = counter_in bytes; node = node_in bytes; in_range = (omega (arith, some), fits, node) }) refl refl
        ]
      ]
    ]
  where
    same_as : (segment bytes : List ℕ) → decode_sized segment 8 ≡ Ok bytes → (found : Stamp) → found.counter ≡ counter_in bytes → found.node ≡ node_in bytes → (stamp : Stamp) → segment ≡ id_of stamp → found ≡ stamp
    same_as segment bytes decoded found counter node stamp e =
        let is = sym (names_of segment bytes decoded stamp e) in
        same_stamp found stamp (counter ∙ sym (spelled_counter stamp bytes is)) (node ∙ sym (spelled_node stamp bytes is))

    named_by : (segment bytes : List ℕ) → decode_sized segment 8 ≡ Ok bytes → (found : Stamp) → found.counter ≡ counter_in bytes → found.node ≡ node_in bytes → (id : Option Stamp) × Names segment id
    named_by segment bytes decoded found counter node =
        elim (cases_Bool (bytes_eq segment (id_of found))) [
          | inl same ↦ (Some found, (λ stamp. ((λ e. (bytes_eq-Decides segment (id_of found)).0 same ∙ ap id_of (some_is found stamp e)), (λ e. ap (λ (s : Stamp). Some s) (same_as segment bytes decoded found counter node stamp e)))))
          | inr differ ↦ no_name segment (λ stamp e. both_ways (bytes_eq segment (id_of found)) differ ((bytes_eq-Decides segment (id_of found)).1 (e ∙ ap id_of (sym (same_as segment bytes decoded found counter node stamp e)))))
        ]

decoded_or : (segment : List ℕ) (r : Result (List ℕ) FromHexError) → decode_sized segment 8 ≡ r → (id : Option Stamp) × Names segment id
decoded_or segment (Ok bytes) e = named segment bytes e
decoded_or segment (Err error) e =
    no_name segment (λ stamp is. ok_err error (stamp_bytes stamp) (sym (sym e ∙ ap (λ (t : List ℕ). decode_sized t 8) is ∙ id_decodes stamp)))
  where
    ok_err : (error : FromHexError) (bytes : List ℕ) → (◌≡◌ {A = Result (List ℕ) FromHexError} (Ok bytes) (Err error)) → ⊥
    ok_err error bytes e = cc

some_id : (segment : List ℕ) → (id : Option Stamp) × Names segment id
some_id segment = decoded_or segment (decode_sized segment 8) refl

-- ---- parameters

other_format : (o : Option ℕ) → Decided ((format : ℕ) × (o ≡ Some format) × (format ≢ 40))
other_format None = inr (λ h. none_some h.0 h.1)
other_format (Some f) =
    elim (cases_eq f 40) [
      | inl e ↦ inr (λ h. h.2 (sym (some_is f h.0 h.1) ∙ e))
      | inr other ↦ inl (f, refl, other)
    ]

endpoint_given : (o : Option (List ℕ)) → (o ≡ None) ⊎ ((value : List ℕ) × (o ≡ Some value) × Decided (1 ≤ length value))
endpoint_given None = inl refl
endpoint_given (Some []) = inr ([], refl, inr (λ h. omega (arith, h)))
endpoint_given (Some (b ∷ value)) = inr (b ∷ value, refl, inl (omega arith))

abbrev IsRefusedBy : (List ℕ → Type 0) → Option (List ℕ) → Type 0
IsRefusedBy Good o = (text : List ℕ) × (o ≡ Some text) × (Good text → ⊥)

lifetime_or : (o : Option (List ℕ)) → ((l : ℕ) × IsLifetime (unwrap_or o (codes "86400")) l) ⊎ IsRefusedBy (Accepts Lt) o
lifetime_or None = inl (86400, (omega arith, omega arith, ((omega arith, omega arith), ((omega arith, omega arith), ((omega arith, omega arith), ((omega arith, omega arith), ((omega arith, omega arith), tt))))), refl, omega arith))
lifetime_or (Some text) = elim (decided_lifetime text) [ inl h ↦ inl h | inr refuted ↦ inr (text, refl, refuted) ]

lifetime_given : (o : Option (List ℕ)) → ((l : Option ℕ) × IsGiven IsLifetime o l) ⊎ IsRefusedBy (Accepts Lt) o
lifetime_given None = inl (None, tt)
lifetime_given (Some text) = elim (decided_lifetime text) [ inl h ↦ inl (Some h.0, h.1) | inr refuted ↦ inr (text, refl, refuted) ]

letter_u : IsBindingText (codes "U")
letter_u = record { some = omega arith; most = omega arith; letters = refl }

binding_or : (o : Option (List ℕ)) → ((b : Binding) × (binding_text b ≡ unwrap_or o (codes "U"))) ⊎ IsRefusedBy IsBindingText o
binding_or None = inl (binding_of (codes "U") letter_u)
binding_or (Some text) = elim (decided_binding text) [ inl h ↦ inl (binding_of text h) | inr refuted ↦ inr (text, refl, refuted) ]

binding_given : (o : Option (List ℕ)) → ((b : Option Binding) × (option_map binding_text b ≡ o)) ⊎ IsRefusedBy IsBindingText o
binding_given None = inl (None, refl)
binding_given (Some text) = elim (decided_binding text) [ inl h ↦ inl (let made = binding_of text h in (Some made.0, ap (λ (t : List ℕ). Some t) made.1)) | inr refuted ↦ inr (text, refl, refuted) ]

version_or : (o : Option (List ℕ)) → ((v : Version) × (version_text v ≡ unwrap_or o (codes "1.0"))) ⊎ ((text : List ℕ) × (o ≡ Some text) × ((v : Version) → text ≢ version_text v))
version_or None = inl (V10, refl)
version_or (Some text) =
    elim (cases_Bool (bytes_eq text (codes "1.0"))) [
      | inl ten ↦ inl (V10, sym ((bytes_eq-Decides text (codes "1.0")).0 ten))
      | inr refuted ↦ elim (cases_Bool (bytes_eq text (codes "1.1"))) [
        | inl eleven ↦ inl (V11, sym ((bytes_eq-Decides text (codes "1.1")).0 eleven))
        | inr nor ↦ inr (text, refl, neither text refuted nor)
      ]
    ]
  where
    neither : (text : List ℕ) → bytes_eq text (codes "1.0") ≡ false → bytes_eq text (codes "1.1") ≡ false → (v : Version) → text ≢ version_text v
    neither text refuted nor V10 e = both_ways (bytes_eq text (codes "1.0")) refuted ((bytes_eq-Decides text (codes "1.0")).1 e)
    neither text refuted nor V11 e = both_ways (bytes_eq text (codes "1.1")) nor ((bytes_eq-Decides text (codes "1.1")).1 e)

-- ---- a Register

abbrev HasMeaningByPost : MessageContent → Type 0
HasMeaningByPost m = (asked : Asked) × MeansBy post_steps m asked

register_objects : (m : MessageContent) (e : List ℕ) (v : Version) (q : Bool) (l : ℕ) (b : Binding) (s : Option (List ℕ)) → IsRegister m → (Cause WrongFormat m → ⊥) → HasQueries (queries_of m) e q l b s
    → version_text v ≡ unwrap_or (given Lwm2m (queries_of m)) (codes "1.0") → IsTooLarge m.payload ⊎ (((objects : List ℕ) × IsObjectList m.payload objects) ⊎ ((length m.payload ≤ 8192) × SpellsNone m.payload)) → HasMeaningByPost m
register_objects m e v q l b s form format has version (inl large) =
    (Refuse RequestEntityTooLarge, post_too_large m form.1 format (good_queries m e q l b s has) (right_version m v version) large)
register_objects m e v q l b s form format has version (inr (inl list)) = (Register e v q (settings_of l b s list.0 (attributes_in (queries_of m))), register_asks m e v q l b s list.0 (attributes_in (queries_of m)) form format has version list.1 (attributes_given (queries_of m)))
register_objects m e v q l b s form format has version (inr (inr none)) =
    (Refuse BadRequest, register_no_links m form format (good_queries m e q l b s has) (right_version m v version) none)

register_version : (m : MessageContent) (e : List ℕ) (q : Bool) (l : ℕ) (b : Binding) (s : Option (List ℕ)) → IsRegister m → (Cause WrongFormat m → ⊥) → HasQueries (queries_of m) e q l b s
    → ((v : Version) × (version_text v ≡ unwrap_or (given Lwm2m (queries_of m)) (codes "1.0"))) ⊎ ((text : List ℕ) × (given Lwm2m (queries_of m) ≡ Some text) × ((v : Version) → text ≢ version_text v)) → HasMeaningByPost m
register_version m e q l b s form format has (inl v) = register_objects m e v.0 q l b s form format has v.1 (decided_objects m.payload)
register_version m e q l b s form format has (inr other) = (Refuse PreconditionFailed, register_other m form format (good_queries m e q l b s has) other)

refuses : (m : MessageContent) → IsRegister m → (Cause WrongFormat m → ⊥) → HasBadQuery EachIsLookedAt (queries_of m) → HasMeaningByPost m
refuses m form format bad = (Refuse BadRequest, register_bad m form format bad)

register_queries : (m : MessageContent) → IsRegister m → (Cause WrongFormat m → ⊥) → Decided (AreTexts (queries_of m))
    → (given Ep (queries_of m) ≡ None) ⊎ ((value : List ℕ) × (given Ep (queries_of m) ≡ Some value) × Decided (1 ≤ length value))
    → ((l : ℕ) × IsLifetime (unwrap_or (given Lt (queries_of m)) (codes "86400")) l) ⊎ IsRefusedBy (Accepts Lt) (given Lt (queries_of m))
    → ((b : Binding) × (binding_text b ≡ unwrap_or (given Bound (queries_of m)) (codes "U"))) ⊎ IsRefusedBy IsBindingText (given Bound (queries_of m)) → HasMeaningByPost m
register_queries m form format (inr refuted) ep lt b = refuses m form format (inl refuted)
register_queries m form format (inl texts) (inl none) lt b = refuses m form format (inr (inr (tt, none)))
register_queries m form format (inl texts) (inr (value, is, inr short)) lt b = refuses m form format (inr (inl (record { parameter = Ep; value = value; looked_at = tt; is_given = is; not_accepted = short })))
register_queries m form format (inl texts) (inr (value, is, inl long)) (inr (text, lt, refuted)) b = refuses m form format (inr (inl (record { parameter = Lt; value = text; looked_at = tt; is_given = lt; not_accepted = refuted })))
register_queries m form format (inl texts) (inr (value, is, inl long)) (inl lt) (inr (text, b, refuted)) = refuses m form format (inr (inl (record { parameter = Bound; value = text; looked_at = tt; is_given = b; not_accepted = refuted })))
register_queries m form format (inl texts) (inr (value, is, inl long)) (inl lt) (inl b) =
    register_version m value (is_some (given Queue (queries_of m))) lt.0 b.0 (given Sms (queries_of m)) form format (record {
      texts = texts;
      endpoint_is = is;
      named = long;
      queue_is = refl;
      lifetime_is = lt.1;
      binding_is = b.1;
      sms_is = refl;
    }) (version_or (given Lwm2m (queries_of m)))

-- ---- an Update

update_objects : (m : MessageContent) (segment : List ℕ) (id : Option Stamp) (l : Option ℕ) (b : Option Binding) (s : Option (List ℕ)) (payload : List ℕ) → payload ≡ m.payload → IsUpdate m segment → (Cause WrongFormat m → ⊥)
    → AreTexts (queries_of m) → AreSettings (queries_of m) l b s → Names segment id → IsTooLarge payload ⊎ (((objects : List ℕ) × IsObjectList payload objects) ⊎ ((length payload ≤ 8192) × SpellsNone payload)) → HasMeaningByPost m
update_objects m segment id l b s [] same form format texts settings names objects = (Update id (given_of l b s None (attributes_in (queries_of m))), update_asks m segment id l b s None (attributes_in (queries_of m)) form format texts settings names (sym same) (attributes_given (queries_of m)))
update_objects m segment id l b s (c ∷ payload) same form format texts settings names (inl large) =
    (Refuse RequestEntityTooLarge, post_too_large m form.1 format (good_settings m segment l b s form texts settings) (no_version m segment form) (subst IsTooLarge same large))
update_objects m segment id l b s (c ∷ payload) same form format texts settings names (inr (inl list)) =
    (Update id (given_of l b s (Some list.0) (attributes_in (queries_of m))), update_asks m segment id l b s (Some list.0) (attributes_in (queries_of m)) form format texts settings names ((λ e. filled c payload (same ∙ e)), subst (λ (bytes : List ℕ). IsObjectList bytes list.0) same list.1) (attributes_given (queries_of m)))
  where
    filled : (c : ℕ) (payload : List ℕ) → c ∷ payload ≢ []
    filled c payload e = cc
update_objects m segment id l b s (c ∷ payload) same form format texts settings names (inr (inr none)) =
    (Refuse BadRequest, update_no_links m segment form format (good_settings m segment l b s form texts settings) (λ e. filled c payload (same ∙ e)) (subst (λ (bytes : List ℕ). (length bytes ≤ 8192) × SpellsNone bytes) same none))
  where
    filled : (c : ℕ) (payload : List ℕ) → c ∷ payload ≢ []
    filled c payload e = cc

update_refuses : (m : MessageContent) (segment : List ℕ) → IsUpdate m segment → (Cause WrongFormat m → ⊥) → HasBadQuery IsOfUpdate (queries_of m) → HasMeaningByPost m
update_refuses m segment form format bad = (Refuse BadRequest, update_bad m segment form format bad)

update_queries : (m : MessageContent) (segment : List ℕ) → IsUpdate m segment → (Cause WrongFormat m → ⊥) → Decided (AreTexts (queries_of m))
    → ((l : Option ℕ) × IsGiven IsLifetime (given Lt (queries_of m)) l) ⊎ IsRefusedBy (Accepts Lt) (given Lt (queries_of m))
    → ((b : Option Binding) × (option_map binding_text b ≡ given Bound (queries_of m))) ⊎ IsRefusedBy IsBindingText (given Bound (queries_of m)) → HasMeaningByPost m
update_queries m segment form format (inr refuted) lt b = update_refuses m segment form format (inl refuted)
update_queries m segment form format (inl texts) (inr (text, lt, refuted)) b = update_refuses m segment form format (inr (inl (record { parameter = Lt; value = text; looked_at = refl; is_given = lt; not_accepted = refuted })))
update_queries m segment form format (inl texts) (inl lt) (inr (text, b, refuted)) = update_refuses m segment form format (inr (inl (record { parameter = Bound; value = text; looked_at = refl; is_given = b; not_accepted = refuted })))
update_queries m segment form format (inl texts) (inl lt) (inl b) =
    let id = some_id segment in
    update_objects m segment id.0 lt.0 b.0 (given Sms (queries_of m)) m.payload refl form format texts (record { lifetime_is = lt.1; binding_is = b.1; sms_is = refl }) id.1 (decided_objects m.payload)

-- ---- paths and methods

format_decided : (m : MessageContent) → IsPost m → Decided (Cause WrongFormat m)
format_decided m post =
    elim (other_format (content_format m.options)) [
      | inl other ↦ inl (post, other)
      | inr none ↦ inr (λ cause. none cause.1)
    ]

register_some : (m : MessageContent) → IsRegister m → Decided (Cause WrongFormat m) → HasMeaningByPost m
register_some m form (inl wrong) = (Refuse UnsupportedContentFormat, inl (wrong, refl))
register_some m form (inr format) =
    register_queries m form format (decided_texts (queries_of m)) (endpoint_given (given Ep (queries_of m))) (lifetime_or (given Lt (queries_of m))) (binding_or (given Bound (queries_of m)))

update_some : (m : MessageContent) (segment : List ℕ) → IsUpdate m segment → Decided (Cause WrongFormat m) → HasMeaningByPost m
update_some m segment form (inl wrong) = (Refuse UnsupportedContentFormat, inl (wrong, refl))
update_some m segment form (inr format) =
    update_queries m segment form format (decided_texts (queries_of m)) (lifetime_given (given Lt (queries_of m))) (binding_given (given Bound (queries_of m)))

-- where a path leads
place_of : (path : List (List ℕ)) → (path ≡ codes "rd" ∷ []) ⊎ (((segment : List ℕ) × (path ≡ codes "rd" ∷ segment ∷ [])) ⊎ ((path ≡ codes "rd" ∷ [] → ⊥) × ((segment : List ℕ) → path ≡ codes "rd" ∷ segment ∷ [] → ⊥)))
place_of [] = inr (inr ((λ e. cc), (λ segment e. cc)))
place_of (a ∷ []) =
    elim (cases_Bool (bytes_eq a (codes "rd"))) [
      | inl rd ↦ inl (ap (λ (x : List ℕ). x ∷ []) ((bytes_eq-Decides a (codes "rd")).0 rd))
      | inr other ↦ inr (inr ((λ e. both_ways (bytes_eq a (codes "rd")) other ((bytes_eq-Decides a (codes "rd")).1 (cc))), (λ segment e. cc)))
    ]
place_of (a ∷ b ∷ []) =
    elim (cases_Bool (bytes_eq a (codes "rd"))) [
      | inl rd ↦ inr (inl (b, ap (λ (x : List ℕ). x ∷ b ∷ []) ((bytes_eq-Decides a (codes "rd")).0 rd)))
      | inr other ↦ inr (inr ((λ e. cc), (λ segment e. both_ways (bytes_eq a (codes "rd")) other ((bytes_eq-Decides a (codes "rd")).1 (cc)))))
    ]
place_of (a ∷ b ∷ d ∷ path) = inr (inr ((λ e. cc), (λ segment e. cc)))

abbrev HasMeaningByPath : MessageContent → Type 0
HasMeaningByPath m = (asked : Asked) × MeansBy path_steps m asked

directory_some : (m : MessageContent) → IsDirectory m → HasMeaningByPath m
directory_some m d =
    elim (cases_eq m.code 2) [
      | inl post ↦ (let made = register_some m (d, post) (format_decided m post) in (made.0, inr (directory_known m d, inr (post_allowed m post, made.1))))
      | inr refuted ↦ (Refuse MethodNotAllowed, inr (directory_known m d, inl (inl (d, refuted), refl)))
    ]

entry_some : (m : MessageContent) (segment : List ℕ) → IsEntry m segment → HasMeaningByPath m
entry_some m segment e =
    elim (cases_eq m.code 2) [
      | inl post ↦ (let made = update_some m segment (e, post) (format_decided m post) in (made.0, inr (entry_known m segment e, inr (post_allowed m post, made.1))))
      | inr refuted ↦ elim (cases_eq m.code 4) [
        | inl delete ↦ (let id = some_id segment in (Deregister id.0, deregister_asks m segment id.0 (e, delete) id.1))
        | inr nor ↦ (Refuse MethodNotAllowed, inr (entry_known m segment e, inl (inr (segment, e, refuted, nor), refl)))
      ]
    ]

path_some : (m : MessageContent) → HasMeaningByPath m
path_some m =
    elim (place_of (path_of m)) [
      | inl d ↦ directory_some m d
      | inr other ↦ elim other [
        | inl entry ↦ entry_some m entry.0 entry.1
        | inr none ↦ (Refuse NotFound, inl (none, refl))
      ]
    ]

request_some : (m : MessageContent) → (asked : Asked) × MeansBy steps m asked
request_some m =
    elim (cases_Bool (has_proxy m.options)) [
      | inl proxy ↦ (Refuse ProxyingNotSupported, inl (proxy, refl))
      | inr none ↦ elim (cases_Bool (has_unrecognised m.options)) [
        | inl some ↦ (refused UnrecognisedOption m.kind, inr (both_ways (has_proxy m.options) none, inl (some, refl)))
        | inr known ↦ (let made = path_some m in (made.0, inr (both_ways (has_proxy m.options) none, inr (both_ways (has_unrecognised m.options) known, made.1))))
      ]
    ]

response_some : (m : MessageContent) → (asked : Asked) × ResponseMeans m asked
response_some m =
    elim (cases_Bool (has_critical m.options)) [
      | inl critical ↦ (Reject, inl (critical, refl))
      | inr none ↦ (Report (report_of m), inr (both_ways (has_critical m.options) none, refl))
    ]

role_some : (role : Role) (m : MessageContent) → (asked : Asked) × RoleMeans role m asked
role_some Ignored m = (Ignore, refl)
role_some Probe m = (Ping, refl)
role_some Request m = request_some m
role_some Response m = response_some m
role_some Reserved m = (Reject, refl)

pub some_meaning : (m : MessageContent) → (asked : Asked) × Means m asked
some_meaning m = role_some (role_of m.kind m.code) m
