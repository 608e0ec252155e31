-- The attributes that queries give.
use Rattle.std.proofs.Common.{◌≡◌, ◌≢◌, ℕ, ◌+◌, ◌-◌, ◌<◌, ◌≤◌, Bool, true, false, List, [], ◌∷◌, ◌++◌, length, drop, get_or, Option, Some, None, refl, sym, ap, subst, ◌∙◌, inl, inr, arith}
use Rattle.std.specs.Prelude.{bytes_eq, ◌==◌, cond, if◌then◌else◌, IsSome}
use Rattle.std.specs.declared.cmp.Ordering.{Ordering}
use Rattle.std.specs.declared.cmp.Ordering.TheVariants.{Less, Equal, Greater}
use Rattle.std.specs.BTreeMap.{insert_entry}
use Rattle.std.specs.Cmp.{tied_itself}
use Rattle.std.specs.List.{AllByRecursion, position_or_len}
use Rattle.std.specs.Ordering.{is_eq, match_ordering}
use Rattle.std.proofs.lemmas.Bool.{both_ways, cases_Bool, cond-true, cond-false}
use Rattle.std.proofs.lemmas.List.{length-take, at_drop_more}
use Rattle.std.proofs.lemmas.Slice.Eq.{bytes_eq-Decides}
use Rattle.lw_stamp.specs.TextOrder.{text_cmp}
use Rattle.lw_join.specs.Entries.{Rises, get, put}
use Rattle.lw_join.specs.EntriesLaws.{same_key, get_first, get-put, Rises-put, same_entries}
use Rattle.lw_join.specs.Options.{option_join}
use Rattle.lw_join.proofs.Each.{each_from_get}
use Rattle.lw_coap.specs.Message.{OptionContent}
use Rattle.lw_reg.specs.Attribute.{is_attribute_name, IsAttribute, AreAttributes}
use Rattle.lw_reg.specs.OrderLaws.{text_order}
use Rattle.lw_request.specs.Options.{values_of}
use Rattle.lw_request.specs.Queries.{name_of, value_of, later_or, last_value, attribute_given, AreTexts, GiveAttributes}
use Rattle.lw_request.specs.inner.Queries.{GivesAttribute}
use Rattle.lw_request.proofs.QueryLemmas.{value_short}
use Rattle.lw_request.proofs.Recognised.{IsShortQuery}

none_some : {V : Type 0} (v : V) → (◌≡◌ {A = Option V} None (Some v)) → ⊥
none_some v e = cc

some_is : {V : Type 0} (v w : V) → (◌≡◌ {A = Option V} (Some v) (Some w)) → v ≡ w
some_is v w e = cc

later_none : (o : Option (List ℕ)) → later_or o None ≡ o
later_none None = refl
later_none (Some v) = refl

later_three : (a b c : Option (List ℕ)) → later_or (later_or a b) c ≡ later_or a (later_or b c)
later_three None b c = refl
later_three (Some v) b c = refl

-- ---- one query

-- what one query gives to a name
abbrev Given : List ℕ → List ℕ → Option (List ℕ)
Given name query = attribute_given name (query ∷ [])

-- to its own name its value
given_own : (query name : List ℕ) → is_attribute_name (name_of query) ≡ true → name_of query ≡ name → Given name query ≡ Some (value_of query)
given_own query name is same =
    cond-true (is_attribute_name name) (last_value name (query ∷ [])) None (subst (λ (n : List ℕ). is_attribute_name n ≡ true) same is)
    ∙ cond-true (bytes_eq (name_of query) name) (Some (value_of query)) None ((bytes_eq-Decides (name_of query) name).1 same)

none_by : (b : Bool) (o : Option (List ℕ)) → o ≡ None → cond b o None ≡ None
none_by true o e = e
none_by false o e = refl

-- to another name nothing
given_other : (query name : List ℕ) → bytes_eq (name_of query) name ≡ false → Given name query ≡ None
given_other query name other =
    none_by (is_attribute_name name) (last_value name (query ∷ [])) (cond-false (bytes_eq (name_of query) name) (Some (value_of query)) None other)

-- a query that is no attribute gives nothing
pub given_none : (query name : List ℕ) → is_attribute_name (name_of query) ≡ false → Given name query ≡ None
given_none query name refused =
    elim (cases_Bool (bytes_eq (name_of query) name)) [
      | inl same ↦ cond-false (is_attribute_name name) (last_value name (query ∷ [])) None
          (subst (λ (n : List ℕ). is_attribute_name n ≡ false) ((bytes_eq-Decides (name_of query) name).0 same) refused)
      | inr other ↦ given_other query name other
    ]

more_by : (b : Bool) (x y : Option (List ℕ)) → cond b (later_or x y) None ≡ later_or (cond b x None) (cond b y None)
more_by true x y = refl
more_by false x y = refl

-- what queries give, by the first and the rest
given_more : (name query : List ℕ) (rest : List (List ℕ)) → attribute_given name (query ∷ rest) ≡ later_or (attribute_given name rest) (Given name query)
given_more name query rest = more_by (is_attribute_name name) (last_value name rest) (if bytes_eq (name_of query) name then Some (value_of query) else None)

-- a query that is an attribute gives some
pub gives_own : (query : List ℕ) → is_attribute_name (name_of query) ≡ true → GivesAttribute (query ∷ [])
gives_own query is = (name_of query, subst IsSome (sym (given_own query (name_of query) is refl)) refl)

-- ---- a put

compared : (name key : List ℕ) → is_eq (text_cmp name key) ≡ bytes_eq key name
compared name key =
    elim (cases_Bool (bytes_eq key name)) [
      | inl same ↦ equal (sym ((bytes_eq-Decides key name).0 same)) ∙ sym same
      | inr other ↦ elim (cases_Bool (is_eq (text_cmp name key))) [
        | inl is ↦ absurd (both_ways (bytes_eq key name) other ((bytes_eq-Decides key name).1 (sym (same_key text_order name key is))))
        | inr differs ↦ differs ∙ sym other
      ]
    ]
  where
    equal : name ≡ key → is_eq (text_cmp name key) ≡ true
    equal e = subst (λ (k : List ℕ). is_eq (text_cmp name k) ≡ true) e (ap is_eq (tied_itself text_order.total name))

abbrev keep_later : List ℕ → List ℕ → List ℕ
keep_later earlier later = later

insert_is_put_by : (r : Ordering) (k v : List ℕ) (e : List ℕ × List ℕ) (es : List (List ℕ × List ℕ)) → insert_entry text_cmp es k v ≡ put text_cmp keep_later k v es
    → match_ordering r ((k, v) ∷ e ∷ es) ((e.0, v) ∷ es) (e ∷ insert_entry text_cmp es k v) ≡ match_ordering r ((k, v) ∷ e ∷ es) ((e.0, v) ∷ es) (e ∷ put text_cmp keep_later k v es)
insert_is_put_by Less k v e es ih = refl
insert_is_put_by Equal k v e es ih = refl
insert_is_put_by Greater k v e es ih = ap (λ (rest : List (List ℕ × List ℕ)). e ∷ rest) ih

insert_is_put : (k v : List ℕ) (es : List (List ℕ × List ℕ)) → insert_entry text_cmp es k v ≡ put text_cmp keep_later k v es
insert_is_put k v [] = refl
insert_is_put k v (e ∷ es) = insert_is_put_by (text_cmp k e.0) k v e es (insert_is_put k v es)

pub inserted_rise : (k v : List ℕ) (es : List (List ℕ × List ℕ)) → Rises text_cmp es → Rises text_cmp (insert_entry text_cmp es k v)
inserted_rise k v es rises = subst (Rises text_cmp) (sym (insert_is_put k v es)) (Rises-put text_order keep_later k v es rises)

later_wins : (v : List ℕ) (o : Option (List ℕ)) → option_join keep_later o (Some v) ≡ Some v
later_wins v None = refl
later_wins v (Some x) = refl

inserted_by : (query name : List ℕ) (o : Option (List ℕ)) → is_attribute_name (name_of query) ≡ true
    → cond (bytes_eq (name_of query) name) (option_join keep_later o (Some (value_of query))) o ≡ later_or (Given name query) o
inserted_by query name o is =
    elim (cases_Bool (bytes_eq (name_of query) name)) [
      | inl same ↦ cond-true (bytes_eq (name_of query) name) (option_join keep_later o (Some (value_of query))) o same ∙ later_wins (value_of query) o
          ∙ ap (λ (x : Option (List ℕ)). later_or x o) (sym (given_own query name is ((bytes_eq-Decides (name_of query) name).0 same)))
      | inr other ↦ cond-false (bytes_eq (name_of query) name) (option_join keep_later o (Some (value_of query))) o other
          ∙ ap (λ (x : Option (List ℕ)). later_or x o) (sym (given_other query name other))
    ]

-- what a query gives is inserted
pub inserted_gets : (query name : List ℕ) (es : List (List ℕ × List ℕ)) → Rises text_cmp es → is_attribute_name (name_of query) ≡ true
    → get text_cmp (insert_entry text_cmp es (name_of query) (value_of query)) name ≡ later_or (Given name query) (get text_cmp es name)
inserted_gets query name es rises is =
    let k = name_of query in
    let v = value_of query in
    ap (λ (x : List (List ℕ × List ℕ)). get text_cmp x name) (insert_is_put k v es)
    ∙ get-put text_order keep_later k v es rises name
    ∙ ap (λ (b : Bool). cond b (option_join keep_later (get text_cmp es name) (Some v)) (get text_cmp es name)) (compared name k)
    ∙ inserted_by query name (get text_cmp es name) is

-- ---- gathering

-- what stands before the queries that are left is gathered
pub record AreGathered (all left : List (List ℕ)) (entries : List (List ℕ × List ℕ)) : Type 0 where
  pub texts : AreTexts left
  pub rise : Rises text_cmp entries
  pub each : (name : List ℕ) → later_or (attribute_given name left) (get text_cmp entries name) ≡ attribute_given name all

pub gathered_first : (all : List (List ℕ)) → AreTexts all → AreGathered all all []
gathered_first all texts = record { texts = texts; rise = tt; each = λ name. later_none (attribute_given name all) }

none_given : (name : List ℕ) → attribute_given name [] ≡ None
none_given name = none_by (is_attribute_name name) None refl

pub gathered_last : (all : List (List ℕ)) (entries : List (List ℕ × List ℕ)) → AreGathered all [] entries → GiveAttributes all entries
gathered_last all entries h =
    record { rise = h.rise; each = λ name. ap (λ (x : Option (List ℕ)). later_or x (get text_cmp entries name)) (sym (none_given name)) ∙ h.each name }

pub gathered_next : (all rest : List (List ℕ)) (query : List ℕ) (old new : List (List ℕ × List ℕ)) → AreGathered all (query ∷ rest) old → Rises text_cmp new
    → ((name : List ℕ) → get text_cmp new name ≡ later_or (Given name query) (get text_cmp old name)) → AreGathered all rest new
gathered_next all rest query old new h rises gets = record {
  texts = h.texts.1;
  rise = rises;
  each = λ name.
      ap (later_or (attribute_given name rest)) (gets name)
      ∙ sym (later_three (attribute_given name rest) (Given name query) (get text_cmp old name))
      ∙ ap (λ (x : Option (List ℕ)). later_or x (get text_cmp old name)) (sym (given_more name query rest))
      ∙ h.each name;
}

some_later : (a b c : Option (List ℕ)) → IsSome b → IsSome (later_or (later_or a b) c)
some_later (Some v) b c h = refl
some_later None (Some v) c h = refl
some_later None None c h = absurd cc

-- what one query gives, all give
pub gives_all : (all rest : List (List ℕ)) (query : List ℕ) (entries : List (List ℕ × List ℕ)) → AreGathered all (query ∷ rest) entries → GivesAttribute (query ∷ []) → GivesAttribute all
gives_all all rest query entries h (name, some) = (
  name,
  subst IsSome (ap (λ (x : Option (List ℕ)). later_or x (get text_cmp entries name)) (sym (given_more name query rest)) ∙ h.each name)
      (some_later (attribute_given name rest) (Given name query) (get text_cmp entries name) some),
)

values_by : (b : Bool) (value : List ℕ) (rest : List (List ℕ)) → cond b (value ∷ rest) rest ≡ cond b (value ∷ []) [] ++ rest
values_by true value rest = refl
values_by false value rest = refl

-- the queries that are left, with those of the next option
pub queries_next : (option : OptionContent) (rest : List OptionContent) → values_of 15 (option ∷ rest) ≡ values_of 15 (option ∷ []) ++ values_of 15 rest
queries_next option rest = values_by (option.number == 15) option.value (values_of 15 rest)

pub front_texts : (front rest : List (List ℕ)) → AreTexts (front ++ rest) → AreTexts front
front_texts [] rest h = tt
front_texts (query ∷ front) rest h = (h.0, front_texts front rest h.1)

-- ---- what is gathered

pub some_entry : (queries : List (List ℕ)) (attributes : List (List ℕ × List ℕ)) → GiveAttributes queries attributes → attributes ≢ [] → GivesAttribute queries
some_entry queries [] give some = absurd (some refl)
some_entry queries (a ∷ attributes) give some = (a.0, subst IsSome (sym (get_first text_order a attributes) ∙ give.each a.0) refl)

-- a name and its value have room in a query
abbrev HasRoom : List ℕ → Option (List ℕ) → Type 0
HasRoom name given = (value : List ℕ) → given ≡ Some value → (length name ≤ 255) × (length value ≤ 254 - length name)

later_room : (name : List ℕ) (later earlier : Option (List ℕ)) → HasRoom name later → HasRoom name earlier → HasRoom name (later_or later earlier)
later_room name (Some v) earlier h k = h
later_room name None earlier h k = k

name_short : (query name : List ℕ) → IsShortQuery query → name_of query ≡ name → length name ≤ 255
name_short query name short named =
    let front = length-take (position_or_len (λ (c : ℕ). c == 61) query) query in
    let same : length (name_of query) ≡ length name = ap length named in
    omega (arith, front, same, short)

query_room : (query name : List ℕ) → IsShortQuery query → HasRoom name (if bytes_eq (name_of query) name then Some (value_of query) else None)
query_room query name short =
    elim (cases_Bool (bytes_eq (name_of query) name)) [
      | inl same ↦ (let named = (bytes_eq-Decides (name_of query) name).0 same in
          λ value e. (
            name_short query name short named,
            subst (λ (v : List ℕ). length v ≤ 254 - length name)
                (some_is (value_of query) value (sym (cond-true (bytes_eq (name_of query) name) (Some (value_of query)) None same) ∙ e)) (value_short query name short named),
          ))
      | inr other ↦ λ value e. absurd (none_some value (sym (cond-false (bytes_eq (name_of query) name) (Some (value_of query)) None other) ∙ e))
    ]

last_room : (name : List ℕ) (queries : List (List ℕ)) → AllByRecursion IsShortQuery queries → HasRoom name (last_value name queries)
last_room name [] short = λ value e. absurd (none_some value e)
last_room name (query ∷ queries) short =
    later_room name (last_value name queries) (if bytes_eq (name_of query) name then Some (value_of query) else None) (last_room name queries short.1) (query_room query name short.0)

given_is : (name value : List ℕ) (queries : List (List ℕ)) → AllByRecursion IsShortQuery queries → attribute_given name queries ≡ Some value → IsAttribute name value
given_is name value queries short e =
    elim (cases_Bool (is_attribute_name name)) [
      | inl is ↦ (let room = last_room name queries short value (sym (cond-true (is_attribute_name name) (last_value name queries) None is) ∙ e) in
          record { named = is; most = room.0; room = room.1 })
      | inr other ↦ absurd (none_some value (sym (cond-false (is_attribute_name name) (last_value name queries) None other) ∙ e))
    ]

-- what short queries give is attributes
pub are_attributes : (queries : List (List ℕ)) (attributes : List (List ℕ × List ℕ)) → AllByRecursion IsShortQuery queries → GiveAttributes queries attributes → AreAttributes attributes
are_attributes queries attributes short give = record {
  rise = give.rise;
  each = each_from_get text_order (λ (a : List ℕ × List ℕ). IsAttribute a.0 a.1) attributes give.rise (λ name value found. given_is name value queries short (sym (give.each name) ∙ found));
}

-- ---- queries give attributes, and no others

pub one_attributes : (queries : List (List ℕ)) (a b : List (List ℕ × List ℕ)) → GiveAttributes queries a → GiveAttributes queries b → a ≡ b
one_attributes queries a b h k = same_entries text_order a b h.rise k.rise (λ name. h.each name ∙ sym (k.each name))

abbrev keep_first : List ℕ → List ℕ → List ℕ
keep_first later earlier = later

abbrev put_if : Bool → List ℕ → List (List ℕ × List ℕ) → List (List ℕ × List ℕ)
put_if true query attributes = put text_cmp keep_first (name_of query) (value_of query) attributes
put_if false query attributes = attributes

-- the attributes that the queries give
abbrev pub attributes_in : List (List ℕ) → List (List ℕ × List ℕ)
attributes_in [] = []
attributes_in (query ∷ queries) = put_if (is_attribute_name (name_of query)) query (attributes_in queries)

first_wins : (v : List ℕ) (o : Option (List ℕ)) → option_join keep_first o (Some v) ≡ later_or o (Some v)
first_wins v None = refl
first_wins v (Some x) = refl

put_by : (query name : List ℕ) (o : Option (List ℕ)) → is_attribute_name (name_of query) ≡ true
    → cond (bytes_eq (name_of query) name) (option_join keep_first o (Some (value_of query))) o ≡ later_or o (Given name query)
put_by query name o is =
    elim (cases_Bool (bytes_eq (name_of query) name)) [
      | inl same ↦ cond-true (bytes_eq (name_of query) name) (option_join keep_first o (Some (value_of query))) o same ∙ first_wins (value_of query) o
          ∙ ap (later_or o) (sym (given_own query name is ((bytes_eq-Decides (name_of query) name).0 same)))
      | inr other ↦ cond-false (bytes_eq (name_of query) name) (option_join keep_first o (Some (value_of query))) o other ∙ sym (later_none o)
          ∙ ap (later_or o) (sym (given_other query name other))
    ]

put_gives : (b : Bool) (query : List ℕ) (queries : List (List ℕ)) (attributes : List (List ℕ × List ℕ)) → is_attribute_name (name_of query) ≡ b → GiveAttributes queries attributes
    → GiveAttributes (query ∷ queries) (put_if b query attributes)
put_gives true query queries attributes is give =
    let k = name_of query in
    let v = value_of query in
    record {
      rise = Rises-put text_order keep_first k v attributes give.rise;
      each = λ name.
          get-put text_order keep_first k v attributes give.rise name
          ∙ ap (λ (b : Bool). cond b (option_join keep_first (get text_cmp attributes name) (Some v)) (get text_cmp attributes name)) (compared name k)
          ∙ put_by query name (get text_cmp attributes name) is
          ∙ ap (λ (x : Option (List ℕ)). later_or x (Given name query)) (give.each name)
          ∙ sym (given_more name query queries);
    }
put_gives false query queries attributes refused give = record {
  rise = give.rise;
  each = λ name.
      give.each name ∙ sym (later_none (attribute_given name queries)) ∙ ap (later_or (attribute_given name queries)) (sym (given_none query name refused)) ∙ sym (given_more name query queries);
}

pub attributes_given : (queries : List (List ℕ)) → GiveAttributes queries (attributes_in queries)
attributes_given [] = record { rise = tt; each = λ name. sym (none_given name) }
attributes_given (query ∷ queries) = put_gives (is_attribute_name (name_of query)) query queries (attributes_in queries) refl (attributes_given queries)

-- queries that give some attribute give a list that is not empty
pub gives_some : (queries : List (List ℕ)) → GivesAttribute queries → attributes_in queries ≢ []
gives_some queries (name, some) empty =
    let none : attribute_given name queries ≡ None = sym ((attributes_given queries).each name) ∙ ap (λ (x : List (List ℕ × List ℕ)). get text_cmp x name) empty in
    nothing (subst IsSome none some)
  where
    nothing : ◌≡◌ false true → ⊥
    nothing e = cc
