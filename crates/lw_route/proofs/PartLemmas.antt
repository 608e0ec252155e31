-- Parts of a query, and what they give from left to right.
use Rattle.std.proofs.Common.{◌≡◌, ℕ, suc, ◌+◌, ◌<◌, ◌∙◌, List, ◌∷◌, Bool, true, false, length, drop, get_or, Option, Some, None, Result, Ok, Err, refl, sym, subst, ap, inl, arith, drop-cons}
use Rattle.std.specs.Prelude.{◌↔◌}
use Rattle.std.specs.List.{before_first, after_first}
use Rattle.std.specs.Option.{is_some}
use Rattle.std.specs.Iterator.{Yields}
use Rattle.std.proofs.lemmas.Iterator.{YieldsList}
use Rattle.std.proofs.lemmas.Iterator.Consumers.{YieldsList-turn, YieldsList-end}
use Rattle.std.proofs.Math.Seq.{drop-length}
use Rattle.lw_route.specs.declared.error.RouteError.{RouteError}
use Rattle.lw_route.specs.declared.fault.Fault.{Fault}
use Rattle.lw_route.specs.declared.parameters.Form.{Form}
use Rattle.lw_route.specs.declared.parameters.Name.{Name}
use Rattle.lw_route.specs.declared.parameters.Parameters.{Parameters}
use Rattle.lw_route.specs.declared.parameters.Form.TheVariants as forms
use Rattle.lw_route.specs.declared.parameters.Name.TheVariants.{After, Limit, Since, Start, From, Path, Accept}
use Rattle.lw_route.specs.inner.Texts.{is_text, gives_text}
use Rattle.lw_route.specs.Parameters.{is_equals, HasEquals, takes, name_text, IsGiven, IsGivenOnce, IsPart, AreParts, no_parameters}
use Rattle.lw_route.specs.inner.Faults.{IsAnswered}
use Rattle.lw_route.proofs.StepLemmas.{answered_as, then_refused}

-- ---- one part
some_is : (a b : Name) → Some a ≡ Some b → a ≡ b
some_is a b e = cc

-- a part whose name is read is what its value gives
given_part : (form : Form) (before : Parameters) (part : List ℕ) (name : Name) (answer : Result Parameters RouteError) → HasEquals part → ((n : Name) → (Some name ≡ Some n) ↔ ((takes form n ≡ true) × (before_first is_equals part ≡ name_text n))) → IsGiven name before (after_first is_equals part) answer → IsPart form before part answer
given_part form before part name answer has read is =
    let named = (read name).0 refl in
    record {
      no_value = λ not. absurd (not has);
      no_parameter = λ _ none. absurd (none name (record { parted = has; taken = named.0; name_is = named.1 }));
      given = λ n other. subst (λ k. IsGiven k before (after_first is_equals part) answer) (some_is name n ((read n).1 (other.taken, other.name_is))) is;
    }

pub part_answered : (form : Form) (before : Parameters) (part text value : List ℕ) (name : Name) (r : Result Parameters Fault) → HasEquals part → text ≡ before_first is_equals part → value ≡ after_first is_equals part → ((n : Name) → (Some name ≡ Some n) ↔ ((takes form n ≡ true) × (text ≡ name_text n))) → IsAnswered (IsGiven name before value) r → IsAnswered (IsPart form before part) r
part_answered form before part text value name r has text_is value_is read is =
    answered_as (IsGiven name before value) (IsPart form before part) r
    (λ answer given. given_part form before part name answer has (subst (λ t. (n : Name) → (Some name ≡ Some n) ↔ ((takes form n ≡ true) × (t ≡ name_text n))) text_is read) (subst (λ v. IsGiven name before v answer) value_is given))
    is

-- ---- parts from left to right
-- what the parts behind the first n come to, all come to
abbrev pub GoesOn : Form → List (List ℕ) → ℕ → Parameters → Type 0
GoesOn form parts n so_far =
    (answer : Result Parameters RouteError) → AreParts form so_far (drop n parts) answer → AreParts form no_parameters parts answer

parts_at : (parts : List (List ℕ)) (n : ℕ) (part : List ℕ) → n < length parts → part ≡ get_or parts n part → drop n parts ≡ part ∷ drop (n + 1) parts
parts_at parts n part less is =
    let next : suc n ≡ n + 1 = omega arith in
    drop-cons parts n part less ∙ ap (λ p. p ∷ drop (suc n) parts) (sym is) ∙ ap (λ k. part ∷ drop k parts) next

pub goes_more : (form : Form) (parts : List (List ℕ)) (n m : ℕ) (part : List ℕ) (before after : Parameters) → m ≡ n + 1 → n < length parts → part ≡ get_or parts n part → GoesOn form parts n before → IsPart form before part (Ok after) → GoesOn form parts m after
goes_more form parts n m part before after more less is goes given answer rest =
    goes answer (subst (λ ps. AreParts form before ps answer) (sym (parts_at parts n part less is)) (inl (after, given, subst (λ k. AreParts form after (drop k parts) answer) more rest)))

pub goes_wrong : (form : Form) (parts : List (List ℕ)) (n : ℕ) (part : List ℕ) (before : Parameters) (f : Fault) → n < length parts → part ≡ get_or parts n part → GoesOn form parts n before → IsAnswered (IsPart form before part) (Err f) → IsAnswered (AreParts form no_parameters parts) (Err f)
goes_wrong form parts n part before f less is goes bad =
    answered_as (λ answer. AreParts form before (part ∷ drop (n + 1) parts) answer) (AreParts form no_parameters parts) (Err f)
    (λ answer are. goes answer (subst (λ ps. AreParts form before ps answer) (sym (parts_at parts n part less is)) are))
    (then_refused (IsPart form before part) (λ after. AreParts form after (drop (n + 1) parts)) f bad)

pub goes_to_end : (form : Form) (parts : List (List ℕ)) (n : ℕ) (last : Parameters) → n ≡ length parts → GoesOn form parts n last → AreParts form no_parameters parts (Ok last)
goes_to_end form parts n last all goes =
    goes (Ok last) (subst (λ ps. AreParts form last ps (Ok last)) (sym (ap (λ k. drop k parts) all ∙ drop-length parts)) refl)

-- ---- the parts that an iterator gives, where its calls are known first
pub turn_by : {S A B : Type 0} {steps : S → Option A → S → Type 0} {v : A → B} {s : S} {all : List B} (xs : List A) (t : S) (y : Yields steps s xs t) (r : Option A) (u : S) (x : A) → r ≡ Some x → steps t r u → YieldsList steps v s all → (length xs < length all) × (v x ≡ get_or all (length xs) (v x))
turn_by xs t y r u x is step road = YieldsList-turn road xs t y r u x is step

pub end_by : {S A B : Type 0} {steps : S → Option A → S → Type 0} {v : A → B} {s : S} {all : List B} (xs : List A) (t : S) (y : Yields steps s xs t) (r : Option A) (u : S) → r ≡ None → steps t r u → YieldsList steps v s all → length xs ≡ length all
end_by xs t y r u is step road = (YieldsList-end road xs t y r u is step).1

-- ---- values
-- a value that was not given before
pub given_once : {V : Type 0} (before : Option V) (asked : Bool) (Reading : Result V RouteError → Type 0) (to : V → Parameters) (value : V) → asked ≡ is_some before → asked ≡ false → Reading (Ok value) → IsGivenOnce before Reading to (Ok (to value))
given_once None asked Reading to value e none is = inl (value, is, refl)
given_once (Some other) asked Reading to value e none is = absurd cc

-- a form that takes a name whose value is a text
pub gives : (form : Form) (name : Name) → takes form name ≡ true → is_text name ≡ true → gives_text form ≡ true
gives forms.Registrations name taken is = refl
gives forms.Observations name taken is = refl
gives forms.Observing name taken is = refl
gives forms.Nothing name taken is = absurd cc
gives forms.Changes After taken is = absurd cc
gives forms.Changes Limit taken is = absurd cc
gives forms.Changes Since taken is = absurd cc
gives forms.Changes Start taken is = absurd cc
gives forms.Changes From taken is = absurd cc
gives forms.Changes Path taken is = absurd cc
gives forms.Changes Accept taken is = absurd cc
gives forms.Notifications After taken is = absurd cc
gives forms.Notifications Limit taken is = absurd cc
gives forms.Notifications Since taken is = absurd cc
gives forms.Notifications Start taken is = absurd cc
gives forms.Notifications From taken is = absurd cc
gives forms.Notifications Path taken is = absurd cc
gives forms.Notifications Accept taken is = absurd cc
