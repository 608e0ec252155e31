-- Steps of reading, one after another.
use Rattle.std.proofs.Common.{◌≡◌, ℕ, List, Option, Some, None, Result, Ok, Err, refl, sym, subst, inl, inr}
use Rattle.std.specs.Result.{IsErrAnd}
use Rattle.lw_route.specs.declared.error.RouteError.{RouteError}
use Rattle.lw_route.specs.declared.error.RouteError.TheVariants as error
use Rattle.lw_route.specs.declared.fault.Fault.{Fault}
use Rattle.lw_route.specs.declared.fault.Fault.TheVariants as fault
use Rattle.lw_reg.specs.declared.path.Path.{Path}
use Rattle.lw_path.specs.PathText.{IsPath}
use Rattle.lw_route.specs.Answers.{Then}
use Rattle.lw_route.specs.Targets.{AfterPath}
use Rattle.lw_route.specs.inner.Faults.{IsAnswered}

-- the first step is refused
pub then_refused : {A B : Type 0} (First : Result A RouteError → Type 0) (Second : A → Result B RouteError → Type 0) (f : Fault) → IsAnswered First (Err f) → IsAnswered (Then First Second) (Err f)
then_refused First Second (fault.Route error) first = inr (error, first, refl)
then_refused First Second fault.NoMemory first = tt

-- the first step gives a value, and the second one answers
pub then_goes : {A B : Type 0} (First : Result A RouteError → Type 0) (Second : A → Result B RouteError → Type 0) (value : A) (r : Result B Fault) → First (Ok value) → IsAnswered (Second value) r → IsAnswered (Then First Second) r
then_goes First Second value (Ok b) first second = inl (value, first, second)
then_goes First Second value (Err (fault.Route error)) first second = inl (value, first, second)
then_goes First Second value (Err fault.NoMemory) first second = tt

-- what holds of an answer holds of one that memory may be wanting for
pub answered_as : {V : Type 0} (P Q : Result V RouteError → Type 0) (r : Result V Fault) → ((answer : Result V RouteError) → P answer → Q answer) → IsAnswered P r → IsAnswered Q r
answered_as P Q (Ok value) to is = to (Ok value) is
answered_as P Q (Err (fault.Route error)) to is = to (Err error) is
answered_as P Q (Err fault.NoMemory) to is = tt

-- the fault that a `?` hands on
pub handed_on : {V : Type 0} (P : Result V RouteError → Type 0) (f : Fault) (r : Result V Fault) → IsErrAnd r (λ e. e ≡ f) → IsAnswered P (Err f) → IsAnswered P r
handed_on P f (Ok value) is answered = absurd is
handed_on P f (Err e) is answered = subst (λ x. IsAnswered P (Err x)) (sym is) answered

-- the value of `after` is a path, or none
pub path_behind : (o : Option (List ℕ)) (text read : List ℕ) (path : Path) → o ≡ Some text → read ≡ text → IsPath path read → AfterPath o (Ok (Some path))
path_behind None text read path e same is = absurd cc
path_behind (Some other) text read path e same is = let whole : read ≡ other = cc in inl (path, subst (IsPath path) whole is, refl)

pub no_path_behind : (o : Option (List ℕ)) (text read : List ℕ) → o ≡ Some text → read ≡ text → ((path : Path) → ¬ IsPath path read) → AfterPath o (Err error.After)
no_path_behind None text read e same none = absurd cc
no_path_behind (Some other) text read e same none =
    let whole : read ≡ other = cc in
    inr (error.After, (refl, λ path is. none path (subst (IsPath path) (sym whole) is)), refl)
