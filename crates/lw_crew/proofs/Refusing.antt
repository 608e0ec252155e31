-- Results that are refused, from what is known of those before.
use Rattle.std.proofs.Common.{◌≡◌, ℕ, ◌<◌, ◌≤◌, List, [], ◌∷◌, length, Some, take, sym, ap, ◌∙◌, subst, arith, zero, suc}
use Rattle.std.specs.Prelude.{slice_get, IfErr, Result, Ok, Err}
use Rattle.std.proofs.Math.ListN.{get_or}
use Rattle.std.proofs.lemmas.Option.{get_or_from_slice_get, slice_get_within}
use Rattle.lw_held.specs.declared.shelf.Shelf.{Shelf}
use Rattle.lw_held.specs.Transcript.{Transcript}
use Rattle.lw_crew.specs.declared.job.Job.{Job}
use Rattle.lw_crew.specs.declared.job.Done.{Done}
use Rattle.lw_crew.specs.declared.job.CrewFault.{CrewFault}
use Rattle.lw_crew.specs.declared.job.CrewFault.TheVariants.{Missing, Double, Stranger, NoMemory}
use Rattle.lw_crew.specs.Gather.{AreClean, HasJob, IsFault}
use Rattle.lw_crew.specs.Refusals.{AreGood, IsRefused}
use Rattle.lw_crew.specs.inner.Refusals.{AreTrueTo, IsFirstUntrue, IsMissing}

-- ---- a list cut off
get_take : {A : Type 0} (xs : List A) (n i : ℕ) (x : A) → i < n → slice_get xs i ≡ Some x → slice_get (take n xs) i ≡ Some x
get_take [] n i x l at = absurd (omega (arith, slice_get_within [] i x at))
get_take (y ∷ ys) zero i x l at = absurd (omega (arith, l))
get_take (y ∷ ys) (suc n) zero x l at = at
get_take (y ∷ ys) (suc n) (suc i) x l at = get_take ys n i x (omega (arith, l)) at

take_get : {A : Type 0} (xs : List A) (n i : ℕ) (x : A) → slice_get (take n xs) i ≡ Some x → slice_get xs i ≡ Some x
take_get xs zero i x at = absurd (omega (arith, slice_get_within [] i x at))
take_get [] (suc n) i x at = absurd (omega (arith, slice_get_within [] i x at))
take_get (y ∷ ys) (suc n) zero x at = at
take_get (y ∷ ys) (suc n) (suc i) x at = take_get ys n i x at

take_within : {A : Type 0} (xs : List A) (n i : ℕ) (x : A) → slice_get (take n xs) i ≡ Some x → i < n
take_within xs zero i x at = absurd (omega (arith, slice_get_within [] i x at))
take_within [] (suc n) i x at = absurd (omega (arith, slice_get_within [] i x at))
take_within (y ∷ ys) (suc n) zero x at = omega arith
take_within (y ∷ ys) (suc n) (suc i) x at = let l = take_within ys n i x at in omega (arith, l)

job_take : (ds : List Done) (n i job : ℕ) → i ≤ n → HasJob ds i job → HasJob (take n ds) i job
job_take ds n i job low h = record { i = h.i; done = h.done; below = h.below; at = get_take ds n h.i h.done (let l = h.below in omega (arith, l, low)) h.at; is = h.is }

take_job : (ds : List Done) (n i job : ℕ) → HasJob (take n ds) i job → HasJob ds i job
take_job ds n i job h = record { i = h.i; done = h.done; below = h.below; at = take_get ds n h.i h.done h.at; is = h.is }

-- ---- good results
good : (shelves : List Shelf) (before : List ℕ) (after : List Transcript) (jobs : List Job) (dones : List Done) (count n : ℕ) → AreTrueTo shelves before after jobs dones n → AreClean count dones n → AreGood shelves before after jobs dones n
good shelves before after jobs dones count n each clean = λ i done l at. (each i done l at, (clean i done l at).1)

-- what is clean in a list cut off is so in the whole
clean_whole : (count : ℕ) (ds : List Done) (n i : ℕ) → i ≤ n → AreClean count (take n ds) i → AreClean count ds i
clean_whole count ds n i low clean = λ k done l at.
    let under : k < n = omega (arith, l, low) in
    let w = clean k done l (get_take ds n k done under at) in
    (w.0, λ h. w.1 (job_take ds n k done.job (omega (arith, under)) h))

clean_front : (count : ℕ) (ds : List Done) (n : ℕ) → AreClean count (take n ds) (length (take n ds)) → AreClean count ds n
clean_front count ds n clean = λ k done l at.
    let cut = get_take ds n k done l at in
    let w = clean k done (slice_get_within (take n ds) k done cut) cut in
    (w.0, λ h. w.1 (job_take ds n k done.job (omega (arith, l)) h))

-- ---- where all results are true, and fail to be one for each job
pub whole : (shelves : List Shelf) (before : List ℕ) (after : List Transcript) (jobs : List Job) (dones : List Done) (fault : CrewFault) → AreTrueTo shelves before after jobs dones (length dones) → IsFault (length jobs) dones fault → IsRefused shelves before after jobs dones fault
whole shelves before after jobs dones (Stranger job) each is =
    let i = is.0 in
    let done = is.1 in
    let at = is.2.0 in
    let one = each i done (slice_get_within dones i done at) at in
    let inside = slice_get_within jobs done.job one.job one.is in
    let named : done.job ≡ job = is.3 in
    let past : length jobs ≤ job = is.4 in
    absurd (omega (arith, inside, named, past))
whole shelves before after jobs dones (Double job) each is =
    let i = is.0 in
    let done = is.1 in
    let at = is.2.0 in
    let low = slice_get_within dones i done at in
    (i, done, at, good shelves before after jobs dones (length jobs) i (λ k d l. each k d (omega (arith, l, low))) is.2.1, is.3, each i done low at, is.5)
whole shelves before after jobs dones (Missing job) each is = (good shelves before after jobs dones (length jobs) (length dones) each is.0, is.1, is.2, is.3)
whole shelves before after jobs dones NoMemory each is = tt

-- ---- where a result is not true
pub stranger : (shelves : List Shelf) (before : List ℕ) (after : List Transcript) (jobs : List Job) (dones rest : List Done) (place : ℕ) (told : Done) → IsFirstUntrue shelves before after jobs dones place → told ≡ get_or dones place told → rest ≡ take place dones → AreClean (length jobs) rest (length rest) → IsRefused shelves before after jobs dones (Stranger told.job)
stranger shelves before after jobs dones rest place told first is cut clean =
    let done = first.0 in
    let e : told ≡ done = is ∙ get_or_from_slice_get dones place done told first.1 in
    let front = clean_front (length jobs) dones place (subst (λ xs. AreClean (length jobs) xs (length xs)) cut clean) in
    (place, done, first.1, good shelves before after jobs dones (length jobs) place first.2 front, ap (λ (d : Done). d.job) (sym e), first.3)

pub missing : (count : ℕ) (ds : List Done) (fault : CrewFault) → IsFault count ds fault → IsMissing fault → AreClean count ds (length ds)
missing count ds (Missing job) is known = is.0
missing count ds (Double job) is known = absurd known
missing count ds (Stranger job) is known = absurd known
missing count ds NoMemory is known = absurd known

cut_off : (shelves : List Shelf) (before : List ℕ) (after : List Transcript) (jobs : List Job) (dones : List Done) (place : ℕ) (fault : CrewFault) → AreTrueTo shelves before after jobs dones place → (IsMissing fault → ⊥) → IsFault (length jobs) (take place dones) fault → IsRefused shelves before after jobs dones fault
cut_off shelves before after jobs dones place (Stranger job) each not is =
    let i = is.0 in
    let done = is.1 in
    let cut = is.2.0 in
    let one = each i done (take_within dones place i done cut) (take_get dones place i done cut) in
    let inside = slice_get_within jobs done.job one.job one.is in
    let named : done.job ≡ job = is.3 in
    let past : length jobs ≤ job = is.4 in
    absurd (omega (arith, inside, named, past))
cut_off shelves before after jobs dones place (Double job) each not is =
    let i = is.0 in
    let done = is.1 in
    let cut = is.2.0 in
    let low = take_within dones place i done cut in
    let at = take_get dones place i done cut in
    let clean = clean_whole (length jobs) dones place i (omega (arith, low)) is.2.1 in
    (i, done, at, good shelves before after jobs dones (length jobs) i (λ k d l. each k d (omega (arith, l, low))) clean, is.3, each i done low at, take_job dones place i job is.5)
cut_off shelves before after jobs dones place (Missing job) each not is = absurd (not tt)
cut_off shelves before after jobs dones place NoMemory each not is = tt

pub earlier : (shelves : List Shelf) (before : List ℕ) (after : List Transcript) (jobs : List Job) (dones rest : List Done) (place : ℕ) (fault : CrewFault) → IsFirstUntrue shelves before after jobs dones place → rest ≡ take place dones → (IsMissing fault → ⊥) → IsFault (length jobs) rest fault → IsRefused shelves before after jobs dones fault
earlier shelves before after jobs dones rest place fault first cut not is = cut_off shelves before after jobs dones place fault first.2 not (subst (λ xs. IsFault (length jobs) xs fault) cut is)

-- ---- a fault that is told in other words
pub in_err : {A E : Type 0} (r : Result A E) (P Q : E → Type 0) → ((e : E) → P e → Q e) → IfErr r P → IfErr r Q
in_err (Ok x) P Q f is = tt
in_err (Err e) P Q f is = f e is
