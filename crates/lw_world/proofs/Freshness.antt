-- What a node issues has its number and the next stamp of its clock, and speaks of nothing that comes later.
use Rattle.std.proofs.Common.{◌≡◌, ℕ, ◌+◌, ◌<◌, ◌≤◌, List, [], ◌∷◌, Option, Some, None, Ok, Err, refl, sym, ap, subst, inl, inr, arith}
use Rattle.std.specs.Prelude.{Contains, IfSome, Result}
use Rattle.lw_stamp.specs.declared.stamp.Stamp.{Stamp}
use Rattle.lw_coap.specs.Message.{MessageContent}
use Rattle.lw_reg.specs.declared.addr.Addr.{Addr}
use Rattle.lw_reg.specs.declared.op.Op.{Op}
use Rattle.lw_reg.specs.declared.op.What.{What}
use Rattle.lw_reg.specs.declared.op.What.TheVariants as whats
use Rattle.lw_reg.specs.declared.path.Path.{Path}
use Rattle.lw_reg.specs.declared.settings.GivenSettings.{GivenSettings}
use Rattle.lw_reg.specs.declared.watch.Watch.{Watch}
use Rattle.lw_reg.specs.Marks.{Marks, all_marks, marks_of, left_by}
use Rattle.lw_reg.specs.Reading.{shown_in}
use Rattle.lw_reg.specs.Registration.{Registration}
use Rattle.lw_reg.specs.Showing.{IsExpired}
use Rattle.lw_reg.specs.State.{state_of}
use Rattle.lw_reg.proofs.Members.{first_there, more_there}
use Rattle.lw_reg.proofs.Operations.{all_names}
use Rattle.lw_reg.proofs.States.{state_least}
use Rattle.lw_request.specs.declared.asked.Asked.{Asked}
use Rattle.lw_request.specs.declared.asked.Asked.TheVariants.{Register, Update, Deregister, Report, Ping, Refuse, Reject, Ignore}
use Rattle.lw_request.specs.Report.{ReportContent}
use Rattle.lw_table.specs.Answers.{IsFirstAnswer}
use Rattle.lw_table.specs.LookUps.{IsExpiredAfter}
use Rattle.lw_table.proofs.LookUpLemmas.{read_tells, read_names, marks_tell}
use Rattle.lw_node.specs.Effects.{Issuer, Effect, Request, Refused, IsNext, Issues, WritesGiven, IsNamed, Changes, NamedChanges, IsWatched, EndsWatch, ReportMeans, Does, MalformedMeans, DatagramMeans, CommandMeans, ObserveMeans, CancelMeans, Expires, SweepsFirst, SweepMeans, observes, ends}
use Rattle.lw_node.specs.Laws.{IsRegister}
use Rattle.lw_node.specs.Within.{TokenWithin, FitsClock}
use Rattle.lw_node.specs.inner.Within.{IsNextOf}
use Rattle.lw_node.proofs.NextOperation.{datagram_next, observe_next, cancel_next, sweep_next}
use Rattle.lw_node.proofs.SlotStamps.{empty_fits}
use Rattle.lw_node.proofs.Within.{fits_more, fits_join, fits_op}
use Rattle.lw_world.specs.Known.{Knowledge, known_state}
use Rattle.lw_world.specs.inner.Known.{issuer_of}
use Rattle.lw_world.specs.Laws.{IsWithin}
use Rattle.lw_world.proofs.Deciding.{Agree, told_agree, other_way, id_along, token_along, first_late_along}
use Rattle.lw_world.proofs.KnownStates.{known_more}

-- ---- operations below a clock
-- an operation that was the next of a clock below this one
pub record WasNext (clock : ℕ) (o : Op) : Type 0 where
  pub before : ℕ
  pub below : before < clock
  pub next : IsNextOf before o

pub was_before : (c d : ℕ) → c ≤ d → (o : Op) → WasNext c o → WasNext d o
was_before c d le o h = record { before = h.before; below = (let lt = h.below in omega (arith, le, lt)); next = h.next }

token_more : (c d : ℕ) → c ≤ d → (what : What) → TokenWithin c what → TokenWithin d what
token_more c d le (whats.Cancel path token) h = omega (arith, le, h)
token_more c d le (whats.Expire upto) h = omega (arith, le, h)
token_more c d le _ h = tt

pub was_within : (clock : ℕ) (o : Op) → WasNext clock o → IsWithin clock o
was_within clock o h =
    let lt = h.below in
    let counter = h.next.next in
    let reg = h.next.registration in
    record { stamp = omega (arith, lt, counter); registration = omega (arith, lt, reg); token = token_more h.before clock (omega (arith, lt)) o.what h.next.token }

-- the clock fits the state of operations that are below it
fits_known : (clock : ℕ) (os : List Op) → ((o : Op) → Contains os o → WasNext clock o) → FitsClock clock (known_state os)
fits_known clock [] each = empty_fits clock
fits_known clock (o ∷ os) each =
    let was = each o (first_there o os o refl) in
    let le : was.before + 1 ≤ clock = (let lt = was.below in omega (arith, lt)) in
    subst (FitsClock clock) (sym (known_more o os))
    (fits_join clock (state_of (marks_of o)) (known_state os) (fits_more (was.before + 1) clock (state_of (marks_of o)) le (fits_op was.before o was.next)) (fits_known clock os (λ p there. each p (more_there o os p there))))

-- ---- sets that agree mean the same
module _ (M N : Marks) (place : Issuer) (a : Agree M N place.now) where
  named_along : (id : Option Stamp) (found : Option Registration) → IsNamed M place.now id found → IsNamed N place.now id found
  named_along None found h = h
  named_along (Some id) found h = id_along M N place.now a id found h

  changes_along : (request : MessageContent) (id : Option Stamp) (Do : What → Type 0) (code : ℕ) (effect : Effect) → NamedChanges place M request id Do code effect → NamedChanges place N request id Do code effect
  changes_along request id Do code effect h = (h.0, named_along id h.0 h.1, h.2)

  watched_along : (token : List ℕ) (x : Registration × Watch) → IsWatched M place.now token x → IsWatched N place.now token x
  watched_along token x h = (h.0, h.1, token_along M N place.now a h.0 (Some x) h.2)

module _ (M N : Marks) (place : Issuer) (a : Agree M N place.now) where
  report_along : (report : ReportContent) (effect : Effect) → ReportMeans place M report effect → ReportMeans place N report effect
  report_along report effect (inl h) = inl (λ x watched. h.0 x (watched_along N M place (other_way M N place.now a) report.token x watched), h.1)
  report_along report effect (inr (x, watched, h)) = inr (x, watched_along M N place a report.token x watched, h)

  does_along : (source : Addr) (m : MessageContent) (asked : Asked) (effect : Effect) → Does place M source m asked effect → Does place N source m asked effect
  does_along source m (Register endpoint version queue settings) effect h = h
  does_along source m (Update id settings) effect h = changes_along M N place a m id _ 68 effect h
  does_along source m (Deregister id) effect h = changes_along M N place a m id _ 66 effect h
  does_along source m (Report report) effect h = report_along report effect h
  does_along source m Ping effect h = h
  does_along source m (Refuse refusal) effect h = h
  does_along source m Reject effect h = h
  does_along source m Ignore effect h = h

  pub datagram_along : (source : Addr) (bytes : List ℕ) (effect : Effect) → DatagramMeans place M source bytes effect → DatagramMeans place N source bytes effect
  datagram_along source bytes effect (inl (m, spelled, (asked, means, does))) = inl (m, spelled, (asked, means, does_along source m asked effect does))
  datagram_along source bytes effect (inr h) = inr h

-- ---- a sweep
-- the operation tells of what has expired at that moment the same over both
expires_along : (M N : Marks) (now : ℕ) → Agree M N now → (r : Registration) → IsExpired M now r → (op : Op) → Expires M r op → Expires N r op
expires_along M N now a r expired op e = record { about = e.about; upto = e.upto; seen = ((a.sees e.upto r).0 (expired, e.seen)).1; what = e.what }

pub sweep_along : (M N : Marks) (place : Issuer) → Agree M N place.now → (outcome : Result (Option Op) Refused) → SweepMeans place M outcome → SweepMeans place N outcome
sweep_along M N place a outcome h = (h.0, first_late_along M N place.now a None h.0 h.1, go h.0 h.1 h.2)
  where
    go : (found : Option Registration) → IsFirstAnswer (IsExpiredAfter M place.now None) found → SweepsFirst place M found outcome → SweepsFirst place N found outcome
    go None first same = same
    go (Some r) first (inl ended) = inl ended
    go (Some r) first (inr (op, next, expires, is)) = inr (op, next, expires_along M N place.now a r first.fits.1 op expires, is)

-- ---- the stamp is the node's own, and a Register is about the registration with it
record IsOwn (place : Issuer) (op : Op) : Type 0 where
  next : IsNext place op.stamp
  own : IsRegister op.what → op.reg ≡ op.stamp

abbrev OwnIn : Issuer → Effect → Type 0
OwnIn place effect = IfSome effect.operation (IsOwn place)

given_other : (now : ℕ) (source : Addr) (given : GivenSettings) (what : What) → WritesGiven now source given what → IsRegister what → ⊥
given_other now source given (whats.Register version queue address seen settings) h register = h
given_other now source given _ h register = register

issued_by : (a b : Request) (o p : Op) → ◌≡◌ {A = Result (Request × Op) Refused} (Ok (a, o)) (Ok (b, p)) → p ≡ o
issued_by a b o p e = ap of (sym e)
  where
    of : Result (Request × Op) Refused → Op
    of (Ok x) = x.1
    of (Err refused) = o

module _ (place : Issuer) where
  issues_own : (request : MessageContent) (Do : Op → Type 0) (reply : Op → MessageContent) (effect : Effect) → ((op : Op) → Do op → IsRegister op.what → op.reg ≡ op.stamp) → Issues place request Do reply effect → OwnIn place effect
  issues_own request Do reply effect own (inl x) = subst (OwnIn place) (sym x.1) tt
  issues_own request Do reply effect own (inr x) = subst (OwnIn place) (sym x.3) (record { next = x.1; own = own x.0 x.2 })

  changes_own : (M : Marks) (request : MessageContent) (Do : What → Type 0) (code : ℕ) (id : Option Stamp) (effect : Effect) → ((what : What) → Do what → IsRegister what → ⊥) → NamedChanges place M request id Do code effect → OwnIn place effect
  changes_own M request Do code id effect other h = go h.0 h.2
    where
      go : (found : Option Registration) → Changes place request Do code found effect → OwnIn place effect
      go None changes = subst (OwnIn place) (sym changes) tt
      go (Some r) changes = issues_own request _ _ effect (λ op does register. absurd (other op.what does.1 register)) changes

  ends_own : (report : ReportContent) (x : Registration × Watch) (effect : Effect) → EndsWatch place report x effect → OwnIn place effect
  ends_own report x effect (inl h) = subst (OwnIn place) (sym h.1) tt
  ends_own report x effect (inr h) = subst (OwnIn place) (sym h.3) (record { next = h.1; own = λ register. absurd (subst IsRegister h.2.what register) })

  report_own : (M : Marks) (report : ReportContent) (effect : Effect) → ReportMeans place M report effect → OwnIn place effect
  report_own M report effect (inl h) = subst (OwnIn place) (sym h.1) tt
  report_own M report effect (inr (x, watched, inl h)) = subst (OwnIn place) (sym h.1) tt
  report_own M report effect (inr (x, watched, inr h)) = ends_own report x effect h.1

  does_own : (M : Marks) (source : Addr) (m : MessageContent) (asked : Asked) (effect : Effect) → Does place M source m asked effect → OwnIn place effect
  does_own M source m (Register endpoint version queue settings) effect h = issues_own m _ _ effect (λ op registers register. registers.registration) h
  does_own M source m (Update id settings) effect h = changes_own M m _ 68 id effect (λ what writes. given_other place.now source settings what writes) h
  does_own M source m (Deregister id) effect h = changes_own M m _ 66 id effect (λ what removes register. subst IsRegister removes register) h
  does_own M source m (Report report) effect h = report_own M report effect h
  does_own M source m Ping effect h = subst (OwnIn place) (sym h) tt
  does_own M source m (Refuse refusal) effect h = subst (OwnIn place) (sym h) tt
  does_own M source m Reject effect h = subst (OwnIn place) (sym h) tt
  does_own M source m Ignore effect h = subst (OwnIn place) (sym h) tt

  malformed_own : (bytes : List ℕ) (effect : Effect) → MalformedMeans bytes effect → OwnIn place effect
  malformed_own bytes effect (inl h) = subst (OwnIn place) (sym h.3) tt
  malformed_own bytes effect (inr h) = subst (OwnIn place) (sym h.1) tt

  datagram_own : (M : Marks) (source : Addr) (bytes : List ℕ) (effect : Effect) → DatagramMeans place M source bytes effect → OwnIn place effect
  datagram_own M source bytes effect (inl (m, spelled, (asked, means, does))) = does_own M source m asked effect does
  datagram_own M source bytes effect (inr (fault, first, h)) = malformed_own bytes effect h

  command_own : {X : Type 0} (found : Option X) (of_found : X → Registration) (Do : X → Op → Type 0) (sends : X → Op → Request) (request : Request) (operation : Op) → ((x : X) (op : Op) → Do x op → IsRegister op.what → ⊥) → CommandMeans place found of_found Do sends (Ok (request, operation)) → IsOwn place operation
  command_own None of_found Do sends request operation other h = absurd cc
  command_own (Some x) of_found Do sends request operation other (inl h) = absurd (let e = h.1 in cc)
  command_own (Some x) of_found Do sends request operation other (inr h) =
      subst (IsOwn place) (issued_by request (sends x h.0) operation h.0 h.4) (record { next = h.1; own = λ register. absurd (other x h.0 h.3 register) })

  sweep_own : (M : Marks) (operation : Op) → SweepMeans place M (Ok (Some operation)) → IsOwn place operation
  sweep_own M operation h = go h.0 h.2
    where
      go : (found : Option Registration) → SweepsFirst place M found (Ok (Some operation)) → IsOwn place operation
      go None same = absurd (let bad = same in cc)
      go (Some r) (inl ended) = absurd (let bad = ended.1 in cc)
      go (Some r) (inr (op, next, expires, is)) =
          subst (IsOwn place) {x = op} (let e = is in cc) (record { next = next; own = λ register. absurd (subst IsRegister expires.what register) })

-- ---- what a node issues
-- the next of its clock, with its number
pub record IsFresh (k : Knowledge) (o : Op) : Type 0 where
  pub next : IsNextOf k.clock o
  pub node : o.stamp.node ≡ k.number
  pub own : IsRegister o.what → o.reg ≡ o.stamp

module _ (k : Knowledge) (now : ℕ) (each : (o : Op) → Contains k.operations o → WasNext k.clock o) where
  fits : FitsClock k.clock (known_state k.operations)
  fits = fits_known k.clock k.operations each

  -- what the operations leave agrees with what their state shows
  agree : Agree (left_by k.operations) (shown_in (known_state k.operations)) now
  agree =
      told_agree (left_by k.operations) (shown_in (known_state k.operations)) (all_names k.operations) (read_names (known_state k.operations)) (known_state k.operations)
      (marks_tell (all_marks k.operations) (all_names k.operations) (known_state k.operations) (state_least (all_marks k.operations))) (read_tells (known_state k.operations)) now

  fresh_of : (o : Op) → IsNextOf k.clock o → IsOwn (issuer_of k now) o → IsFresh k o
  fresh_of o next own = record { next = next; node = own.next.node; own = own.own }

  pub taken_fresh : (source : Addr) (bytes : List ℕ) (effect : Effect) → DatagramMeans (issuer_of k now) (left_by k.operations) source bytes effect → IfSome effect.operation (IsFresh k)
  taken_fresh source bytes effect means =
      go effect.operation
      (datagram_next (issuer_of k now) (known_state k.operations) fits source bytes effect (datagram_along (left_by k.operations) (shown_in (known_state k.operations)) (issuer_of k now) agree source bytes effect means))
      (datagram_own (issuer_of k now) (left_by k.operations) source bytes effect means)
    where
      go : (o : Option Op) → IfSome o (IsNextOf k.clock) → IfSome o (IsOwn (issuer_of k now)) → IfSome o (IsFresh k)
      go None next own = tt
      go (Some o) next own = fresh_of o next own

  pub observe_fresh : (id : Stamp) (path : Path) (accept : Option ℕ) (mid : ℕ) (request : Request) (operation : Op) → ObserveMeans (issuer_of k now) (left_by k.operations) id path accept mid (Ok (request, operation)) → IsFresh k operation
  observe_fresh id path accept mid request operation h =
      fresh_of operation
      (observe_next (issuer_of k now) (known_state k.operations) fits id path accept mid request operation (h.0, id_along (left_by k.operations) (shown_in (known_state k.operations)) now agree id h.0 h.1, h.2))
      (command_own (issuer_of k now) h.0 _ _ (observes mid path accept) request operation (λ r op what register. subst IsRegister what register) h.2)

  pub cancel_fresh : (token : Stamp) (mid : ℕ) (request : Request) (operation : Op) → CancelMeans (issuer_of k now) (left_by k.operations) token mid (Ok (request, operation)) → IsFresh k operation
  cancel_fresh token mid request operation h =
      fresh_of operation
      (cancel_next (issuer_of k now) (known_state k.operations) fits token mid request operation (h.0, token_along (left_by k.operations) (shown_in (known_state k.operations)) now agree token h.0 h.1, h.2))
      (command_own (issuer_of k now) h.0 _ _ (ends mid) request operation (λ x op what register. subst IsRegister what register) h.2)

  pub sweep_fresh : (operation : Op) → SweepMeans (issuer_of k now) (left_by k.operations) (Ok (Some operation)) → IsFresh k operation
  sweep_fresh operation h =
      fresh_of operation
      (sweep_next (issuer_of k now) (known_state k.operations) fits operation (sweep_along (left_by k.operations) (shown_in (known_state k.operations)) (issuer_of k now) agree (Ok (Some operation)) h))
      (sweep_own (issuer_of k now) (left_by k.operations) operation h)
