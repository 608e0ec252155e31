-- What a datagram, a command or a sweep means over what a node shows is an operation with the next number of its clock, which
-- speaks of nothing that comes later.
use Rattle.std.proofs.Common.{◌≡◌, ◌∙◌, ℕ, ◌+◌, ◌≤◌, List, Bool, Option, Some, None, Ok, Err, inl, inr, refl, sym, ap, subst, arith}
use Rattle.std.specs.Prelude.{Result, IfSome}
use Rattle.lw_stamp.specs.declared.stamp.Stamp.{Stamp}
use Rattle.lw_coap.specs.Message.{MessageContent}
use Rattle.lw_reg.specs.declared.addr.Addr.{Addr}
use Rattle.lw_reg.specs.declared.op.Op.{Op}
use Rattle.lw_reg.specs.declared.op.What.{What}
use Rattle.lw_reg.specs.declared.op.What.TheVariants as whats
use Rattle.lw_reg.specs.declared.path.Path.{Path}
use Rattle.lw_reg.specs.declared.settings.GivenSettings.{GivenSettings}
use Rattle.lw_reg.specs.declared.settings.Settings.{Settings}
use Rattle.lw_reg.specs.declared.version.Version.{Version}
use Rattle.lw_reg.specs.declared.watch.Watch.{Watch}
use Rattle.lw_reg.specs.Reading.{shown_in}
use Rattle.lw_reg.specs.Registration.{Registration}
use Rattle.lw_reg.specs.Showing.{IsShown, IsLive}
use Rattle.lw_reg.specs.State.{State}
use Rattle.lw_request.specs.declared.asked.Asked.{Asked}
use Rattle.lw_request.specs.declared.asked.Asked.TheVariants.{Register, Update, Deregister, Report, Ping, Refuse, Reject, Ignore}
use Rattle.lw_request.specs.Report.{ReportContent}
use Rattle.lw_table.specs.Answers.{IsFirstAnswer}
use Rattle.lw_table.specs.LookUps.{ById, ByToken, IsExpiredAfter}
use Rattle.lw_node.specs.Effects.{Issuer, Effect, Request, Refused, IsNext, Issues, WritesAll, WritesGiven, IsAbout, IsNamed, Changes, NamedChanges, EndsWatch, ReportMeans, Does, MalformedMeans, DatagramMeans, CommandMeans, ObserveMeans, CancelMeans, Expires, SweepsFirst, SweepMeans, observes, ends}
use Rattle.lw_node.specs.Within.{FitsClock, TokenWithin}
use Rattle.lw_node.specs.inner.Within.{IsNextOf}

-- the operation of the effect, if it has one, is the next
abbrev pub NextIn : ℕ → Effect → Type 0
NextIn clock effect = IfSome effect.operation (IsNextOf clock)

all_token : (clock now : ℕ) (source : Addr) (version : Version) (queue : Bool) (settings : Settings) (what : What) → WritesAll now source version queue settings what → TokenWithin clock what
all_token clock now source version queue settings (whats.Register v q address seen s) h = tt
all_token clock now source version queue settings (whats.Update address seen s) h = tt
all_token clock now source version queue settings whats.Remove h = tt
all_token clock now source version queue settings (whats.Observe path accept) h = tt
all_token clock now source version queue settings (whats.Cancel path token) h = absurd h
all_token clock now source version queue settings (whats.Expire upto) h = absurd h

given_token : (clock now : ℕ) (source : Addr) (settings : GivenSettings) (what : What) → WritesGiven now source settings what → TokenWithin clock what
given_token clock now source settings (whats.Register v q address seen s) h = tt
given_token clock now source settings (whats.Update address seen s) h = tt
given_token clock now source settings whats.Remove h = tt
given_token clock now source settings (whats.Observe path accept) h = tt
given_token clock now source settings (whats.Cancel path token) h = absurd h
given_token clock now source settings (whats.Expire upto) h = absurd h

same_operation : (a b : Request) (o p : Op) → ◌≡◌ {A = Result (Request × Op) Refused} (Ok (a, o)) (Ok (b, p)) → p ≡ o
same_operation a b o p e = ap of (sym e)
  where
    of : Result (Request × Op) Refused → Op
    of (Ok x) = x.1
    of (Err refused) = o

module _ (place : Issuer) where
  next_of : (op : Op) → IsNext place op.stamp → op.reg.counter ≤ place.clock + 1 → TokenWithin place.clock op.what → IsNextOf place.clock op
  next_of op next reg token = record { next = next.counter; registration = reg; token = token }

  issues_next : (request : MessageContent) (Do : Op → Type 0) (reply : Op → MessageContent) (effect : Effect) → ((op : Op) → IsNext place op.stamp → Do op → IsNextOf place.clock op) → Issues place request Do reply effect → NextIn place.clock effect
  issues_next request Do reply effect next (inl x) = subst (NextIn place.clock) (sym x.1) tt
  issues_next request Do reply effect next (inr x) = subst (NextIn place.clock) (sym x.3) (next x.0 x.1 x.2)

  module _ (state : State) (fits : FitsClock place.clock state) where
    shown_id : (r : Registration) → IsShown (shown_in state) place.now r → r.id.counter ≤ place.clock
    shown_id r shown = (fits _ shown.registered.complete.current.member).0

    live_token : (r : Registration) (w : Watch) → IsLive (shown_in state) place.now r w → w.token.counter ≤ place.clock
    live_token r w live = (fits _ live.watched.member).1

    about_next : (r : Registration) → IsShown (shown_in state) place.now r → (op : Op) → IsNext place op.stamp → IsAbout r op → TokenWithin place.clock op.what → IsNextOf place.clock op
    about_next r shown op next about token =
        let id : op.reg ≡ r.id = about.registration in
        let le : op.reg.counter ≤ place.clock = subst (λ (s : Stamp). s.counter ≤ place.clock) (sym id) (shown_id r shown) in
        next_of op next (omega (arith, le)) token

    cancels_next : (x : Registration × Watch) → IsLive (shown_in state) place.now x.0 x.1 → (op : Op) → IsNext place op.stamp → IsAbout x.0 op → op.what ≡ whats.Cancel x.1.path x.1.token → IsNextOf place.clock op
    cancels_next x live op next about what = about_next x.0 live.shown op next about (subst (TokenWithin place.clock) (sym what) (live_token x.0 x.1 live))

    -- ---- a datagram
    named_shown : (id : Option Stamp) (r : Registration) → IsNamed (shown_in state) place.now id (Some r) → IsShown (shown_in state) place.now r
    named_shown None r h = absurd cc
    named_shown (Some id) r h = h.fits.0

    changes_next : (request : MessageContent) (Do : What → Type 0) (code : ℕ) (id : Option Stamp) (effect : Effect) → ((what : What) → Do what → TokenWithin place.clock what) → NamedChanges place (shown_in state) request id Do code effect → NextIn place.clock effect
    changes_next request Do code id effect token h = go h.0 h.1 h.2
      where
        go : (found : Option Registration) → IsNamed (shown_in state) place.now id found → Changes place request Do code found effect → NextIn place.clock effect
        go None named changes = subst (NextIn place.clock) (sym changes) tt
        go (Some r) named changes = issues_next request _ _ effect (λ op next does. about_next r (named_shown id r named) op next does.0 (token op.what does.1)) changes

    ends_next : (report : ReportContent) (x : Registration × Watch) (effect : Effect) → IsLive (shown_in state) place.now x.0 x.1 → EndsWatch place report x effect → NextIn place.clock effect
    ends_next report x effect live (inl h) = subst (NextIn place.clock) (sym h.1) tt
    ends_next report x effect live (inr h) = subst (NextIn place.clock) (sym h.3) (cancels_next x live h.0 h.1 h.2.about h.2.what)

    report_next : (report : ReportContent) (effect : Effect) → ReportMeans place (shown_in state) report effect → NextIn place.clock effect
    report_next report effect (inl h) = subst (NextIn place.clock) (sym h.1) tt
    report_next report effect (inr (x, watched, inl h)) = subst (NextIn place.clock) (sym h.1) tt
    report_next report effect (inr (x, watched, inr h)) = ends_next report x effect watched.2.fits.lives h.1

    does_next : (source : Addr) (m : MessageContent) (asked : Asked) (effect : Effect) → Does place (shown_in state) source m asked effect → NextIn place.clock effect
    does_next source m (Register endpoint version queue settings) effect h =
        issues_next m _ _ effect (λ op next registers. next_of op next (own op next registers.registration) (all_token place.clock place.now source version queue settings op.what registers.writes)) h
      where
        own : (op : Op) → IsNext place op.stamp → op.reg ≡ op.stamp → op.reg.counter ≤ place.clock + 1
        own op next e = let is : op.reg.counter ≡ place.clock + 1 = ap (λ (s : Stamp). s.counter) e ∙ next.counter in omega (arith, is)
    does_next source m (Update id settings) effect h = changes_next m _ 68 id effect (λ what writes. given_token place.clock place.now source settings what writes) h
    does_next source m (Deregister id) effect h = changes_next m _ 66 id effect (λ what removes. subst (TokenWithin place.clock) (sym removes) tt) h
    does_next source m (Report report) effect h = report_next report effect h
    does_next source m Ping effect h = subst (NextIn place.clock) (sym h) tt
    does_next source m (Refuse refusal) effect h = subst (NextIn place.clock) (sym h) tt
    does_next source m Reject effect h = subst (NextIn place.clock) (sym h) tt
    does_next source m Ignore effect h = subst (NextIn place.clock) (sym h) tt

    malformed_next : (bytes : List ℕ) (effect : Effect) → MalformedMeans bytes effect → NextIn place.clock effect
    malformed_next bytes effect (inl h) = subst (NextIn place.clock) (sym h.3) tt
    malformed_next bytes effect (inr h) = subst (NextIn place.clock) (sym h.1) tt

    pub datagram_next : (source : Addr) (bytes : List ℕ) (effect : Effect) → DatagramMeans place (shown_in state) source bytes effect → NextIn place.clock effect
    datagram_next source bytes effect (inl (m, spelled, (asked, means, does))) = does_next source m asked effect does
    datagram_next source bytes effect (inr (fault, first, h)) = malformed_next bytes effect h

    -- ---- a command
    command_next : {X : Type 0} (found : Option X) (of_found : X → Registration) (Do : X → Op → Type 0) (sends : X → Op → Request) (request : Request) (operation : Op) → ((x : X) → found ≡ Some x → (op : Op) → IsNext place op.stamp → IsAbout (of_found x) op → Do x op → IsNextOf place.clock op) → CommandMeans place found of_found Do sends (Ok (request, operation)) → IsNextOf place.clock operation
    command_next None of_found Do sends request operation next h = absurd cc
    command_next (Some x) of_found Do sends request operation next (inl h) = absurd (let e = h.1 in cc)
    command_next (Some x) of_found Do sends request operation next (inr h) = subst (IsNextOf place.clock) (same_operation request (sends x h.0) operation h.0 h.4) (next x refl h.0 h.1 h.2 h.3)

    pub observe_next : (id : Stamp) (path : Path) (accept : Option ℕ) (mid : ℕ) (request : Request) (operation : Op) → ObserveMeans place (shown_in state) id path accept mid (Ok (request, operation)) → IsNextOf place.clock operation
    observe_next id path accept mid request operation h =
        command_next h.0 _ _ (observes mid path accept) request operation
        (λ r is op next about what. about_next r (shown h.0 r is h.1) op next about (subst (TokenWithin place.clock) (sym what) tt)) h.2
      where
        shown : (found : Option Registration) (r : Registration) → found ≡ Some r → ById (shown_in state) place.now id found → IsShown (shown_in state) place.now r
        shown found r is by = (subst (ById (shown_in state) place.now id) is by).fits.0

    pub cancel_next : (token : Stamp) (mid : ℕ) (request : Request) (operation : Op) → CancelMeans place (shown_in state) token mid (Ok (request, operation)) → IsNextOf place.clock operation
    cancel_next token mid request operation h =
        command_next h.0 _ _ (ends mid) request operation
        (λ x is op next about what. cancels_next x (lives h.0 x is h.1) op next about what) h.2
      where
        lives : (found : Option (Registration × Watch)) (x : Registration × Watch) → found ≡ Some x → ByToken (shown_in state) place.now token found → IsLive (shown_in state) place.now x.0 x.1
        lives found x is by = (subst (ByToken (shown_in state) place.now token) is by).fits.lives

    -- ---- a sweep
    expires_next : (r : Registration) (op : Op) → IsNext place op.stamp → IsExpiredAfter (shown_in state) place.now None r → Expires (shown_in state) r op → IsNextOf place.clock op
    expires_next r op next expired expires =
        let id : op.reg ≡ r.id = expires.about.registration in
        let named : r.id.counter ≤ place.clock = (fits _ expired.1.registered.complete.current.member).0 in
        let le : op.reg.counter ≤ place.clock = subst (λ (s : Stamp). s.counter ≤ place.clock) (sym id) named in
        next_of op next (omega (arith, le)) (subst (TokenWithin place.clock) (sym expires.what) (fits _ expires.seen.member).1)

    pub sweep_next : (operation : Op) → SweepMeans place (shown_in state) (Ok (Some operation)) → IsNextOf place.clock operation
    sweep_next operation h = go h.0 h.1 h.2
      where
        go : (found : Option Registration) → IsFirstAnswer (IsExpiredAfter (shown_in state) place.now None) found → SweepsFirst place (shown_in state) found (Ok (Some operation)) → IsNextOf place.clock operation
        go None first h = absurd cc
        go (Some r) first (inl h) = absurd (let e = h.1 in cc)
        go (Some r) first (inr h) = subst (IsNextOf place.clock) (let e = h.3 in cc) (expires_next r h.0 h.1 first.fits h.2)
