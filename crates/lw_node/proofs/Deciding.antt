-- What is decided is what is meant: of requests, and of reports.
use Rattle.std.proofs.Common.{◌≡◌, ℕ, List, Option, Some, None, Result, Ok, Err, true, false, refl, sym, ap, ◌∙◌, subst, inl, inr}
use Rattle.std.specs.Prelude.{IfOk, IfSome, IfNone}
use Rattle.lw_stamp.specs.declared.stamp.Stamp.{Stamp}
use Rattle.lw_stamp.specs.Stamp.{stamp_bytes}
use Rattle.lw_stamp.proofs.StampLemmas.{one_of_bytes}
use Rattle.lw_coap.specs.Message.{MessageContent}
use Rattle.lw_reg.specs.declared.op.Op.{Op}
use Rattle.lw_reg.specs.declared.op.What.{What}
use Rattle.lw_reg.specs.declared.watch.Watch.{Watch}
use Rattle.lw_reg.specs.Marks.{Mark, Marks, NamesAll, among}
use Rattle.lw_reg.specs.Reading.{shown_in}
use Rattle.lw_reg.specs.Registration.{Registration}
use Rattle.lw_reg.specs.State.{State, IsStateOf}
use Rattle.lw_request.specs.Report.{ReportContent}
use Rattle.lw_table.specs.LookUps.{ByToken}
use Rattle.lw_call.specs.Contents.{NoticeContent}
use Rattle.lw_node.specs.Calls.{IsReply}
use Rattle.lw_node.specs.inner.Calls.{DecisionContent, Decides}
use Rattle.lw_node.specs.Effects.{Issuer, Effect, answers, rejected, acknowledged, unwanted, IsAtEnd, IsNext, Issues, IsNamed, NamedChanges, IsAbout, answered, IsWatched, notice_of, GoesOn, Cancels, EndsWatch, ReportMeans}
use Rattle.lw_node.specs.Node.{Known, IsKnown, marks_in}
use Rattle.lw_node.specs.Node.Known.{Shown, Told}

-- ---- in general
pub if_ok : {T E : Type 0} (P Q : T → Type 0) (r : Result T E) → ((x : T) → P x → Q x) → IfOk r P → IfOk r Q
if_ok P Q (Ok x) f h = f x h
if_ok P Q (Err e) f h = tt

pub decides_as : (P Q : Effect → Type 0) (d : DecisionContent) → ((e : Effect) → P e → Q e) → Decides P d → Decides Q d
decides_as P Q d f h = record { reply = h.reply; meant = f _ h.meant; replied = h.replied }

abbrev pub replying : Option (List ℕ) → DecisionContent
replying bytes = record { reply = bytes; notice = None; operation = None }

-- nothing but a reply is decided
pub decides_reply : (P : Effect → Type 0) (d : DecisionContent) (bytes : Option (List ℕ)) (reply : Option MessageContent)
    → P (record { reply = reply; notice = None; operation = None }) → IsReply bytes reply → d ≡ replying bytes → Decides P d
decides_reply P d bytes reply meant replied same =
    subst (Decides P) (sym same) (record { reply = reply; meant = meant; replied = replied })

-- ---- requests
module _ (place : Issuer) (request : MessageContent) (Does : Op → Type 0) (reply : Op → MessageContent) where
  pub decides_at_end : (d : DecisionContent) (bytes : Option (List ℕ)) → IsAtEnd place → IsReply bytes (Some (answers request 163 None)) → d ≡ replying bytes
      → Decides (Issues place request Does reply) d
  decides_at_end d bytes end replied same =
      decides_reply (Issues place request Does reply) d bytes (Some (answers request 163 None)) (inl (end, refl)) replied same

  pub decides_issue : (bytes : Option (List ℕ)) (op : Op) → IsNext place op.stamp → Does op → IsReply bytes (Some (reply op))
      → Decides (Issues place request Does reply) (record { reply = bytes; notice = None; operation = Some op })
  decides_issue bytes op next does replied = record { reply = Some (reply op); meant = inr (op, next, does, refl); replied = replied }

  pub decides_operation : (d : DecisionContent) (op : Op) → IsNext place op.stamp → Does op → IsReply d.reply (Some (reply op))
      → d ≡ record { reply = d.reply; notice = None; operation = Some op } → Decides (Issues place request Does reply) d
  decides_operation d op next does replied same = subst (Decides (Issues place request Does reply)) (sym same) (decides_issue d.reply op next does replied)

module _ (place : Issuer) (M : Marks) (request : MessageContent) (id : Option Stamp) (Does : What → Type 0) (code : ℕ) where
  pub decides_unnamed : (d : DecisionContent) (bytes : Option (List ℕ)) → IsNamed M place.now id None → IsReply bytes (Some (answers request 132 None)) → d ≡ replying bytes
      → Decides (NamedChanges place M request id Does code) d
  decides_unnamed d bytes named replied same =
      decides_reply (NamedChanges place M request id Does code) d bytes (Some (answers request 132 None)) (None, named, refl) replied same

  pub decides_named : (r : Registration) (d : DecisionContent) → IsNamed M place.now id (Some r)
      → Decides (Issues place request (λ op. IsAbout r op × Does op.what) (answered request code)) d
      → Decides (NamedChanges place M request id Does code) d
  decides_named r d named h =
      decides_as (Issues place request (λ op. IsAbout r op × Does op.what) (answered request code)) (NamedChanges place M request id Does code) d (λ e issues. (Some r, named, issues)) h

-- ---- the watch with a token
token_known : (state : State) (now : ℕ) (stamp : Stamp) (found : Option (Registration × Watch)) → ByToken (shown_in state) now stamp found
    → ((ms : List Mark) → NamesAll (among ms) → IsStateOf ms state → ByToken (among ms) now stamp found)
    → (known : Known) → IsKnown state known → ByToken (marks_in state known) now stamp found
token_known state now stamp found read marks Shown h = read
token_known state now stamp found read marks (Told ms) h = marks ms h.0 h.1

pub found_known : (own state : State) (now : ℕ) (stamp : Stamp) (found : Option (Registration × Watch)) → own ≡ state → ByToken (shown_in own) now stamp found
    → ((ms : List Mark) → NamesAll (among ms) → IsStateOf ms own → ByToken (among ms) now stamp found)
    → (known : Known) → IsKnown state known → ByToken (marks_in state known) now stamp found
found_known own state now stamp found same read marks =
    subst (λ (s : State). (known : Known) → IsKnown s known → ByToken (marks_in s known) now stamp found) same (token_known own now stamp found read marks)

pub watched_some : (state : State) (now : ℕ) (token : List ℕ) (stamp : Stamp) (found : Option (Registration × Watch)) → token ≡ stamp_bytes stamp
    → ((known : Known) → IsKnown state known → ByToken (marks_in state known) now stamp found)
    → IfSome found (λ x. (known : Known) → IsKnown state known → IsWatched (marks_in state known) now token x)
watched_some state now token stamp None same by = tt
watched_some state now token stamp (Some x) same by = λ known h. (stamp, same, by known h)

pub watched_none : (state : State) (now : ℕ) (token : List ℕ) (stamp : Stamp) (found : Option (Registration × Watch)) → token ≡ stamp_bytes stamp
    → ((known : Known) → IsKnown state known → ByToken (marks_in state known) now stamp found)
    → IfNone found ((known : Known) → IsKnown state known → (x : Registration × Watch) → ¬ IsWatched (marks_in state known) now token x)
watched_none state now token stamp (Some x) same by = tt
watched_none state now token stamp None same by = λ known h x w.
    by known h x (subst (λ (s : Stamp). ByToken (marks_in state known) now s (Some x)) (one_of_bytes w.0 stamp (sym w.1 ∙ same)) w.2).fits

-- ---- reports
module _ (place : Issuer) (report : ReportContent) (x : Registration × Watch) where
  pub decides_end_refused : (own : ReportContent) (d : DecisionContent) (bytes : Option (List ℕ)) → own ≡ report → IsAtEnd place
      → IsReply bytes (rejected own.kind own.mid) → d ≡ replying bytes → Decides (EndsWatch place report x) d
  decides_end_refused own d bytes is end replied same =
      decides_reply (EndsWatch place report x) d bytes (rejected report.kind report.mid) (inl (end, refl))
      (subst (λ (r : ReportContent). IsReply bytes (rejected r.kind r.mid)) is replied) same

  pub decides_end : (own : ReportContent) (bytes : Option (List ℕ)) (notice : NoticeContent) (op : Op) → own ≡ report → IsNext place op.stamp → Cancels x op
      → notice ≡ notice_of report x true → IsReply bytes (acknowledged own.kind own.mid)
      → Decides (EndsWatch place report x) (record { reply = bytes; notice = Some notice; operation = Some op })
  decides_end own bytes notice op is next cancels same replied = record {
    reply = acknowledged report.kind report.mid;
    meant = inr (op, next, cancels, ap (λ (n : NoticeContent). record { reply = acknowledged report.kind report.mid; notice = Some n; operation = Some op }) same);
    replied = subst (λ (r : ReportContent). IsReply bytes (acknowledged r.kind r.mid)) is replied;
  }

module _ (place : Issuer) (M : Marks) (report own : ReportContent) (is : own ≡ report) where
  pub decides_unwatched : (d : DecisionContent) (bytes : Option (List ℕ)) (token : List ℕ) → token ≡ own.token
      → ((x : Registration × Watch) → ¬ IsWatched M place.now token x) → IsReply bytes (unwanted own.kind own.mid) → d ≡ replying bytes
      → Decides (ReportMeans place M report) d
  decides_unwatched d bytes token token_is none replied same =
      decides_reply (ReportMeans place M report) d bytes (unwanted report.kind report.mid)
      (inl (subst (λ (t : List ℕ). (x : Registration × Watch) → ¬ IsWatched M place.now t x) (token_is ∙ ap (λ (r : ReportContent). r.token) is) none, refl))
      (subst (λ (r : ReportContent). IsReply bytes (unwanted r.kind r.mid)) is replied) same

  module _ (x : Registration × Watch) (token : List ℕ) (token_is : token ≡ own.token) (watched : IsWatched M place.now token x) where
    watched_here : IsWatched M place.now report.token x
    watched_here = subst (λ (t : List ℕ). IsWatched M place.now t x) (token_is ∙ ap (λ (r : ReportContent). r.token) is) watched

    pub decides_told : (bytes : Option (List ℕ)) (notice : NoticeContent) → GoesOn report → notice ≡ notice_of report x false → IsReply bytes (acknowledged own.kind own.mid)
        → Decides (ReportMeans place M report) (record { reply = bytes; notice = Some notice; operation = None })
    decides_told bytes notice goes same replied = record {
      reply = acknowledged report.kind report.mid;
      meant = inr (x, watched_here, inl (goes, ap (λ (n : NoticeContent). record { reply = acknowledged report.kind report.mid; notice = Some n; operation = None }) same));
      replied = subst (λ (r : ReportContent). IsReply bytes (acknowledged r.kind r.mid)) is replied;
    }

    pub decides_ended : (d : DecisionContent) → (GoesOn report → ⊥) → Decides (EndsWatch place report x) d → Decides (ReportMeans place M report) d
    decides_ended d ends h =
        decides_as (EndsWatch place report x) (ReportMeans place M report) d (λ e means. inr (x, watched_here, inr (ends, means))) h
