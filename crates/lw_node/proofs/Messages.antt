-- What is decided of a message is what it asks for.
use Rattle.std.proofs.Common.{◌≡◌, ℕ, Bool, List, Option, Some, None, refl, sym, subst, inl, inr}
use Rattle.lw_stamp.specs.declared.moment.Moment.{Moment}
use Rattle.lw_stamp.specs.declared.stamp.Stamp.{Stamp}
use Rattle.lw_stamp.specs.Moment.{ms_of}
use Rattle.lw_coap.specs.declared.fault.Fault.{Fault}
use Rattle.lw_coap.specs.Faults.{IsFault}
use Rattle.lw_coap.specs.Message.{MessageContent}
use Rattle.lw_reg.specs.declared.addr.Addr.{Addr}
use Rattle.lw_reg.specs.declared.op.Op.{Op}
use Rattle.lw_reg.specs.declared.op.What.{What}
use Rattle.lw_reg.specs.declared.op.What.TheVariants as whats
use Rattle.lw_reg.specs.declared.settings.GivenSettings.{GivenSettings}
use Rattle.lw_reg.specs.declared.settings.Settings.{Settings}
use Rattle.lw_reg.specs.declared.version.Version.{Version}
use Rattle.lw_reg.specs.Marks.{Marks}
use Rattle.lw_reg.specs.Registration.{Registration}
use Rattle.lw_request.specs.declared.asked.Asked.{Asked}
use Rattle.lw_request.specs.declared.asked.Asked.TheVariants.{Register, Update, Ping, Refuse, Reject}
use Rattle.lw_request.specs.declared.refusal.Refusal.{Refusal}
use Rattle.lw_request.specs.Meaning.{Means}
use Rattle.lw_request.specs.Reply.{reset_of, code_of}
use Rattle.lw_node.specs.Calls.{IsReply}
use Rattle.lw_node.specs.inner.Calls.{DecisionContent, Decides, RepliesMalformed}
use Rattle.lw_node.specs.Effects.{Issuer, Effect, answers, rejected, created, answered, Issues, Registers, WritesAll, WritesGiven, Changes, NamedChanges, IsAbout, Does, MessageMeans, DatagramMeans}
use Rattle.lw_node.proofs.Deciding.{decides_as, decides_reply, replying}

issues_as : (place : Issuer) (m : MessageContent) (reply : Op → MessageContent) (P Q : Op → Type 0) (e : Effect) → ((op : Op) → P op → Q op)
    → Issues place m P reply e → Issues place m Q reply e
issues_as place m reply P Q e f h = elim h [ inl end ↦ inl end | inr x ↦ inr (x.0, x.1, f x.0 x.2, x.3) ]

changes_as : (place : Issuer) (m : MessageContent) (P Q : What → Type 0) (code : ℕ) (found : Option Registration) (e : Effect) → ((w : What) → P w → Q w)
    → Changes place m P code found e → Changes place m Q code found e
changes_as place m P Q code None e f h = h
changes_as place m P Q code (Some r) e f h =
    issues_as place m (answered m code) (λ op. IsAbout r op × P op.what) (λ op. IsAbout r op × Q op.what) e (λ op x. (x.0, f op.what x.1)) h

module _ (place : Issuer) (M : Marks) (source : Addr) (m : MessageContent) (asked : Asked) (means : Means m asked) (d : DecisionContent) where
  -- what a message asks for is decided
  decides_asked : (wanted : Asked) → asked ≡ wanted → Decides (Does place M source m wanted) d → Decides (MessageMeans place M source m) d
  decides_asked wanted is h =
      decides_as (Does place M source m wanted) (MessageMeans place M source m) d (λ e does. (wanted, subst (Means m) is means, does)) h

  pub decides_register : (endpoint : List ℕ) (v : Version) (q : Bool) (seen : Moment) (settings : Settings)
      → asked ≡ Register endpoint v q settings → ms_of seen ≡ place.now
      → Decides (Issues place m (λ op. (op.endpoint ≡ endpoint) × (op.reg ≡ op.stamp) × (op.what ≡ whats.Register v q source seen settings)) (created m)) d
      → Decides (MessageMeans place M source m) d
  decides_register endpoint v q seen settings is now h =
      let P : Op → Type 0 = λ op. (op.endpoint ≡ endpoint) × (op.reg ≡ op.stamp) × (op.what ≡ whats.Register v q source seen settings) in
      let Q : Op → Type 0 = Registers place.now source endpoint v q settings in
      decides_asked (Register endpoint v q settings) is
      (decides_as (Issues place m P (created m)) (Issues place m Q (created m)) d
      (λ e issues. issues_as place m (created m) P Q e
      (λ op x. record { endpoint_is = x.0; registration = x.1; writes = subst (WritesAll place.now source v q settings) (sym x.2) (refl, refl, refl, now, refl) })
      issues)
      h)

  pub decides_update : (id : Option Stamp) (seen : Moment) (settings : GivenSettings)
      → asked ≡ Update id settings → ms_of seen ≡ place.now
      → Decides (NamedChanges place M m id (λ w. w ≡ whats.Update source seen settings) 68) d
      → Decides (MessageMeans place M source m) d
  decides_update id seen settings is now h =
      let P : What → Type 0 = λ w. w ≡ whats.Update source seen settings in
      let Q : What → Type 0 = WritesGiven place.now source settings in
      decides_asked (Update id settings) is
      (decides_as (NamedChanges place M m id P 68) (NamedChanges place M m id Q 68) d
      (λ e x. (x.0, x.1, changes_as place m P Q 68 x.0 e (λ w same. subst Q (sym same) (refl, now, refl)) x.2))
      h)

  module _ (bytes : Option (List ℕ)) (same : d ≡ replying bytes) where
    pub decides_ping : (own : MessageContent) → own ≡ m → asked ≡ Ping → IsReply bytes (Some (reset_of own.mid)) → Decides (MessageMeans place M source m) d
    decides_ping own own_is is replied =
        decides_asked Ping is (decides_reply (Does place M source m Ping) d bytes (Some (reset_of m.mid)) refl
        (subst (λ (m : MessageContent). IsReply bytes (Some (reset_of m.mid))) own_is replied) same)

    pub decides_refusal : (refusal : Refusal) (code : ℕ) → asked ≡ Refuse refusal → code ≡ code_of refusal → IsReply bytes (Some (answers m code None))
        → Decides (MessageMeans place M source m) d
    decides_refusal refusal code is code_is replied =
        decides_asked (Refuse refusal) is (decides_reply (Does place M source m (Refuse refusal)) d bytes (Some (answers m (code_of refusal) None)) refl
        (subst (λ (code : ℕ). IsReply bytes (Some (answers m code None))) code_is replied) same)

    pub decides_reject : (own : MessageContent) → own ≡ m → asked ≡ Reject → IsReply bytes (rejected own.kind own.mid) → Decides (MessageMeans place M source m) d
    decides_reject own own_is is replied =
        decides_asked Reject is (decides_reply (Does place M source m Reject) d bytes (rejected m.kind m.mid) refl
        (subst (λ (m : MessageContent). IsReply bytes (rejected m.kind m.mid)) own_is replied) same)

-- ---- bytes that spell no message
pub decides_malformed : (place : Issuer) (M : Marks) (source : Addr) (bytes : List ℕ) (fault : Fault) (reply : Option (List ℕ)) (d : DecisionContent)
    → IsFault bytes fault → RepliesMalformed bytes reply → d ≡ replying reply → Decides (DatagramMeans place M source bytes) d
decides_malformed place M source bytes fault reply d is h same =
    decides_reply (DatagramMeans place M source bytes) d reply h.message (inr (fault, is, h.meant)) h.replied same
