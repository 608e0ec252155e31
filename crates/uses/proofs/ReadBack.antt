-- What a Register has written is found at its moment.
use Rattle.std.proofs.Common.{◌≡◌, ◌≢◌, ◌⊎◌, inl, inr, ℕ, ◌+◌, ◌-◌, ◌^◌, Bool, List, [], ◌∷◌, Option, Some, None, sym, refl, ap, ◌∙◌, subst}
use Rattle.lw_stamp.specs.declared.moment.Moment.{Moment}
use Rattle.lw_stamp.specs.declared.stamp.Stamp.{Stamp}
use Rattle.lw_stamp.specs.Moment.{ms_of}
use Rattle.lw_stamp.specs.TextOrder.{text_cmp}
use Rattle.lw_coap.specs.declared.fault.Fault.{Fault}
use Rattle.lw_coap.specs.declared.message.Kind.{Kind}
use Rattle.lw_coap.specs.declared.message.Kind.TheVariants.{Con, Non, Ack, Rst}
use Rattle.lw_coap.specs.Faults.{IsFault}
use Rattle.lw_coap.specs.Grammar.{IsSpelling}
use Rattle.lw_coap.specs.Message.{MessageContent}
use Rattle.lw_coap.proofs.Messages.{one_message, never_both}
use Rattle.lw_join.specs.Entries.{Rises}
use Rattle.lw_reg.specs.declared.addr.Addr.{Addr}
use Rattle.lw_reg.specs.declared.op.Op.{Op}
use Rattle.lw_reg.specs.declared.op.What.{What}
use Rattle.lw_reg.specs.declared.op.What.TheVariants as whats
use Rattle.lw_reg.specs.declared.settings.Settings.{Settings}
use Rattle.lw_reg.specs.declared.version.Version.{Version}
use Rattle.lw_reg.specs.Reading.{shown_in}
use Rattle.lw_reg.specs.Registration.{Registration}
use Rattle.lw_reg.specs.Showing.{ShownOf}
use Rattle.lw_request.specs.declared.asked.Asked.{Asked}
use Rattle.lw_request.specs.declared.asked.Asked.TheVariants as asks
use Rattle.lw_request.specs.declared.role.Role.{Role}
use Rattle.lw_request.specs.declared.role.Role.TheVariants as roles
use Rattle.lw_request.specs.Meaning.{Asks, Means, MeansBy, RoleMeans, refused, role_of}
use Rattle.lw_request.specs.Steps.{Step, steps}
use Rattle.lw_request.specs.Steps.Step.{Proxied, UnrecognisedOption, UnknownPath, WrongMethod, WrongFormat, BadQuery, OtherVersion, TooManyLinks, NoLinks}
use Rattle.lw_request.proofs.OneMeaning.{one_meaning}
use Rattle.lw_call.specs.declared.answer.Answer.{Answer}
use Rattle.lw_call.specs.declared.answer.Answer.TheVariants as found
use Rattle.lw_call.specs.declared.question.Question.TheVariants.{ByEndpoint}
use Rattle.lw_call.specs.Contents.{TakenContent}
use Rattle.lw_node.specs.Calls.{IsReply, Takes, issuer_at}
use Rattle.lw_node.specs.Effects.{Effect, Does, MessageMeans, DatagramMeans, Registers, IsAtEnd, IsNext, WritesAll, answers, created}
use Rattle.lw_node.specs.Laws.{AttributesRise, Follows, registered}
use Rattle.lw_node.specs.Node.{NodeContent, Leaves, Issued}
use Rattle.lw_node.specs.Within.{FitsClock}
use Rattle.lw_node.proofs.OneAnswer.{answer_one}
use Rattle.lw_node.proofs.ReadBack.{registers_read_back}
use Rattle.uses.specs.Finding.{Register, IsRegister, IsFound}

-- ---- the attributes of a Register rise
abbrev is_register : Asked → Type 0
is_register (asks.Register endpoint version queue settings) = Unit {0}
is_register _ = ⊥

not_refused : (step : Step) (kind : Kind) → is_register (refused step kind) → ⊥
not_refused UnrecognisedOption Con h = h
not_refused UnrecognisedOption Non h = h
not_refused UnrecognisedOption Ack h = h
not_refused UnrecognisedOption Rst h = h
not_refused Proxied kind h = h
not_refused UnknownPath kind h = h
not_refused WrongMethod kind h = h
not_refused WrongFormat kind h = h
not_refused BadQuery kind h = h
not_refused OtherVersion kind h = h
not_refused TooManyLinks kind h = h
not_refused NoLinks kind h = h

-- no step refuses what asks for a registration
asks_by : (list : List Step) (m : MessageContent) (asked : Asked) → is_register asked → MeansBy list m asked → Asks m asked
asks_by [] m asked is h = h
asks_by (step ∷ list) m asked is (inl h) = absurd (not_refused step m.kind (subst is_register h.1 is))
asks_by (step ∷ list) m asked is (inr h) = asks_by list m asked is h.1

-- another role than that of a request has no such meaning
no_role : (asked other : Asked) → is_register asked → asked ≡ other → is_register other
no_role asked other is same = subst is_register same is

asks_in : (role : Role) (m : MessageContent) (asked : Asked) → is_register asked → RoleMeans role m asked → Asks m asked
asks_in roles.Ignored m asked is h = absurd (no_role asked _ is h)
asks_in roles.Ping m asked is h = absurd (no_role asked _ is h)
asks_in roles.Request m asked is h = asks_by steps m asked is h
asks_in roles.Response m asked is (inl h) = absurd (no_role asked _ is h.1)
asks_in roles.Response m asked is (inr h) = absurd (no_role asked _ is h.1)
asks_in roles.Reserved m asked is h = absurd (no_role asked _ is h)

attributes_rise : (m : MessageContent) (endpoint : List ℕ) (version : Version) (queue : Bool) (settings : Settings) → Means m (asks.Register endpoint version queue settings) → Rises text_cmp settings.attributes
attributes_rise m endpoint version queue settings means = (asks_in (role_of m.kind m.code) m (asks.Register endpoint version queue settings) tt means).attributes_are.rise

-- ---- what is written
what_is : (now : ℕ) (source : Addr) (version : Version) (queue : Bool) (settings : Settings) (what : What) → WritesAll now source version queue settings what
    → (seen : Moment) × (ms_of seen ≡ now) × (what ≡ whats.Register version queue source seen settings)
what_is now source version queue settings (whats.Register v q address seen s) h = (seen, h.3, λ i. whats.Register (h.0 i) (h.1 i) (h.2 i) seen (h.4 i))
what_is now source version queue settings _ h = absurd h

shown_one : (node : NodeContent) (now : ℕ) (endpoint : List ℕ) (a b : Option Registration) → ShownOf (shown_in node.table.state) now endpoint a → ShownOf (shown_in node.table.state) now endpoint b → a ≡ b
shown_one node now endpoint a b h g = ap of (answer_one node (shown_in node.table.state) now (ByEndpoint endpoint) (found.Registration a) (found.Registration b) h g)
  where
    of : Answer → Option Registration
    of (found.Registration r) = r
    of _ = a

module _ (old new : NodeContent) (r : Register) (now : ℕ) (source : Addr) (bytes endpoint : List ℕ) (is : IsRegister bytes endpoint r) (left : old.clock ≢ 2 ^ 48 - 1) (fits : FitsClock old.clock old.table.state) where
  -- the operation is read back
  issued : (reply : Option (List ℕ)) (shown : Option Registration) (op : Op) → IsNext (issuer_at old now) op.stamp → Registers now source endpoint r.version r.queue r.settings op → Issued old op new
      → IsReply reply (Some (created r.message op)) → ShownOf (shown_in new.table.state) now endpoint shown → IsFound r now source endpoint reply shown
  issued reply shown op next registers after replied looked =
      let w = what_is now source r.version r.queue r.settings op.what registers.writes in
      let what = whats.Register r.version r.queue source w.0 r.settings in
      let same : registered op.endpoint op.stamp op.what ≡ registered endpoint op.stamp what = λ i. registered (registers.endpoint_is i) op.stamp (w.2 i) in
      let rise : AttributesRise op.what = subst AttributesRise (sym w.2) (attributes_rise r.message endpoint r.version r.queue r.settings is.means) in
      let follows : Follows old op new = record { fits = fits; next = next.counter; issued = after } in
      let back : ShownOf (shown_in new.table.state) (ms_of w.0) op.endpoint (registered endpoint op.stamp what) = registers_read_back old new op follows rise registers.registration _ same in
      record {
        id = op.stamp;
        seen = w.0;
        now_is = w.1;
        replied = replied;
        shown_is = shown_one new now endpoint shown (registered endpoint op.stamp what) looked (subst (λ (n : ℕ). ShownOf (shown_in new.table.state) n endpoint (registered endpoint op.stamp what)) w.1 (subst (λ (e : List ℕ). ShownOf (shown_in new.table.state) (ms_of w.0) e (registered endpoint op.stamp what)) registers.endpoint_is back));
      }

  -- the effect is that of the operation
  of_effect : (taken : TakenContent) (shown : Option Registration) (reply : Option MessageContent) (operation : Option Op)
      → (op : Op) → IsNext (issuer_at old now) op.stamp → Registers now source endpoint r.version r.queue r.settings op
      → ◌≡◌ {A = Effect} (record { reply = reply; notice = taken.notice; operation = operation }) (record { reply = Some (created r.message op); notice = None; operation = Some op })
      → IsReply taken.reply reply → Leaves old operation new → ShownOf (shown_in new.table.state) now endpoint shown → IsFound r now source endpoint taken.reply shown
  of_effect taken shown reply operation op next registers same replied after looked =
      issued taken.reply shown op next registers
      (subst (λ (o : Option Op). Leaves old o new) (ap (λ (e : Effect). e.operation) same) after)
      (subst (IsReply taken.reply) (ap (λ (e : Effect). e.reply) same) replied)
      looked

  of_does : (taken : TakenContent) (shown : Option Registration) (reply : Option MessageContent) (operation : Option Op)
      → Does (issuer_at old now) (shown_in old.table.state) source r.message (asks.Register endpoint r.version r.queue r.settings) (record { reply = reply; notice = taken.notice; operation = operation })
      → IsReply taken.reply reply → Leaves old operation new → ShownOf (shown_in new.table.state) now endpoint shown → IsFound r now source endpoint taken.reply shown
  of_does taken shown reply operation (inl h) replied after looked = absurd (left h.0)
  of_does taken shown reply operation (inr h) replied after looked = of_effect taken shown reply operation h.0 h.1 h.2 h.3 replied after looked

  -- the message that the bytes spell is the Register's, and so is what it means
  of_message : (m : MessageContent) (asked : Asked) (effect : Effect) → IsSpelling bytes m → Means m asked → Does (issuer_at old now) (shown_in old.table.state) source m asked effect
      → Does (issuer_at old now) (shown_in old.table.state) source r.message (asks.Register endpoint r.version r.queue r.settings) effect
  of_message m asked effect spelled means does =
      let same : m ≡ r.message = one_message bytes m r.message spelled is.spelled in
      let meant : asked ≡ asks.Register endpoint r.version r.queue r.settings = one_meaning r.message asked (asks.Register endpoint r.version r.queue r.settings) (subst (λ (x : MessageContent). Means x asked) same means) is.means in
      subst (λ (a : Asked). Does (issuer_at old now) (shown_in old.table.state) source r.message a effect) meant
      (subst (λ (x : MessageContent). Does (issuer_at old now) (shown_in old.table.state) source x asked effect) same does)

  of_datagram : (effect : Effect) → DatagramMeans (issuer_at old now) (shown_in old.table.state) source bytes effect
      → Does (issuer_at old now) (shown_in old.table.state) source r.message (asks.Register endpoint r.version r.queue r.settings) effect
  of_datagram effect (inl h) = of_message h.0 h.2.0 effect h.1 h.2.1 h.2.2
  of_datagram effect (inr h) = absurd (never_both bytes r.message h.0 is.spelled h.1)

  pub is_found : (taken : TakenContent) (shown : Option Registration) → Takes old (shown_in old.table.state) now source bytes taken new → ShownOf (shown_in new.table.state) now endpoint shown
      → IsFound r now source endpoint taken.reply shown
  is_found taken shown takes looked =
      of_does taken shown takes.reply takes.operation
      (of_datagram (record { reply = takes.reply; notice = taken.notice; operation = takes.operation }) takes.meant)
      takes.replied takes.left looked
