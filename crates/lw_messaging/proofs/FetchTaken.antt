-- What it means that a datagram that may be of a fetch is taken.
use Rattle.std.proofs.Common.{◌≡◌, ℕ, List, [], ◌∷◌, Bool, true, false, cond, eqb, ◌&&◌, sym, subst, refl, ap, ◌∙◌}
use Rattle.std.specs.Prelude.{◌↔◌, find, is_some, Option, Some, None, Result, Ok, Err, IfOk}
use Rattle.std.proofs.lemmas.Bool.{eqb-true}
use Rattle.std.specs.declared.alloc.Global.{Global}
use Rattle.std.specs.declared.vec.Vec.{Vec}
use Rattle.lw_stamp.specs.declared.stamp.Stamp.{Stamp}
use Rattle.lw_stamp.specs.Stamp.{stamp_bytes}
use Rattle.lw_stamp.specs.declared.no_memory.NoMemory.{NoMemory}
use Rattle.lw_coap.specs.Message.{MessageContent}
use Rattle.lw_coap.specs.Grammar.{IsSpelling}
use Rattle.lw_coap.proofs.Messages.{one_message}
use Rattle.lw_reg.specs.declared.addr.Addr.{Addr}
use Rattle.lw_reg.specs.declared.watch.Watch.{Watch}
use Rattle.lw_messaging.specs.declared.parcel.Parcel.{Parcel}
use Rattle.lw_messaging.specs.declared.parcel.Parcel.TheVariants.{Through, Taken}
use Rattle.lw_messaging.specs.declared.fetch_changes.Change.{Change}
use Rattle.lw_messaging.specs.declared.fetch_changes.Change.TheVariants as changes
use Rattle.lw_messaging.specs.FetchMessages.{carries, is_response_code, is_response, is_content, is_in_blocks}
use Rattle.lw_messaging.specs.FetchMessages.{block2_in, has_token_of, IsTokenInBlocks, acknowledgement_of}
use Rattle.lw_messaging.specs.Fetches.{FetchContent, FetchesContent, IsKept, Outcome, Passes, Begins, is_answered}
use Rattle.lw_messaging.specs.Fetches.{answered_by, answered, block_of, notified_by, outcome, IsDone, IsTaken}
use Rattle.lw_messaging.specs.Fetches.{has_number, others, IsSent, request_of, IsCutOf, IsCut}
use Rattle.lw_messaging.specs.inner.Fetches.{changed, IsDecided}
use Rattle.lw_messaging.specs.inner.Responses.{may_respond}
use Rattle.lw_messaging.proofs.FetchLemmas.{by_change}

-- ---- what is no response
not_both : {A : Type 0} (b : Bool) → b ≡ true → b ≡ false → A
not_both b t f = absurd (cc)

and_false : (a b : Bool) → b ≡ false → (a && b) ≡ false
and_false true b h = h
and_false false b h = refl

no_content_by : (b : Bool) (code : ℕ) → eqb code 0x45 ≡ b → is_response_code code ≡ false → b ≡ false
no_content_by true code e h =
    let one : is_response_code code ≡ true = ap is_response_code (eqb-true code 0x45 e) in absurd (cc)
no_content_by false code e h = refl

no_content : (message : MessageContent) → is_response_code message.code ≡ false → is_content message ≡ false
no_content message h =
    and_false (carries message.kind) (eqb message.code 0x45)
    (no_content_by (eqb message.code 0x45) message.code refl h)

passes_on : (old : FetchesContent) (now : ℕ) (from : Addr) (message : MessageContent)
    → is_response_code message.code ≡ false → answered old.fetches now from message ≡ Passes
passes_on old now from message h =
    let none : is_response message ≡ false = and_false (carries message.kind) (is_response_code message.code) h in
    ap (λ (b : Bool). cond b (answered_by now message (find (is_answered now from message.token) old.fetches)) Passes)
    none

passes : (old : FetchesContent) (now : ℕ) (from : Addr) (watch : Option Watch) (message : MessageContent)
    → is_response_code message.code ≡ false → outcome old now from watch message ≡ Passes
passes old now from None message h = passes_on old now from message h
passes old now from (Some watch) message h =
    let none : block_of watch message ≡ None =
    ap (λ (b : Bool). cond (b && has_token_of watch message) (block2_in message.options) None) (no_content message h) in
    ap (λ (o : Option ℕ). notified_by old now from watch message o) none ∙ passes_on old now from message h

code_is : (bytes : List ℕ) (message : MessageContent) → IsSpelling bytes message
    → may_respond bytes ≡ is_response_code message.code
code_is bytes message spelled = ap may_respond spelled.header.bytes_are

pub passed_unread : (old : FetchesContent) (now : ℕ) (from : Addr) (watch : Option Watch) (bytes : List ℕ)
    → may_respond bytes ≡ false → IsTaken old now from watch bytes Through old
passed_unread old now from watch bytes h = record {
  no_message = λ g. (tt, refl);
  message = λ m s. subst (λ (o : Outcome). IsDone old (acknowledgement_of m) o Through old)
      (sym (passes old now from watch m (sym (code_is bytes m s) ∙ h))) (tt, refl);
}

pub token_unread : (bytes : List ℕ) → may_respond bytes ≡ false → IsTokenInBlocks bytes None
token_unread bytes h = record {
  no_message = λ g. refl;
  message = λ m s stamp.
      let none : is_content m ≡ false = no_content m (sym (code_is bytes m s) ∙ h) in
      let never : is_in_blocks m ≡ false = ap (λ (b : Bool). b && is_some (block2_in m.options)) none in
      (λ e. absurd (cc), λ p. not_both (is_in_blocks m) p.0 never);
}

-- ---- tokens
pub no_token : (bytes : List ℕ) → ((m : MessageContent) → IsSpelling bytes m → ⊥) → IsTokenInBlocks bytes None
no_token bytes never = record { no_message = λ h. refl; message = λ m s. absurd (never m s) }

pub token_read : (bytes : List ℕ) (message : MessageContent) (token : Option Stamp) → IsSpelling bytes message
    → ((stamp : Stamp) → (token ≡ Some stamp) ↔ ((is_in_blocks message ≡ true) × (stamp_bytes stamp ≡ message.token)))
    → IsTokenInBlocks bytes token
token_read bytes message token spelled is = record {
  no_message = λ h. absurd (h message spelled);
  message = λ m s stamp. subst (λ (x : MessageContent). (token ≡ Some stamp)
      ↔ ((is_in_blocks x ≡ true) × (stamp_bytes stamp ≡ x.token))) (one_message bytes message m spelled s) (is stamp);
}

-- ---- datagrams
pub passed_by : (old : FetchesContent) (now : ℕ) (from : Addr) (watch : Option Watch) (bytes : List ℕ)
    → ((m : MessageContent) → IsSpelling bytes m → ⊥) → IsTaken old now from watch bytes Through old
passed_by old now from watch bytes h = record { no_message = λ g. (tt, refl); message = λ m s. absurd (h m s) }

pub taken_so : (old new : FetchesContent) (now : ℕ) (from : Addr) (watch : Option Watch) (bytes : List ℕ)
    (message : MessageContent) (result : Result Parcel NoMemory) → IsSpelling bytes message
    → IfOk result (λ parcel. IsDone old (acknowledgement_of message) (outcome old now from watch message) parcel new)
    → IfOk result (λ parcel. IsTaken old now from watch bytes parcel new)
taken_so old new now from watch bytes message (Ok parcel) spelled done = record {
  no_message = λ h. absurd (h message spelled);
  message = λ m s. subst (λ (x : MessageContent). IsDone old (acknowledgement_of x)
      (outcome old now from watch x) parcel new) (one_message bytes message m spelled s) done;
}
taken_so old new now from watch bytes message (Err e) spelled done = tt

pub done_by : (old new : FetchesContent) (owed : Option MessageContent) (o : Outcome) (parcel : Parcel)
    (change : Change)
    → IsDecided owed o parcel change → new ≡ changed old change → IsDone old owed o parcel new
done_by old new owed o parcel change d e =
    (d.parcel_is, e ∙ ap (λ (c : Change). changed old c) d.change_is ∙ by_change old o)

-- ---- what is decided
pub decided_to_begin : (owed : Option MessageContent) (fetch is : FetchContent) (value : ℕ)
    (acknowledgement : Option (Vec ℕ Global)) (request : Vec ℕ Global) → fetch ≡ is → IsKept is
    → IsSent owed acknowledgement → IsSpelling request.items (request_of fetch value)
    → IsDecided owed (Begins is value) (Taken acknowledgement request is.number) (changes.Begins fetch)
decided_to_begin owed fetch is value acknowledgement request e kept sent asked = record {
  parcel_is = (sent, subst (λ (f : FetchContent). IsSpelling request.items (request_of f value)) e asked, refl);
  change_is = ap (λ (f : FetchContent). changes.Begins f) e;
  sound = subst (λ (f : FetchContent). IsKept f) (sym e) kept;
}

-- ---- a fetch that is cut
one_is : (a b : FetchContent) → Some a ≡ Some b → a ≡ b
one_is a b h = cc

number_by : (b : Bool) (number : ℕ) (first found : FetchContent) (rest : Option FetchContent)
    → eqb first.number number ≡ b → (rest ≡ Some found → found.number ≡ number)
    → cond b (Some first) rest ≡ Some found → found.number ≡ number
number_by true number first found rest e h is =
    subst (λ (f : FetchContent). f.number ≡ number) (one_is first found is) (eqb-true first.number number e)
number_by false number first found rest e h is = h is

found_number : (number : ℕ) (fetches : List FetchContent) (found : FetchContent)
    → find (has_number number) fetches ≡ Some found → found.number ≡ number
found_number number [] found h = absurd (cc)
found_number number (first ∷ fetches) found h =
    number_by (eqb first.number number) number first found (find (has_number number) fetches) refl
    (found_number number fetches found) h

pub cut_so : (old new : FetchesContent) (number : ℕ) (fetch : FetchContent) (bytes : Vec ℕ Global)
    → find (has_number number) old.fetches ≡ Some fetch → IsSpelling bytes.items fetch.message
    → new ≡ record old { fetches = others number old.fetches } → IsCut old number (Some bytes) new
cut_so old new number fetch bytes is spelled e =
    let own : number ≡ fetch.number = sym (found_number number old.fetches fetch is) in
    subst (λ (o : Option FetchContent). IsCutOf old o (Some bytes) new) (sym is)
    (spelled, subst (λ (n : ℕ). new ≡ record old { fetches = others n old.fetches }) own e)
