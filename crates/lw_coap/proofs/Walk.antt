-- Options that were walked, one after another.
use Rattle.std.proofs.Common.{◌≡◌, ℕ, ◌<◌, ◌≤◌, List, [], ◌∷◌, ◌++◌, length, refl, ap, sym, ◌∙◌, arith, append_assoc, length-append}
use Rattle.std.proofs.lemmas.List.{append-nil}
use Rattle.lw_coap.specs.declared.fault.Fault.{Fault}
use Rattle.lw_coap.specs.Message.{OptionContent}
use Rattle.lw_coap.specs.Grammar.{IsOption, AreOptions, number_after, IsPayload}
use Rattle.lw_coap.specs.Faults.{IsPartFault, IsOptionsFault}
use Rattle.lw_coap.specs.inner.Body.{IsBody}

-- the body is these options, of which the last has this number, and then the rest
pub record IsWalked (body : List ℕ) (options : List OptionContent) (number : ℕ) (rest : List ℕ) : Type 0 where
  pub front : List ℕ
  pub bytes_are : body ≡ front ++ rest
  pub whole : AreOptions 0 front options
  pub number_is : number ≡ number_after 0 options

pub options_push : (before : ℕ) (options : List OptionContent) (front bytes : List ℕ) (o : OptionContent) → AreOptions before front options → IsOption (number_after before options) bytes o
    → AreOptions before (front ++ bytes) (options ++ o ∷ [])
options_push before [] front bytes o h k = (bytes, [], rw h (sym (append-nil bytes)), k, refl)
options_push before (p ∷ ps) front bytes o h k =
    (h.0, h.1 ++ bytes, ap (λ (x : List ℕ). x ++ bytes) h.2 ∙ append_assoc h.0 h.1 bytes, h.3, options_push p.number ps h.1 bytes o h.4 k)

pub number_after-push : (before : ℕ) (options : List OptionContent) (o : OptionContent) → number_after before (options ++ o ∷ []) ≡ o.number
number_after-push before [] o = refl
number_after-push before (p ∷ ps) o = number_after-push p.number ps o

pub none_walked : (body : List ℕ) → IsWalked body [] 0 body
none_walked body = record { front = []; bytes_are = refl; whole = refl; number_is = refl }

pub walked_more : (body : List ℕ) (options : List OptionContent) (number : ℕ) (rest front after : List ℕ) (o : OptionContent)
    → IsWalked body options number rest → IsOption number front o → rest ≡ front ++ after → IsWalked body (options ++ o ∷ []) o.number after
walked_more body options number rest front after o w h parts = record {
  front = w.front ++ front;
  bytes_are = w.bytes_are ∙ ap (λ (x : List ℕ). w.front ++ x) parts ∙ sym (append_assoc w.front front after);
  whole = options_push 0 options w.front front o w.whole (rw w.number_is at h);
  number_is = sym (number_after-push 0 options o);
}

pub walked_fault : (body : List ℕ) (options : List OptionContent) (number : ℕ) (rest : List ℕ) (fault : Fault) → IsWalked body options number rest → IsPartFault number rest fault → IsOptionsFault body fault
walked_fault body options number rest fault w h = record { options = options; front = w.front; rest = rest; bytes_are = w.bytes_are; whole = w.whole; next = rw w.number_is at h }

pub walked_all : (body : List ℕ) (options : List OptionContent) (number : ℕ) (rest payload : List ℕ) → IsWalked body options number rest → IsPayload rest payload → IsBody body options payload
walked_all body options number rest payload w h = record { front = w.front; rest = rest; bytes_are = w.bytes_are; whole = w.whole; payload_is = h }

-- an option takes a byte at least
pub option_takes : (before : ℕ) (front rest after : List ℕ) (o : OptionContent) → IsOption before front o → rest ≡ front ++ after → length after < length rest
option_takes before front rest after o h parts =
    let one : 1 ≤ length front = omega (arith, ap length h.bytes_are, ap length h.head_is.bytes_are, length-append h.head o.value) in
    omega (arith, ap length parts, length-append front after)
