-- Bytes spell one message or have one fault, never both.
use Rattle.std.proofs.Common.{◌≡◌, ◌≢◌, ℕ, ◌+◌, ◌*◌, ◌<◌, ◌⊎◌, List, [], ◌∷◌, ◌++◌, length, Result, Ok, Err, refl, ap, sym, subst, ◌∙◌, arith, inl, inr, length-append}
use Rattle.lw_coap.specs.declared.fault.Fault.{Fault}
use Rattle.lw_coap.specs.declared.fault.Fault.TheVariants.{Short, Version, TokenLength, OptionHead, Truncated, EmptyPayload, EmptyMessage, TooLong, NoMemory}
use Rattle.lw_coap.specs.declared.message.Kind.{Kind}
use Rattle.lw_coap.specs.declared.message.Kind.TheVariants.{Con, Non, Ack, Rst}
use Rattle.lw_coap.specs.Message.{OptionContent, MessageContent}
use Rattle.lw_coap.specs.Grammar.{IsHeader, number_after, IsPayload, IsSpelling, kind_number}
use Rattle.lw_coap.specs.Faults.{IsOptionsFault, HasHead, IsBodyFault, IsFault}
use Rattle.lw_coap.specs.inner.Body.{IsBody, IsFrame, Reads}
use Rattle.lw_coap.proofs.Once.{cons_one, front_one, options_one, payload_one}
use Rattle.lw_coap.proofs.PartOnce.{First, first_one, payload_no_option, options_fault_one, options_no_fault}

-- ---- headers

pub record SameHeader (v v' k k' t t' c c' m m' : ℕ) (rest rest' : List ℕ) : Type 0 where
  pub version : v ≡ v'
  pub kind : k ≡ k'
  pub token : t ≡ t'
  pub code : c ≡ c'
  pub mid : m ≡ m'
  pub rest_is : rest ≡ rest'

pub header_one : (bytes : List ℕ) (v v' k k' t t' c c' m m' : ℕ) (rest rest' : List ℕ) → IsHeader bytes v k t c m rest → IsHeader bytes v' k' t' c' m' rest' → SameHeader v v' k k' t t' c c' m m' rest rest'
header_one bytes v v' k k' t t' c c' m m' rest rest' h g =
    let e0 = cons_one (64 * v + 16 * k + t) (64 * v' + 16 * k' + t') (c ∷ h.high ∷ h.low ∷ rest) (c' ∷ g.high ∷ g.low ∷ rest') (sym h.bytes_are ∙ g.bytes_are) in
    let e1 = cons_one c c' (h.high ∷ h.low ∷ rest) (g.high ∷ g.low ∷ rest') e0.1 in
    let e2 = cons_one h.high g.high (h.low ∷ rest) (g.low ∷ rest') e1.1 in
    let e3 = cons_one h.low g.low rest rest' e2.1 in
    let tt' : t ≡ t' = omega (arith, e0.0) in
    let kk : k ≡ k' = omega (arith, e0.0) in
    record { version = omega (arith, e0.0); kind = kk; token = tt'; code = e1.0; mid = omega (arith, h.mid_is, g.mid_is, e2.0, e3.0); rest_is = e3.1 }

kind_one : (a b : Kind) → kind_number a ≡ kind_number b → a ≡ b
kind_one Con Con e = refl
kind_one Con Non e = absurd (omega arith)
kind_one Con Ack e = absurd (omega arith)
kind_one Con Rst e = absurd (omega arith)
kind_one Non Con e = absurd (omega arith)
kind_one Non Non e = refl
kind_one Non Ack e = absurd (omega arith)
kind_one Non Rst e = absurd (omega arith)
kind_one Ack Con e = absurd (omega arith)
kind_one Ack Non e = absurd (omega arith)
kind_one Ack Ack e = refl
kind_one Ack Rst e = absurd (omega arith)
kind_one Rst Con e = absurd (omega arith)
kind_one Rst Non e = absurd (omega arith)
kind_one Rst Ack e = absurd (omega arith)
kind_one Rst Rst e = refl

-- ---- one message

message_is : (m n : MessageContent) → m.kind ≡ n.kind → m.code ≡ n.code → m.mid ≡ n.mid → m.token ≡ n.token → m.options ≡ n.options → m.payload ≡ n.payload → m ≡ n
message_is m n k c i t o p =
    ap (λ (x : Kind). record { kind = x; code = m.code; mid = m.mid; token = m.token; options = m.options; payload = m.payload }) k
    ∙ ap (λ (x : ℕ). record { kind = n.kind; code = x; mid = m.mid; token = m.token; options = m.options; payload = m.payload }) c
    ∙ ap (λ (x : ℕ). record { kind = n.kind; code = n.code; mid = x; token = m.token; options = m.options; payload = m.payload }) i
    ∙ ap (λ (x : List ℕ). record { kind = n.kind; code = n.code; mid = n.mid; token = x; options = m.options; payload = m.payload }) t
    ∙ ap (λ (x : List OptionContent). record { kind = n.kind; code = n.code; mid = n.mid; token = n.token; options = x; payload = m.payload }) o
    ∙ ap (λ (x : List ℕ). record { kind = n.kind; code = n.code; mid = n.mid; token = n.token; options = n.options; payload = x }) p

pub one_message : (bytes : List ℕ) (m n : MessageContent) → IsSpelling bytes m → IsSpelling bytes n → m ≡ n
one_message bytes m n h g =
    let e = header_one bytes 1 1 (kind_number m.kind) (kind_number n.kind) (length m.token) (length n.token) m.code n.code m.mid n.mid (m.token ++ (h.option_bytes ++ h.payload_bytes)) (n.token ++ (g.option_bytes ++ g.payload_bytes)) h.header g.header in
    let token = front_one m.token n.token (h.option_bytes ++ h.payload_bytes) (g.option_bytes ++ g.payload_bytes) e.token e.rest_is in
    let body = options_one 0 m.options n.options h.option_bytes g.option_bytes h.payload_bytes g.payload_bytes h.options g.options token.1
    (payload_no_option (number_after 0 m.options) h.payload_bytes m.payload h.payload) (payload_no_option (number_after 0 n.options) g.payload_bytes n.payload g.payload) in
    let payload : m.payload ≡ n.payload = payload_one g.payload_bytes m.payload n.payload (subst (λ (b : List ℕ). IsPayload b m.payload) body.2 h.payload) g.payload in
    message_is m n (kind_one m.kind n.kind e.kind) e.code e.mid token.0 body.0 payload

-- ---- a message has no fault

head_long : (bytes : List ℕ) (v k t c m : ℕ) (rest : List ℕ) → IsHeader bytes v k t c m rest → length bytes ≡ length rest + 4
head_long bytes v k t c m rest h = omega (arith, ap length h.bytes_are)

body_no_fault : (bytes : List ℕ) (m : MessageContent) (f : Fault) → IsSpelling bytes m → IsBodyFault bytes f → ⊥
body_no_fault bytes m f h b =
    let e = header_one bytes 1 1 (kind_number m.kind) b.head.kind (length m.token) (length b.token) m.code b.code m.mid b.head.mid (m.token ++ (h.option_bytes ++ h.payload_bytes)) (b.token ++ b.body) h.header b.head.header in
    let token = front_one m.token b.token (h.option_bytes ++ h.payload_bytes) b.body e.token e.rest_is in
    options_no_fault b.body m.options h.option_bytes h.payload_bytes m.payload f (sym token.1) h.options h.payload b.fault_is

pub never_both : (bytes : List ℕ) (m : MessageContent) (f : Fault) → IsSpelling bytes m → IsFault bytes f → ⊥
never_both bytes m TooLong h g = omega (arith, h.within, g)
never_both bytes m Short h g = omega (arith, g, ap length h.header.bytes_are)
never_both bytes m Version h g =
    let e = header_one bytes 1 g.0 (kind_number m.kind) g.4.kind (length m.token) g.1 m.code g.2 m.mid g.4.mid (m.token ++ (h.option_bytes ++ h.payload_bytes)) g.3 h.header g.4.header in
    g.5 (sym e.version)
never_both bytes m TokenLength h g =
    let e = header_one bytes 1 1 (kind_number m.kind) g.3.kind (length m.token) g.0 m.code g.1 m.mid g.3.mid (m.token ++ (h.option_bytes ++ h.payload_bytes)) g.2 h.header g.3.header in
    omega (arith, e.token, h.token, g.4)
never_both bytes m EmptyMessage h g =
    let e = header_one bytes 1 1 (kind_number m.kind) g.2.kind (length m.token) g.0 m.code 0 m.mid g.2.mid (m.token ++ (h.option_bytes ++ h.payload_bytes)) g.1 h.header g.2.header in
    let four : length bytes ≡ 4 = h.empty e.code in
    let long : length bytes ≡ length g.1 + 4 = head_long bytes 1 g.2.kind g.0 0 g.2.mid g.1 g.2.header in
    elim g.4 [
      | inl x ↦ omega (arith, four, long, x, e.token, ap length e.rest_is, length-append m.token (h.option_bytes ++ h.payload_bytes))
      | inr x ↦ omega (arith, four, long, x)
    ]
never_both bytes m Truncated h (inl g) =
    let e = header_one bytes 1 1 (kind_number m.kind) g.head.kind (length m.token) g.token_length m.code g.code m.mid g.head.mid (m.token ++ (h.option_bytes ++ h.payload_bytes)) g.rest h.header g.head.header in
    omega (arith, e.token, g.cut, ap length e.rest_is, length-append m.token (h.option_bytes ++ h.payload_bytes))
never_both bytes m Truncated h (inr g) = body_no_fault bytes m Truncated h g
never_both bytes m OptionHead h g = body_no_fault bytes m OptionHead h g
never_both bytes m EmptyPayload h g = body_no_fault bytes m EmptyPayload h g
never_both bytes m NoMemory h g = absurd g

-- ---- one fault

-- what is behind a good header
abbrev Behind : ℕ → List ℕ → Fault → Type 0
Behind t rest f = (token : List ℕ) × (body : List ℕ) × (rest ≡ token ++ body) × (t ≡ length token) × IsOptionsFault body f

abbrev WithCode : ℕ → List ℕ → Fault → Type 0
WithCode t rest = First Truncated (length rest < t) (Behind t rest)

abbrev WithToken : ℕ → ℕ → List ℕ → Fault → Type 0
WithToken t c rest = First EmptyMessage (c ≡ 0) (WithCode t rest)

abbrev WithVersion : ℕ → ℕ → List ℕ → Fault → Type 0
WithVersion t c rest = First TokenLength (8 < t) (WithToken t c rest)

abbrev WithHeader : ℕ → ℕ → ℕ → List ℕ → Fault → Type 0
WithHeader v t c rest = First Version (v ≢ 1) (WithVersion t c rest)

abbrev Headed : List ℕ → Fault → Type 0
Headed bytes f = (v t c : ℕ) × (rest : List ℕ) × HasHead bytes v t c rest × WithHeader v t c rest f

abbrev Within : List ℕ → Fault → Type 0
Within bytes = First Short (length bytes < 4) (Headed bytes)

abbrev Staged : List ℕ → Fault → Type 0
Staged bytes = First TooLong (8192 < length bytes) (Within bytes)

headed : (bytes : List ℕ) (f : Fault) (v t c : ℕ) (rest : List ℕ) → HasHead bytes v t c rest → WithHeader v t c rest f → Staged bytes f
headed bytes f v t c rest h w =
    let long : length bytes ≡ length rest + 4 = head_long bytes v h.kind t c h.mid rest h.header in
    inr ((λ (x : 8192 < length bytes). omega (arith, x, h.within)), inr ((λ (x : length bytes < 4). omega (arith, x, long)), (v, t, c, rest, h, w)))

good_version : (v : ℕ) → v ≡ 1 → v ≢ 1 → ⊥
good_version v e h = h e

body_staged : (bytes : List ℕ) (f : Fault) → IsBodyFault bytes f → Staged bytes f
body_staged bytes f b =
    let full : length (b.token ++ b.body) < length b.token → ⊥ = λ x. omega (arith, x, length-append b.token b.body) in
    headed bytes f 1 (length b.token) b.code (b.token ++ b.body) b.head
    (inr (good_version 1 refl, inr ((λ (x : 8 < length b.token). omega (arith, x, b.token_fits)), inr (b.code_is, inr (full, (b.token, b.body, refl, refl, b.fault_is))))))

staged : (bytes : List ℕ) (f : Fault) → IsFault bytes f → Staged bytes f
staged bytes TooLong g = inl (refl, g)
staged bytes Short g = inr ((λ (x : 8192 < length bytes). omega (arith, x, g)), inl (refl, g))
staged bytes Version g = headed bytes Version g.0 g.1 g.2 g.3 g.4 (inl (refl, g.5))
staged bytes TokenLength g = headed bytes TokenLength 1 g.0 g.1 g.2 g.3 (inr (good_version 1 refl, inl (refl, g.4)))
staged bytes EmptyMessage g =
    headed bytes EmptyMessage 1 g.0 0 g.1 g.2 (inr (good_version 1 refl, inr ((λ (x : 8 < g.0). omega (arith, x, g.3)), inl (refl, refl))))
staged bytes Truncated (inl g) =
    headed bytes Truncated 1 g.token_length g.code g.rest g.head
    (inr (good_version 1 refl, inr ((λ (x : 8 < g.token_length). omega (arith, x, g.token_fits)), inr (g.code_is, inl (refl, g.cut)))))
staged bytes Truncated (inr g) = body_staged bytes Truncated g
staged bytes OptionHead g = body_staged bytes OptionHead g
staged bytes EmptyPayload g = body_staged bytes EmptyPayload g
staged bytes NoMemory g = absurd g

behind_one : (t : ℕ) (rest : List ℕ) (f g : Fault) → Behind t rest f → Behind t rest g → f ≡ g
behind_one t rest f g h k =
    let e = front_one h.0 k.0 h.1 k.1 (sym h.3 ∙ k.3) (sym h.2 ∙ k.2) in
    options_fault_one h.1 f g h.4 (subst (λ (b : List ℕ). IsOptionsFault b g) (sym e.1) k.4)

header_stage_one : (v t c : ℕ) (rest : List ℕ) (f g : Fault) → WithHeader v t c rest f → WithHeader v t c rest g → f ≡ g
header_stage_one v t c rest f g =
    first_one Version (v ≢ 1) (WithVersion t c rest) (WithVersion t c rest) f g
    (λ a b. first_one TokenLength (8 < t) (WithToken t c rest) (WithToken t c rest) a b
    (λ a' b'. first_one EmptyMessage (c ≡ 0) (WithCode t rest) (WithCode t rest) a' b'
    (λ p q. first_one Truncated (length rest < t) (Behind t rest) (Behind t rest) p q (behind_one t rest))))

headed_one : (bytes : List ℕ) (f g : Fault) → Headed bytes f → Headed bytes g → f ≡ g
headed_one bytes f g h k =
    let e = header_one bytes h.0 k.0 h.4.kind k.4.kind h.1 k.1 h.2 k.2 h.4.mid k.4.mid h.3 k.3 h.4.header k.4.header in
    let w : WithHeader h.0 h.1 h.2 h.3 g = rw (e.version, e.token, e.code, e.rest_is) k.5 in
    header_stage_one h.0 h.1 h.2 h.3 f g h.5 w

pub one_fault : (bytes : List ℕ) (f g : Fault) → IsFault bytes f → IsFault bytes g → f ≡ g
one_fault bytes f g h k =
    first_one TooLong (8192 < length bytes) (Within bytes) (Within bytes) f g
    (λ a b. first_one Short (length bytes < 4) (Headed bytes) (Headed bytes) a b (headed_one bytes))
    (staged bytes f h) (staged bytes g k)

-- ---- what reading gives

pub whole_message : (bytes : List ℕ) (kind : Kind) (code mid : ℕ) (token body : List ℕ) (options : List OptionContent) (payload : List ℕ) → IsFrame bytes kind code mid token body → IsBody body options payload
    → IsSpelling bytes (record { kind = kind; code = code; mid = mid; token = token; options = options; payload = payload })
whole_message bytes kind code mid token body options payload f b = record {
  option_bytes = b.front;
  payload_bytes = b.rest;
  header = subst (λ (x : List ℕ). IsHeader bytes 1 (kind_number kind) (length token) code mid (token ++ x)) b.bytes_are f.header;
  options = b.whole;
  payload = b.payload_is;
  token = f.token_fits;
  empty = λ (e : code ≡ 0). omega (arith, head_long bytes 1 (kind_number kind) (length token) code mid (token ++ body) f.header, ap length (f.empty e).0, ap length (f.empty e).1, length-append token body);
  within = f.within;
}

no_fault_in_nothing : (f : Fault) → IsOptionsFault [] f → ⊥
no_fault_in_nothing f h = options_no_fault [] [] [] [] [] f refl refl refl h

body_fault_of : (bytes : List ℕ) (kind : Kind) (code mid : ℕ) (token body : List ℕ) (f : Fault) → IsFrame bytes kind code mid token body → IsOptionsFault body f → IsBodyFault bytes f
body_fault_of bytes kind code mid token body f h o = record {
  code = code;
  token = token;
  body = body;
  head = record { kind = kind_number kind; mid = mid; header = h.header; within = h.within };
  token_fits = h.token_fits;
  code_is = λ (e : code ≡ 0). no_fault_in_nothing f (subst (λ (b : List ℕ). IsOptionsFault b f) (h.empty e).1 o);
  fault_is = o;
}

pub body_fault : (bytes : List ℕ) (kind : Kind) (code mid : ℕ) (token body : List ℕ) (f : Fault) → IsFrame bytes kind code mid token body → IsOptionsFault body f → IsFault bytes f
body_fault bytes kind code mid token body OptionHead h o = body_fault_of bytes kind code mid token body OptionHead h o
body_fault bytes kind code mid token body Truncated h o = inr (body_fault_of bytes kind code mid token body Truncated h o)
body_fault bytes kind code mid token body EmptyPayload h o = body_fault_of bytes kind code mid token body EmptyPayload h o
body_fault bytes kind code mid token body Short h o = absurd o.next
body_fault bytes kind code mid token body Version h o = absurd o.next
body_fault bytes kind code mid token body TokenLength h o = absurd o.next
body_fault bytes kind code mid token body EmptyMessage h o = absurd o.next
body_fault bytes kind code mid token body TooLong h o = absurd o.next
body_fault bytes kind code mid token body NoMemory h o = absurd o.next

abbrev failed : Fault → Result MessageContent Fault
failed f = Err f

failed_one : (f g : Fault) → failed f ≡ failed g → f ≡ g
failed_one f g e = cc

pub only : (bytes : List ℕ) (r : Result MessageContent Fault) → Reads bytes r → (m : MessageContent) → IsSpelling bytes m → (r ≡ Ok m) ⊎ (r ≡ Err NoMemory)
only bytes (Ok n) h m s = inl (ap (λ (x : MessageContent). Ok x) (one_message bytes n m h s))
only bytes (Err f) (inl h) m s = inr (ap failed h.0)
only bytes (Err f) (inr h) m s = absurd (never_both bytes m f s h)

pub faults_only : (bytes : List ℕ) (r : Result MessageContent Fault) → Reads bytes r → (f : Fault) → f ≢ NoMemory → r ≡ Err f → IsFault bytes f
faults_only bytes (Ok n) h f no_want e = absurd cc
faults_only bytes (Err g) (inl h) f no_want e = absurd (no_want (sym (failed_one g f e) ∙ h.0))
faults_only bytes (Err g) (inr h) f no_want e = subst (λ (x : Fault). IsFault bytes x) (failed_one g f e) h

pub faults_all : (bytes : List ℕ) (r : Result MessageContent Fault) → Reads bytes r → (f : Fault) → IsFault bytes f → r ≡ Err f
faults_all bytes (Ok n) h f g = absurd (never_both bytes n f h g)
faults_all bytes (Err e) (inl h) f g = absurd (never_both bytes h.1 f h.2 g)
faults_all bytes (Err e) (inr h) f g = ap failed (one_fault bytes e f h g)
