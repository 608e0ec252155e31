-- Bytes are at most one entry, or have one first fault, and never both.
use Rattle.std.proofs.Common.{◌≡◌, ◌↔◌, ◌<◌, ◌^◌, ℕ, List, ◌∷◌, length, take, drop, Result, Ok, Err, IfOk, IfErr, IsErrAnd, IsOkAnd, refl, sym, ap, ◌∙◌, subst, inl, inr, arith}
use Rattle.std.proofs.lemmas.List.{take_at, drop_at}
use Rattle.std.specs.Int.{w64, from_be_bytes}
use Rattle.lw_log.specs.declared.entry_fault.EntryFault.{EntryFault}
use Rattle.lw_log.specs.Entries.{BodyContent, EntryContent, FitsBody, IsEntry, kind_of, body_bytes, headed}
use Rattle.lw_log.specs.Entries.BodyContent.{Start, Delta, Snapshot}
use Rattle.lw_log.specs.EntryFaults.{HasHead, IsFault, IsBodyFault, number_in, kind_in, body_in}
use Rattle.lw_log.specs.inner.Reading.{IsBodyOf}
use Rattle.lw_log.proofs.Places.{AreBytes, parts_of, has_head, head_written, fleet_long}
use Rattle.lw_log.proofs.HeadFaults.{head_apart, head_once}
use Rattle.lw_log.proofs.BodyFaults.{body_apart, body_once}

-- ---- one entry
one_body : (a b : BodyContent) → kind_of a ≡ kind_of b → body_bytes a ≡ body_bytes b → FitsBody a → FitsBody b → a ≡ b
one_body Start Start k e f g = refl
one_body Start (Delta y) k e f g = absurd (omega (arith, k))
one_body Start (Snapshot m y) k e f g = absurd (omega (arith, k))
one_body (Delta x) Start k e f g = absurd (omega (arith, k))
one_body (Delta x) (Delta y) k e f g = ap Delta e
one_body (Delta x) (Snapshot m y) k e f g = absurd (omega (arith, k))
one_body (Snapshot n x) Start k e f g = absurd (omega (arith, k))
one_body (Snapshot n x) (Delta y) k e f g = absurd (omega (arith, k))
one_body (Snapshot n x) (Snapshot m y) k e f g =
    let used_numbers : n ≡ m = sym (take_at n x 8192 f) ∙ ap (take 8192) e ∙ take_at m y 8192 g in
    let delta : x ≡ y = sym (drop_at n x 8192 f) ∙ ap (drop 8192) e ∙ drop_at m y 8192 g in
    cc

pub one_entry : (bytes : List ℕ) (a b : EntryContent) → IsEntry bytes a → IsEntry bytes b → a ≡ b
one_entry bytes a b x y =
    let p = parts_of bytes a x.written x.fits in
    let q = parts_of bytes b y.written y.fits in
    let fleet : a.fleet ≡ b.fleet = p.fleet ∙ sym q.fleet in
    let number : a.number ≡ b.number = p.number ∙ sym q.number in
    let tag : a.tag ≡ b.tag = p.tag ∙ sym q.tag in
    let sequence : a.sequence ≡ b.sequence = p.sequence ∙ sym q.sequence in
    let body : a.body ≡ b.body = one_body a.body b.body (p.kind ∙ sym q.kind) (p.body ∙ sym q.body) x.fits.body y.fits.body in
    λ i. record { fleet = fleet i; number = number i; tag = tag i; sequence = sequence i; body = body i }

pub entry_apart : (bytes : List ℕ) (e : EntryContent) (f : EntryFault) → IsEntry bytes e → IsFault bytes f → ⊥
entry_apart bytes e f x (inl h) = head_apart bytes f (has_head bytes e (parts_of bytes e x.written x.fits) x.fits) h
entry_apart bytes e f x (inr h) =
    let p = parts_of bytes e x.written x.fits in
    let at_kind : IsBodyFault (kind_of e.body) (body_in bytes) f = subst (λ (k : ℕ). IsBodyFault k (body_in bytes) f) (sym p.kind) h.1 in
    body_apart e.body f x.fits.body x.spelled (subst (λ (b : List ℕ). IsBodyFault (kind_of e.body) b f) (sym p.body) at_kind)

pub one_first_fault : (bytes : List ℕ) (f g : EntryFault) → IsFault bytes f → IsFault bytes g → f ≡ g
one_first_fault bytes f g (inl h) (inl k) = head_once bytes f g h k
one_first_fault bytes f g (inl h) (inr k) = absurd (head_apart bytes f k.0 h)
one_first_fault bytes f g (inr h) (inl k) = absurd (head_apart bytes g h.0 k)
one_first_fault bytes f g (inr h) (inr k) = body_once (kind_in bytes) (body_in bytes) f g h.1 k.1

-- ---- what is read is an entry
pub read_entry_is : (bytes : List ℕ) (e : EntryContent) → AreBytes bytes → HasHead bytes → e.fleet ≡ take 16 (drop 4 bytes) → e.number ≡ number_in bytes → e.number < 2 ^ 16
    → e.tag ≡ from_be_bytes w64 (take 8 (drop 22 bytes)) → e.tag < 2 ^ 64 → e.sequence ≡ from_be_bytes w64 (take 8 (drop 30 bytes)) → e.sequence < 2 ^ 64
    → IsBodyOf (kind_in bytes) (body_in bytes) e.body → IsEntry bytes e
read_entry_is bytes e fits head fleet number number_fits tag tag_fits sequence sequence_fits body = record {
  written = head_written bytes e.number e.tag e.sequence fits head.magic head.long number tag sequence
      ∙ ap (λ (f : List ℕ). headed f e.number e.tag e.sequence (kind_in bytes ∷ body_in bytes)) (sym fleet)
      ∙ ap (λ (k : ℕ). headed e.fleet e.number e.tag e.sequence (k ∷ body_in bytes)) (sym body.kind_is)
      ∙ ap (λ (b : List ℕ). headed e.fleet e.number e.tag e.sequence (kind_of e.body ∷ b)) body.written;
  fits = record {
    fleet = ap length fleet ∙ fleet_long bytes head.long;
    number = (omega (arith, head.number, number), number_fits);
    tag = tag_fits;
    sequence = sequence_fits;
    body = body.fits;
  };
  spelled = body.spelled;
}

-- ---- what is answered, by what is known of the answer
pub only_entry : {A : Type 0} (content : A → EntryContent) (bytes : List ℕ) (r : Result A EntryFault) → IfOk r (λ e. IsEntry bytes (content e)) → IfErr r (IsFault bytes)
    → (e : EntryContent) → IsEntry bytes e → IsOkAnd r (λ x. content x ≡ e)
only_entry content bytes (Ok x) found fault e is = one_entry bytes (content x) e found is
only_entry content bytes (Err f) found fault e is = absurd (entry_apart bytes e f is fault)

pub fault_is_first : {A : Type 0} (content : A → EntryContent) (bytes : List ℕ) (r : Result A EntryFault) → IfOk r (λ e. IsEntry bytes (content e)) → IfErr r (IsFault bytes)
    → (f : EntryFault) → (r ≡ Err f) ↔ IsFault bytes f
fault_is_first content bytes (Ok x) found fault f = ((λ e. cc), (λ h. absurd (entry_apart bytes (content x) f found h)))
fault_is_first content bytes (Err g) found fault f =
    ((λ e. let same : g ≡ f = cc in subst (IsFault bytes) same fault), (λ h. ap Err (one_first_fault bytes g f fault h)))

-- ---- what the exit of a `?` answers
pub raised : {T : Type 0} (P : EntryFault → Type 0) (r : Result T EntryFault) {fault : EntryFault} → IsErrAnd r (λ y. y ≡ fault) → P fault → IfErr r P
raised P (Ok x) h p = absurd h
raised P (Err y) h p = subst P (sym h) p
