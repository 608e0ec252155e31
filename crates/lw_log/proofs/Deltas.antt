-- A delta that is spelled is of a format that is read.
use Rattle.std.proofs.Common.{◌≡◌, ℕ, List, take, sym, ap, ◌∙◌}
use Rattle.std.proofs.lemmas.List.{take_at}
use Rattle.lw_delta.specs.declared.form.Form.{Form}
use Rattle.lw_delta.specs.declared.form.Form.TheVariants.{First, Second, Third}
use Rattle.lw_delta.specs.Form.{magic_of}
use Rattle.lw_delta.specs.Part.{followed, bytes_of, must}
use Rattle.lw_delta.specs.Delta.{DeltaContent, IsSpelling}
use Rattle.lw_log.specs.EntryFaults.{IsNewerDelta}

-- the first four bytes are those of a format
begins_so : (delta : List ℕ) (d : DeltaContent) → IsSpelling delta d → (form : Form) × (take 4 delta ≡ magic_of form)
unfolding followed bytes_of must
begins_so delta d s =
    let header = s.is.2 in
    let magic = header.is.2 in
    let front = magic.is.2.is in
    let form = magic.is.3.is.0 in
    (form.0, ap (take 4) front.0 ∙ take_at magic.is.0 magic.is.1 4 front.1 ∙ sym form.1)

not_newer : (form : Form) (delta : List ℕ) → take 4 delta ≡ magic_of form → IsNewerDelta delta → ⊥
not_newer First delta e newer = newer.2 e
not_newer Second delta e newer = newer.3 e
not_newer Third delta e newer = newer.4 e

pub spelled_is_no_newer : (delta : List ℕ) (d : DeltaContent) → IsSpelling delta d → IsNewerDelta delta → ⊥
spelled_is_no_newer delta d s newer = let b = begins_so delta d s in not_newer b.0 delta b.1 newer
