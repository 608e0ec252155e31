-- In settled passes each answer stands in the history of its node.
use Rattle.std.proofs.Common.{◌≡◌, ℕ, ◌<◌, List, length, Some, sym, refl, ap, ◌∙◌, subst, inl, inr, arith}
use Rattle.std.specs.Prelude.{slice_get}
use Rattle.std.proofs.lemmas.Option.{slice_get_cases}
use Rattle.lw_held.specs.declared.entry.Part.{Part}
use Rattle.lw_held.specs.declared.shelf.Shelf.{Shelf}
use Rattle.lw_held.specs.Agree.{IsPart, IsSettled}
use Rattle.lw_held.specs.History.{VolumeContent}
use Rattle.lw_held.specs.Shelves.{AreSettled}
use Rattle.lw_held.specs.Transcript.{Transcript}
use Rattle.lw_held.proofs.Agreement.{same_some}
use Rattle.uses.specs.Threads.{Stand, AllStand}

-- a part is the entry at its place
part_stands : (node : ℕ) (passes : List Transcript) (settled : IsSettled node passes) (i k : ℕ) (pass : Transcript) (part : Part) → IsPart passes i k pass part → part.node ≡ node
    → slice_get settled.journal part.place ≡ Some part.entry
part_stands node passes settled i k pass part is of =
    let fine = settled.fine part.place in
    let within : part.place < length settled.journal = fine.within i k pass part is (of, refl) in
    elim (slice_get_cases settled.journal part.place).1 [
      | inl w ↦
          let h = fine.held w.0 w.2 in
          let one = fine.alone i k h.i h.k pass h.pass part h.part is (of, refl) h.is h.of in
          let pass_is : pass ≡ h.pass = same_some pass h.pass _ is.pass_is (subst (λ m. slice_get passes m ≡ Some h.pass) (sym one.0) h.is.pass_is) in
          let theirs : slice_get pass.parts k ≡ Some h.part = subst (λ (y : Transcript). slice_get y.parts k ≡ Some h.part) (sym pass_is) (subst (λ m. slice_get h.pass.parts m ≡ Some h.part) (sym one.1) h.is.part_is) in
          let part_is : part ≡ h.part = same_some part h.part _ is.part_is theirs in
          w.2 ∙ ap Some (sym h.same ∙ ap (λ (p : Part). p.entry) (sym part_is))
      | inr w ↦ absurd (let past = w.0 in omega (arith, past, within))
    ]

pub all_stand : (shelves : List Shelf) (volumes : List VolumeContent) (passes : List Transcript) → AreSettled shelves volumes passes → AllStand shelves passes
all_stand shelves volumes passes settled i shelf at =
    let s = (settled i shelf at).settled in
    record { journal = s.journal; last = s.last; legal = s.legal; each = part_stands shelf.number passes s }
