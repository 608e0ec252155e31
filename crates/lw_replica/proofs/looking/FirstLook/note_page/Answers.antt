use Rattle.std.proofs.Common.{◌≡◌, ◌++◌, take, ◌∷◌, [], refl, sym, ap, ◌∙◌, subst, append_assoc, append-nil}
use Rattle.std.proofs.lemmas.Option.{slice_get_read}
use Rattle.lw_log.specs.Calls.{placed}
use Rattle.lw_replica.specs.Reading.{bytes_of}
use Rattle.lw_replica.specs.inner.Looking.{HasSeen}
use Rattle.lw_replica.proofs.Taking.{entries_take}
use Rattle.lw_replica.proofs.looking.FirstLook.note_page.Goals as goal

pub loop-bytes-init : goal.loop-bytes-init
loop-bytes-init c = λ es seen. subst (λ xs. HasSeen xs c.args.self.now) (sym (append-nil es)) seen

pub loop-bytes-preserved : goal.loop-bytes-preserved
loop-bytes-preserved c = λ es seen.
    let item = slice_get_read _ _ _ _ refl c.loop-bytes-test.true c.loop-bytes-item.is in
    let same : c.deref.result.now ≡ c.loop-bytes-item.result.1 = cc in
    let more = subst (λ b. HasSeen ((es ++ bytes_of (placed (take c.loop-bytes.bytes-index c.args.page.now))) ++ b ∷ []) c.note.new.self) same (c.note.ensures _ (c.loop-bytes.invariant es seen)) in
    subst (λ xs. HasSeen xs c.note.new.self) (append_assoc es _ (c.loop-bytes-item.result.1 ∷ []) ∙ ap (λ ys. es ++ ys) (sym (entries_take c.args.page.now c.loop-bytes.bytes-index c.loop-bytes-item.result item))) more
