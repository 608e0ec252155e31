use Rattle.std.proofs.Common.{◌≡◌, map, Ok, IfOk, subst}
use Rattle.lw_fleet.specs.Program.{Reads}
use Rattle.lw_fleet.proofs.running.program.Goals as goal

pub returns-in-Ok-clause-unread : goal.returns-in-Ok-clause-unread
returns-in-Ok-clause-unread g c =
    let is : Ok c.in-Ok.words ≡ c.args.words.now = cc in
    subst (λ r. IfOk r (λ words. (Reads (map g.S.AsStr.text words.items) → ⊥) → c.run_words.new.reader ≡ c.args.reader.now)) is
    (λ none. c.run_words.ensures.unread (λ reads. none (subst (λ items. Reads (map g.S.AsStr.text items)) c.deref.ensures.value reads)))
