use Rattle.std.proofs.Common.{◌≡◌, Some, None, refl, sym, subst}
use Rattle.std.proofs.lemmas.Option.{slice_get_read}
use Rattle.lw_replica.specs.Reading.{IsFree}
use Rattle.lw_replica.specs.inner.Taking.{IsJudgedEntry, IsJudgedPage}
use Rattle.lw_replica.proofs.Taking.{entries_take, entries_split, page_judged, free_more}
use Rattle.lw_replica.proofs.state.ReplicaState.judge.Goals as goal

pub loop-bytes-preserved : goal.loop-bytes-preserved
loop-bytes-preserved c =
    let item = slice_get_read _ _ _ _ refl c.loop-bytes-test.true c.loop-bytes-item.is in
    let start = c.args.self.now.start in
    let same : c.deref.result.now ≡ c.loop-bytes-item.result.1 = cc in
    subst (λ es. IsFree start.number es) (sym (entries_take c.args.page.now c.loop-bytes.bytes-index c.loop-bytes-item.result item)) (free_more start.number start.tag _ c.loop-bytes-item.result.1 c.loop-bytes.invariant (subst (λ b. IsJudgedEntry start.number start.tag b None) same c.in-None.ensures))

pub returns-in-Some : goal.returns-in-Some
returns-in-Some c =
    let item = slice_get_read _ _ _ _ refl c.loop-bytes-test.true c.loop-bytes-item.is in
    let start = c.args.self.now.start in
    let same : c.deref.result.now ≡ c.loop-bytes-item.result.1 = cc in
    let s = entries_split c.args.page.now c.loop-bytes.bytes-index c.loop-bytes-item.result item in
    subst (λ es. IsJudgedPage start.number start.tag es (Some c.in-Some.own)) (sym s.1) (page_judged start.number start.tag _ c.loop-bytes-item.result.1 c.in-Some.own c.loop-bytes.invariant (subst (λ b. IsJudgedEntry start.number start.tag b (Some c.in-Some.own)) same c.in-Some.ensures) s.0)
