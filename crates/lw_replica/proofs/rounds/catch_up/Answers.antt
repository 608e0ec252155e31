use Rattle.std.proofs.Common.{◌≡◌, ℕ, List, Option, ap, ◌∙◌, ◌++◌, ◌∷◌, [], append-nil, refl, arith, subst}
use Rattle.lw_log.specs.Calls.{LogCall, placed, place_of}
use Rattle.lw_log.specs.Calls.LogCall.{Read}
use Rattle.lw_log.specs.declared.position.Position.{Position}
use Rattle.lw_replica.specs.Parts.{content_of, IsCovering}
use Rattle.lw_replica.specs.Reading.{bytes_of, place_read}
use Rattle.lw_replica.specs.inner.Seeing.{AreSeenBy}
use Rattle.lw_replica.specs.declared.state.ReplicaState.{ReplicaState}
use Rattle.lw_replica.specs.inner.Taking.{AreNotTaken, IsBehind, Takes, IsJudged}
use Rattle.lw_replica.proofs.Catching.{caught_start, caught_page, caught_end, caught_asked, asked_fault, asked_page, replica_failed, replica_more, page_covers}
use Rattle.lw_replica.proofs.Knowing.{behind_none}
use Rattle.lw_replica.proofs.Merging.{same_failed, same_none, same_then}
use Rattle.lw_replica.proofs.Asking.{calls_then}
use Rattle.lw_replica.proofs.Refusing.{raised, refuses_log, refuses_page, refuses_taken}
use Rattle.lw_replica.proofs.rounds.catch_up.Goals as goal

pub loop-page-init : goal.loop-page-init
loop-page-init g c = record { caught = caught_start _ c.args.state.now; sequence = refl; replica = λ m. m }

pub returns-in-Err-clause-asked : goal.returns-in-Err-clause-asked
returns-in-Err-clause-asked g c =
    asked_fault _ _ _ _ _ c.loop-page.invariant.caught _ c.failed.new.self c.in-Err.ensures (ap (λ (x : ReplicaState). x.node) c.failed.ensures.only) c.failed.ensures.read_to

pub returns-in-Err-clause-same : goal.returns-in-Err-clause-same
returns-in-Err-clause-same g c = same_then _ _ _ c.loop-page.invariant.caught.same (same_failed c.loop-page.state c.failed.new.self c.failed.ensures.only)

pub returns-in-Err-clause-replica : goal.returns-in-Err-clause-replica
returns-in-Err-clause-replica g c = λ m. replica_failed _ _ _ _ _ c.in-Err.ensures c.failed.ensures.only c.failed.ensures.covering (c.loop-page.invariant.replica m)

pub returns-in_err-own-clause-asked : goal.returns-in_err-own-clause-asked
returns-in_err-own-clause-asked g c =
    asked_page _ _ _ _ _ c.loop-page.invariant.caught _ c.loop-page.state _ c.in-Ok.ensures (same_none c.loop-page.state) (behind_none c.loop-page.state _)

pub returns-in_err-own-clause-replica : goal.returns-in_err-own-clause-replica
returns-in_err-own-clause-replica g c = λ m. replica_more _ _ _ _ c.in-Ok.ensures (c.loop-page.invariant.replica m)

pub returns-in_err-take_page-clause-asked : goal.returns-in_err-take_page-clause-asked
returns-in_err-take_page-clause-asked g c =
    let behind = subst (λ (p : List (Position × List ℕ)). IsBehind c.loop-page.state (placed p) c.take_page.new.self) c.deref-in-loop-page.ensures.value c.take_page.ensures.behind in
    asked_page _ _ _ _ _ c.loop-page.invariant.caught _ c.take_page.new.self _ c.in-Ok.ensures c.take_page.ensures.same behind

pub returns-in_err-take_page-clause-same : goal.returns-in_err-take_page-clause-same
returns-in_err-take_page-clause-same g c = same_then _ _ _ c.loop-page.invariant.caught.same c.take_page.ensures.same

pub returns-in_err-take_page-clause-replica : goal.returns-in_err-take_page-clause-replica
returns-in_err-take_page-clause-replica g c = λ m.
    let s0 = c.args.state.now in
    let s = c.loop-page.state in
    let s1 = c.take_page.new.self in
    let page = c.in-Ok.page.items in
    let covers = subst (λ (p : List (Position × List ℕ)). (asked : Option (List LogCall)) → AreSeenBy asked (bytes_of (placed p)) → IsCovering asked s → IsCovering asked s1) c.deref-in-loop-page.ensures.value c.in_err-take_page.ensures.covering in
    page_covers _ _ s s1 _ page c.in-Ok.ensures covers c.in_err-take_page.ensures.same (c.loop-page.invariant.replica m)

pub returns-then-len-lt-PAGE-clause-read : goal.returns-then-len-lt-PAGE-clause-read
returns-then-len-lt-PAGE-clause-read g c =
    let s0 = c.args.state.now in
    let s = c.loop-page.state in
    let s1 = c.take_page.new.self in
    let page = c.in-Ok.page.items in
    let judged = subst (λ (p : List (Position × List ℕ)). IsJudged c.loop-page.own s.start.number s.start.tag (bytes_of (placed p)) c.in_ok-own.own) c.deref.ensures.value c.in_ok-own.ensures.judged in
    let same2 = c.deref-in-loop-page.ensures.value in
    let takes = subst (λ (p : List (Position × List ℕ)). Takes s (bytes_of (placed p)) s1) same2 c.in_ok-take_page.ensures.taken in
    let read_to = subst (λ (p : List (Position × List ℕ)). place_of s1.read_to ≡ place_read (place_of s.read_to) (placed p)) same2 c.in_ok-take_page.ensures.read_to in
    caught_end _ _ _ s0 s s1 c.loop-page.own c.in_ok-own.own page c.loop-page.invariant.caught c.in-Ok.ensures judged takes read_to c.in_ok-take_page.ensures.same (omega (arith, c.len.ensures, c.if-len-lt-PAGE.true))

pub returns-then-len-lt-PAGE-clause-asked : goal.returns-then-len-lt-PAGE-clause-asked
returns-then-len-lt-PAGE-clause-asked g c =
    let behind = subst (λ (p : List (Position × List ℕ)). IsBehind c.loop-page.state (placed p) c.take_page.new.self) c.deref-in-loop-page.ensures.value c.take_page.ensures.behind in
    asked_page _ _ _ _ _ c.loop-page.invariant.caught _ c.take_page.new.self _ c.in-Ok.ensures c.take_page.ensures.same behind

pub returns-then-len-lt-PAGE-clause-same : goal.returns-then-len-lt-PAGE-clause-same
returns-then-len-lt-PAGE-clause-same g c = same_then _ _ _ c.loop-page.invariant.caught.same c.take_page.ensures.same

pub returns-then-len-lt-PAGE-clause-replica : goal.returns-then-len-lt-PAGE-clause-replica
returns-then-len-lt-PAGE-clause-replica g c = λ m.
    let s0 = c.args.state.now in
    let s = c.loop-page.state in
    let s1 = c.take_page.new.self in
    let page = c.in-Ok.page.items in
    let covers = subst (λ (p : List (Position × List ℕ)). (asked : Option (List LogCall)) → AreSeenBy asked (bytes_of (placed p)) → IsCovering asked s → IsCovering asked s1) c.deref-in-loop-page.ensures.value c.in_ok-take_page.ensures.covering in
    page_covers _ _ s s1 _ page c.in-Ok.ensures covers c.in_ok-take_page.ensures.same (c.loop-page.invariant.replica m)

pub loop-page-preserved : goal.loop-page-preserved
loop-page-preserved g c =
    let s0 = c.args.state.now in
    let s = c.loop-page.state in
    let s1 = c.take_page.new.self in
    let page = c.in-Ok.page.items in
    let judged = subst (λ (p : List (Position × List ℕ)). IsJudged c.loop-page.own s.start.number s.start.tag (bytes_of (placed p)) c.in_ok-own.own) c.deref.ensures.value c.in_ok-own.ensures.judged in
    let same2 = c.deref-in-loop-page.ensures.value in
    let takes = subst (λ (p : List (Position × List ℕ)). Takes s (bytes_of (placed p)) s1) same2 c.in_ok-take_page.ensures.taken in
    let read_to = subst (λ (p : List (Position × List ℕ)). place_of s1.read_to ≡ place_read (place_of s.read_to) (placed p)) same2 c.in_ok-take_page.ensures.read_to in
    let covers = subst (λ (p : List (Position × List ℕ)). (asked : Option (List LogCall)) → AreSeenBy asked (bytes_of (placed p)) → IsCovering asked s → IsCovering asked s1) same2 c.in_ok-take_page.ensures.covering in
    record {
      caught = caught_page _ _ _ s0 s s1 c.loop-page.own c.in_ok-own.own page c.loop-page.invariant.caught c.in-Ok.ensures judged takes read_to c.in_ok-take_page.ensures.same (omega (arith, c.len.ensures, c.if-len-lt-PAGE.false));
      sequence = c.take_page.ensures.sequence ∙ c.loop-page.invariant.sequence;
      replica = λ m. page_covers _ _ s s1 _ page c.in-Ok.ensures covers c.in_ok-take_page.ensures.same (c.loop-page.invariant.replica m);
    }

pub returns-clause-asked : goal.returns-clause-asked
returns-clause-asked g c = caught_asked _ _ _ _ _ c.loop-page.invariant.caught

pub returns-in-Err-clause-sequence : goal.returns-in-Err-clause-sequence
returns-in-Err-clause-sequence g c = ap (λ (x : ReplicaState). x.sequence) c.failed.ensures.only ∙ c.loop-page.invariant.sequence

pub returns-in_err-take_page-clause-sequence : goal.returns-in_err-take_page-clause-sequence
returns-in_err-take_page-clause-sequence g c = c.take_page.ensures.sequence ∙ c.loop-page.invariant.sequence

pub returns-then-len-lt-PAGE-clause-sequence : goal.returns-then-len-lt-PAGE-clause-sequence
returns-then-len-lt-PAGE-clause-sequence g c = c.take_page.ensures.sequence ∙ c.loop-page.invariant.sequence

pub returns-in-Err-clause-refused : goal.returns-in-Err-clause-refused
returns-in-Err-clause-refused g c =
    let caught = c.loop-page.invariant.caught in
    refuses_log (content_of _ c.args.state.now) (content_of _ c.failed.new.self) (caught.pages ++ []) c.in-Err.fault _ c.from.ensures (calls_then _ _ _ caught.pages [] caught.asked c.in-Err.ensures)

pub returns-in_err-own-clause-refused : goal.returns-in_err-own-clause-refused
returns-in_err-own-clause-refused g c =
    let caught = c.loop-page.invariant.caught in
    raised _ c.from_residual.result c.from_residual.ensures.1 (refuses_taken (content_of _ c.args.state.now) (content_of _ c.loop-page.state) (caught.pages ++ Read _ _ ∷ []) _ c.in_err-own.ensures.taken (calls_then _ _ _ caught.pages (Read _ _ ∷ []) caught.asked c.in-Ok.ensures))

pub returns-in_err-take_page-clause-refused : goal.returns-in_err-take_page-clause-refused
returns-in_err-take_page-clause-refused g c =
    let caught = c.loop-page.invariant.caught in
    let page = c.in-Ok.page.items in
    let s1 = c.take_page.new.self in
    let why = subst (λ (p : List (Position × List ℕ)). AreNotTaken s1 (bytes_of (placed p)) c.in_err-take_page.field-0.0) c.deref-in-loop-page.ensures.value c.in_err-take_page.ensures.refused in
    raised _ c.from_residual-in_err-take_page.result c.from_residual-in_err-take_page.ensures.1 (refuses_page _ _ _ c.args.state.now s1 caught.pages (Read (place_of c.loop-page.state.read_to) (placed page) ∷ []) (bytes_of (placed page)) c.in_err-take_page.field-0.0 caught.asked c.in-Ok.ensures (append-nil (bytes_of (placed page))) why)

pub returns-clause-refused : goal.returns-clause-refused
returns-clause-refused g c = record { more = c.loop-page.invariant.caught.pages; asked = c.loop-page.invariant.caught.asked; why = tt }
