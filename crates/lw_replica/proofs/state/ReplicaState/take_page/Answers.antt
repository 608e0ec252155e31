use Rattle.std.proofs.Common.{◌≡◌, ◌+◌, [], ◌∷◌, Some, take, drop, refl, sym, ap, ◌∙◌, subst}
use Rattle.std.proofs.lemmas.List.{take-append-drop}
use Rattle.std.proofs.lemmas.Option.{slice_get_read}
use Rattle.lw_node.specs.Exchange.{known_by}
use Rattle.lw_log.specs.Calls.{place_of, placed}
use Rattle.lw_replica.specs.declared.state.ReplicaState.{ReplicaState}
use Rattle.lw_replica.specs.Reading.{bytes_of}
use Rattle.lw_replica.specs.inner.Seeing.{IsSeenBy}
use Rattle.lw_replica.specs.inner.Taking.{Takes}
use Rattle.lw_replica.proofs.Knowing.{behind_none, knows_more, merges_known, placed_split}
use Rattle.lw_replica.proofs.Merging.{same_none, same_then}
use Rattle.lw_replica.proofs.Taking.{takes_none, takes_then, entries_take, places_take, seen_at, takes_read, same_read}
use Rattle.lw_replica.specs.inner.Taking.{AreNotTaken, IsNotTaken}
use Rattle.lw_replica.proofs.Refusing.{not_taken_at, raised}
use Rattle.lw_replica.proofs.state.ReplicaState.take_page.Goals as goal

pub loop-position-init : goal.loop-position-init
loop-position-init c = record {
  taken = takes_none c.args.self.now;
  read_to = refl;
  behind = behind_none c.args.self.now (placed c.args.page.now);
  sequence = refl;
  same = same_none c.args.self.now;
  covering = λ asked seen covering. covering;
}

pub returns-in_err-take-clause-behind : goal.returns-in_err-take-clause-behind
returns-in_err-take-clause-behind c =
    let before = c.loop-position.invariant.behind in
    record {
      taken = before.taken;
      left = before.left;
      is = before.is;
      known = knows_more (known_by c.loop-position.self.node) (known_by c.take.new.self.node) (bytes_of before.taken) c.in_err-take.ensures.same.knows before.known;
      read_to = ap place_of c.in_err-take.ensures.read_to ∙ before.read_to;
    }

pub returns-in_err-take-clause-same : goal.returns-in_err-take-clause-same
returns-in_err-take-clause-same c = same_then c.args.self.now c.loop-position.self c.take.new.self c.loop-position.invariant.same c.in_err-take.ensures.same

pub returns-in_err-take-clause-covering : goal.returns-in_err-take-clause-covering
returns-in_err-take-clause-covering c = λ asked seen covering.
    let item = slice_get_read _ _ _ _ refl c.loop-position-test.true c.loop-position-item.is in
    let same : c.deref.result.now ≡ c.loop-position-item.result.1 = cc in
    let own = seen_at asked c.args.page.now c.loop-position.position-index c.loop-position-item.result item seen in
    c.in_err-take.ensures.covering asked (subst (λ b. IsSeenBy asked b) (sym same) own) (c.loop-position.invariant.covering asked seen covering)

pub loop-position-preserved : goal.loop-position-preserved
loop-position-preserved c =
    let item = slice_get_read _ _ _ _ refl c.loop-position-test.true c.loop-position-item.is in
    let same : c.deref.result.now ≡ c.loop-position-item.result.1 = cc in
    let old = c.args.self.now in
    let mid = c.loop-position.self in
    let new = c.take.new.self in
    let one : Takes mid (c.loop-position-item.result.1 ∷ []) new = subst (λ b. Takes mid (b ∷ []) new) same c.in_ok-take.ensures.taken in
    let both = takes_then old mid new _ (c.loop-position-item.result.1 ∷ []) c.loop-position.invariant.taken one in
    let later : ReplicaState = record new { read_to = Some c.loop-position-item.result.0 } in
    let taken : Takes old (bytes_of (placed (take (c.loop-position.position-index + 1) c.args.page.now))) later =
    subst (λ es. Takes old es later) (sym (entries_take c.args.page.now c.loop-position.position-index c.loop-position-item.result item)) (takes_read old new _ (Some c.loop-position-item.result.0) both) in
    let read_to = sym (places_take c.args.page.now c.loop-position.position-index c.loop-position-item.result (place_of old.read_to) item) in
    record {
      taken = taken;
      read_to = read_to;
      behind = record {
        taken = placed (take (c.loop-position.position-index + 1) c.args.page.now);
        left = placed (drop (c.loop-position.position-index + 1) c.args.page.now);
        is = placed_split c.args.page.now (take (c.loop-position.position-index + 1) c.args.page.now) (drop (c.loop-position.position-index + 1) c.args.page.now) (take-append-drop (c.loop-position.position-index + 1) c.args.page.now);
        known = merges_known old.node later.node (bytes_of (placed (take (c.loop-position.position-index + 1) c.args.page.now))) taken.merged;
        read_to = read_to;
      };
      sequence = c.take.ensures.sequence ∙ c.loop-position.invariant.sequence;
      same = same_read old new (Some c.loop-position-item.result.0) (same_then old mid new c.loop-position.invariant.same c.in_ok-take.ensures.same);
      covering = λ asked seen covering.
          let own = seen_at asked c.args.page.now c.loop-position.position-index c.loop-position-item.result item seen in
          let x = c.in_ok-take.ensures.covering asked (subst (λ b. IsSeenBy asked b) (sym same) own) (c.loop-position.invariant.covering asked seen covering) in
          record { written = x.written; up_to = x.up_to };
    }

pub returns-in_err-take-clause-refused : goal.returns-in_err-take-clause-refused
returns-in_err-take-clause-refused c =
    let item = slice_get_read _ _ _ _ refl c.loop-position-test.true c.loop-position-item.is in
    let same : c.deref.result.now ≡ c.loop-position-item.result.1 = cc in
    raised (AreNotTaken c.take.new.self (bytes_of (placed c.args.page.now))) c.from_residual.result c.from_residual.ensures.1
    (not_taken_at c.take.new.self c.args.page.now c.loop-position.position-index c.loop-position-item.result c.in_err-take.field-0.0 item (subst (λ b. IsNotTaken c.take.new.self b c.in_err-take.field-0.0) same c.in_err-take.ensures.refused))
