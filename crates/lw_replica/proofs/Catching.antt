-- Pages of a log that are read and taken, one after another.
use Rattle.std.proofs.Common.{◌≡◌, ◌⊎◌, inl, inr, ℕ, suc, ◌<◌, ◌≤◌, List, [], ◌∷◌, ◌++◌, length, Option, None, Bool, refl, sym, ap, ◌∙◌, subst, append-nil, arith}
use Rattle.lw_log.specs.Calls.{LogCall, Placed, Calls, placed, place_of}
use Rattle.lw_log.specs.Calls.LogCall.{Read}
use Rattle.lw_log.specs.declared.position.Position.{Position}
use Rattle.lw_log.specs.declared.start.Start.{Start}
use Rattle.lw_replica.specs.declared.state.ReplicaState.{ReplicaState}
use Rattle.lw_node.specs.Exchange.{known_by}
use Rattle.lw_node.specs.Node.{NodeContent}
use Rattle.lw_replica.specs.Replica.{IsWritten}
use Rattle.lw_replica.specs.Parts.{IsCovering, IsReplica}
use Rattle.lw_replica.specs.Reading.{AreReads, AreReadToTheEnd, ReadsOn, bytes_of, entries_in, last_read, place_read}
use Rattle.lw_replica.specs.inner.Going.{Goes}
use Rattle.lw_replica.specs.inner.Seeing.{AreSeenBy}
use Rattle.lw_replica.specs.inner.ReplicaState.{HasSameStart}
use Rattle.lw_replica.specs.inner.Taking.{ArePages, IsBehind, IsReadBy, Takes, IsJudged}
use Rattle.lw_replica.proofs.Asking.{calls_none, calls_then, pages_more, pages_end, pages_last, pages_are_reads, reads_more, entries_more, page_seen}
use Rattle.lw_replica.proofs.Covering.{written_more}
use Rattle.lw_replica.proofs.Taking.{takes_none, takes_then, judged_start, judged_then}
use Rattle.lw_replica.proofs.Merging.{same_none, same_then}
use Rattle.lw_replica.proofs.Knowing.{on_pages, by_then, merges_known}

pub record Caught (before : Option (List LogCall)) (old : ReplicaState) (now : Option (List LogCall)) (new : ReplicaState) (own : Bool) : Type 0 where
  pub pages : List LogCall
  pub asked : Calls before now pages
  pub are : ArePages (place_of old.read_to) pages (place_of new.read_to)
  pub takes : Takes old (entries_in pages) new
  pub judged : IsJudged old.claimed old.start.number old.start.tag (entries_in pages) own
  pub same : HasSameStart old new

abbrev pub Asked : Option (List LogCall) → ReplicaState → Option (List LogCall) → ReplicaState → Type 0
Asked before old now new = (pages : List LogCall) × Calls before now pages × AreReads pages × IsReadBy old pages new

pub caught_start : (asked : Option (List LogCall)) (s : ReplicaState) → Caught asked s asked s s.claimed
caught_start asked s = record {
  pages = [];
  asked = calls_none asked;
  are = refl;
  takes = takes_none s;
  judged = judged_start s.claimed s.start.number s.start.tag;
  same = same_none s;
}

-- the log was asked more
pub replica_more : (a b : Option (List LogCall)) (more : List LogCall) (s : ReplicaState) → Calls a b more → IsReplica a s → IsReplica b s
replica_more a b more s asked m = record {
  covering = record { written = written_more a b more s.node s.durable s.written asked m.covering.written; up_to = m.covering.up_to };
  number = m.number;
  floor = m.floor;
}

-- the parts go on, and the log still covers what it is said to
pub replica_same : (asked : Option (List LogCall)) (a b : ReplicaState) → HasSameStart a b → IsCovering asked b → IsReplica asked a → IsReplica asked b
replica_same asked a b same covering m = record {
  covering = covering;
  number = ap (λ (s : Start). s.number) same.start ∙ m.number ∙ sym same.number;
  floor = subst (λ n. n < 262556467200000) (sym same.floor) m.floor;
}

pub length_placed : (page : List (Position × List ℕ)) → length (placed page) ≡ length page
length_placed [] = refl
length_placed (x ∷ xs) = ap suc (length_placed xs)

module _ (a0 a a1 : Option (List LogCall)) (s0 s s1 : ReplicaState) (own later : Bool) (page : List (Position × List ℕ)) (c : Caught a0 s0 a s own)
    (asked : Calls a a1 (Read (place_of s.read_to) (placed page) ∷ [])) (judged : IsJudged own s.start.number s.start.tag (bytes_of (placed page)) later)
    (takes : Takes s (bytes_of (placed page)) s1) (read_to : place_of s1.read_to ≡ place_read (place_of s.read_to) (placed page)) (same : HasSameStart s s1) where
  abbrev all : List LogCall
  all = c.pages ++ Read (place_of s.read_to) (placed page) ∷ []

  is : entries_in all ≡ entries_in c.pages ++ bytes_of (placed page)
  is = entries_more c.pages (place_of s.read_to) (placed page)

  takes_all : Takes s0 (entries_in all) s1
  takes_all = subst (λ es. Takes s0 es s1) (sym is) (takes_then s0 s s1 (entries_in c.pages) (bytes_of (placed page)) c.takes takes)

  judged_all : IsJudged s0.claimed s0.start.number s0.start.tag (entries_in all) later
  judged_all =
      let here : IsJudged own s0.start.number s0.start.tag (bytes_of (placed page)) later = subst (λ (x : Start). IsJudged own x.number x.tag (bytes_of (placed page)) later) c.same.start judged in
      subst (λ es. IsJudged s0.claimed s0.start.number s0.start.tag es later) (sym is) (judged_then s0.claimed own later s0.start.number s0.start.tag (entries_in c.pages) (bytes_of (placed page)) c.judged here)

  same_all : HasSameStart s0 s1
  same_all = same_then s0 s s1 c.same same

  pub caught_page : 256 ≤ length page → Caught a0 s0 a1 s1 later
  caught_page full = record {
    pages = all;
    asked = calls_then a0 a a1 c.pages (Read (place_of s.read_to) (placed page) ∷ []) c.asked asked;
    are = subst (λ p. ArePages (place_of s0.read_to) all p) (sym read_to) (pages_more (place_of s0.read_to) (place_of s.read_to) c.pages (place_of s.read_to) (placed page) c.are refl (let l = length_placed page in omega (arith, l, full)));
    takes = takes_all;
    judged = judged_all;
    same = same_all;
  }

  pub caught_end : length page < 256
      → (pages : List LogCall) × Calls a0 a1 pages × AreReadToTheEnd (place_of s0.read_to) pages × Takes s0 (entries_in pages) s1 × IsJudged s0.claimed s0.start.number s0.start.tag (entries_in pages) later
      × (place_of s1.read_to ≡ last_read (place_of s0.read_to) pages)
  caught_end few = (
    all,
    calls_then a0 a a1 c.pages (Read (place_of s.read_to) (placed page) ∷ []) c.asked asked,
    pages_end (place_of s0.read_to) (place_of s.read_to) c.pages (place_of s.read_to) (placed page) c.are refl (let l = length_placed page in omega (arith, l, few)),
    takes_all,
    judged_all,
    read_to ∙ sym (pages_last (place_of s0.read_to) (place_of s.read_to) c.pages (place_of s.read_to) (placed page) c.are),
  )

-- ---- what was asked, also where it fails
module _ (a0 a : Option (List LogCall)) (s0 s : ReplicaState) (own : Bool) (c : Caught a0 s0 a s own) where
  caught_on : ReadsOn s0.alone (known_by s.node) (place_of s0.read_to) c.pages (place_of s.read_to)
  caught_on = on_pages s0.alone (known_by s.node) (place_of s0.read_to) c.pages (place_of s.read_to) c.are (merges_known s0.node s.node (entries_in c.pages) c.takes.merged)

  caught_reads : AreReads c.pages
  caught_reads = pages_are_reads (place_of s0.read_to) (place_of s.read_to) c.pages c.are

  pub caught_asked : Asked a0 s0 a s
  caught_asked = (c.pages, c.asked, caught_reads, inr caught_on)

  -- the log did not give a page
  pub asked_fault : (b : Option (List LogCall)) (s1 : ReplicaState) → Calls a b [] → s1.node ≡ s.node → (s1.read_to ≡ None) ⊎ (s1.read_to ≡ s.read_to) → Asked a0 s0 b s1
  asked_fault b s1 asked node moved = (
    c.pages,
    subst (λ xs. Calls a0 b xs) (append-nil c.pages) (calls_then a0 a b c.pages [] c.asked asked),
    caught_reads,
    elim moved [
      | inl none ↦ inl (ap place_of none)
      | inr same ↦ inr (subst (λ (p : Option Position). ReadsOn s0.alone (known_by s1.node) (place_of s0.read_to) c.pages (place_of p)) (sym same)
          (subst (λ (n : NodeContent). ReadsOn s0.alone (known_by n) (place_of s0.read_to) c.pages (place_of s.read_to)) (sym node) caught_on))
    ],
  )

  -- it gave one, of which the first entries were taken
  pub asked_page : (b : Option (List LogCall)) (s1 : ReplicaState) (page : List Placed) → Calls a b (Read (place_of s.read_to) page ∷ []) → HasSameStart s s1 → IsBehind s page s1 → Asked a0 s0 b s1
  asked_page b s1 page asked same behind = (
    c.pages ++ Read (place_of s.read_to) page ∷ [],
    calls_then a0 a b c.pages (Read (place_of s.read_to) page ∷ []) c.asked asked,
    reads_more c.pages (place_of s.read_to) page caught_reads,
    by_then s0 s s1 c.pages (Read (place_of s.read_to) page ∷ []) caught_on c.same.alone same.knows (inr (behind.taken, behind.left, behind.is, refl, behind.known, behind.read_to)),
  )

-- what was read was seen
pub page_covers : (a a1 : Option (List LogCall)) (s s1 : ReplicaState) (from : Option (ℕ × ℕ)) (page : List (Position × List ℕ)) → Calls a a1 (Read from (placed page) ∷ [])
    → ((asked : Option (List LogCall)) → AreSeenBy asked (bytes_of (placed page)) → IsCovering asked s → IsCovering asked s1) → HasSameStart s s1 → IsReplica a s → IsReplica a1 s1
page_covers a a1 s s1 from page asked covers same m =
    let more = replica_more a a1 (Read from (placed page) ∷ []) s asked m in
    replica_same a1 s s1 same (covers a1 (page_seen a a1 from (placed page) asked) more.covering) more

-- an append failed, and what was written may be written again
pub replica_failed : (a b : Option (List LogCall)) (more : List LogCall) (s s1 : ReplicaState) → Calls a b more → s1 ≡ record s { read_to = s1.read_to; written = s1.written; durable = s1.durable } → ((asked : Option (List LogCall)) → IsCovering asked s → IsCovering asked s1) → IsReplica a s → IsReplica b s1
replica_failed a b more s s1 asked only covers m =
    let later = replica_more a b more s asked m in
    record {
      covering = covers b later.covering;
      number = ap (λ (x : ReplicaState). x.start.number) only ∙ later.number ∙ sym (ap (λ (x : ReplicaState). x.node.number) only);
      floor = subst (λ n. n < 262556467200000) (sym (ap (λ (x : ReplicaState). x.floor) only)) later.floor;
    }

-- what is covered is not touched
pub replica_parts : (asked : Option (List LogCall)) (a b : ReplicaState) → b.node ≡ a.node → b.durable ≡ a.durable → b.written ≡ a.written → b.start ≡ a.start → b.floor ≡ a.floor → IsReplica asked a → IsReplica asked b
replica_parts asked a b node durable written start floor m = record {
  covering = record {
    written = subst (λ n. IsWritten asked n b.durable b.written) (sym node) (subst (λ l. IsWritten asked a.node l b.written) (sym durable) (subst (λ w. IsWritten asked a.node a.durable w) (sym written) m.covering.written));
    up_to = λ h. written ∙ m.covering.up_to (sym durable ∙ h)
        ∙ ap (λ (n : NodeContent). n.table.count.change) (sym node);
  };
  number = ap (λ (s : Start). s.number) start ∙ m.number ∙ ap (λ (n : NodeContent). n.number) (sym node);
  floor = subst (λ n. n < 262556467200000) (sym floor) m.floor;
}

-- the node goes on, and nothing else changes but whether all is covered
pub replica_goes : (asked : Option (List LogCall)) (a b : ReplicaState) → b ≡ record a { node = b.node; durable = b.durable } → Goes a.node b.node → ((asked : Option (List LogCall)) → IsCovering asked a → IsCovering asked b) → IsReplica asked a → IsReplica asked b
replica_goes asked a b only goes covers m = record {
  covering = covers asked m.covering;
  number = ap (λ (x : ReplicaState). x.start.number) only ∙ m.number ∙ sym goes.number;
  floor = subst (λ n. n < 262556467200000) (sym (ap (λ (x : ReplicaState). x.floor) only)) m.floor;
}

pub replica_claimed : (asked : Option (List LogCall)) (s : ReplicaState) (claimed : Bool) → IsReplica asked s → IsReplica asked (record s { claimed = claimed })
replica_claimed asked s claimed m = record { covering = record { written = m.covering.written; up_to = m.covering.up_to }; number = m.number; floor = m.floor }
