-- What the looks at the parts add up to.
use Rattle.std.proofs.Common.{◌≡◌, ℕ, ◌+◌, ◌-◌, ◌<◌, ◌≤◌, List, length, Option, Some, None, Bool, true, false, ◌↔◌, refl, sym, ap, ◌∙◌, subst, ◌⊎◌, inl, inr, arith}
use Rattle.std.specs.Prelude.{slice_get, min, max, IfNone, IsTrue}
use Rattle.std.proofs.lemmas.Option.{slice_get_within, slice_get_cases}
use Rattle.std.proofs.lemmas.Bool.{cases_lt}
use borrow.Author.Count.{below_more}
use Rattle.lw_held.specs.declared.entry.Entry.{Entry}
use Rattle.lw_held.specs.declared.entry.Part.{Part}
use Rattle.lw_held.specs.declared.agreeing.Look.{Look}
use Rattle.lw_held.specs.Transcript.{Transcript, IsNumbered}
use Rattle.lw_held.specs.History.{HeldContent, VolumeContent}
use Rattle.lw_held.specs.Agree.{AreDistinct, IsPart, IsOf, IsInOrder, IsFineIn, IsFirstBreak, IsEntryAt, IsPiece, IsVolumeOf, IsLaid, Covers, journal_of}
use Rattle.lw_held.specs.inner.Looks.{IsThere, Fits, FitBelow, IsAfter, IsLast, lesser_of, greater_of, Knows, Looks, Has, HasBelow, IsTold, AllFitBelow, AllToldBelow, IsPieceBelow}

pub same_some : {A : Type 0} (x y : A) (o : Option A) → o ≡ Some x → o ≡ Some y → x ≡ y
same_some x y o p q = let e : Some x ≡ Some y = sym p ∙ q in cc

-- where nothing is found, what follows from that holds too
pub none_wide : (o : Option ℕ) (P Q : Type 0) → (P → Q) → IfNone o P → IfNone o Q
none_wide None P Q f p = f p
none_wide (Some i) P Q f p = p

min_cases : (p q : ℕ) → ((min p q ≡ p) × (p ≤ q)) ⊎ ((min p q ≡ q) × (q ≤ p))
min_cases p q = elim (cases_lt p q) [ inl l ↦ inl (omega arith, omega arith) | inr l ↦ inr (omega arith, omega arith) ]

module _ {P Q S : ℕ → Type 0} (to : (p : ℕ) → P p → Q p → S p) (from : (p : ℕ) → S p → P p × Q p) where
  pub breaks_both : (a b : Option ℕ) → IsFirstBreak P a → IsFirstBreak Q b → IsFirstBreak S (lesser_of a b)
  breaks_both None None h k = λ p. to p (h p) (k p)
  breaks_both None (Some q) h k = (λ s. k.0 (from q s).1, λ r lt. to r (h r) (k.1 r lt))
  breaks_both (Some p) None h k = (λ s. h.0 (from p s).0, λ r lt. to r (h.1 r lt) (k r))
  breaks_both (Some p) (Some q) h k =
      let least : ¬ S (min p q) = elim (min_cases p q) [
        | inl w ↦ λ s. h.0 (from p (subst S w.0 s)).0
        | inr w ↦ λ s. k.0 (from q (subst S w.0 s)).1
      ] in
      (least, λ r lt. to r (h.1 r (omega arith)) (k.1 r (omega arith)))

module _ {P S : ℕ → Type 0} (to : (p : ℕ) → P p → S p) (from : (p : ℕ) → S p → P p) where
  pub breaks_alike : (a : Option ℕ) → IsFirstBreak P a → IsFirstBreak S a
  breaks_alike None h = λ p. to p (h p)
  breaks_alike (Some p) h = (λ s. h.0 (from p s), λ r lt. to r (h.1 r lt))

max_cases : (p q : ℕ) → (max p q ≡ p) ⊎ (max p q ≡ q)
max_cases p q = elim (cases_lt p q) [ inl l ↦ inr (omega arith) | inr l ↦ inl (omega arith) ]

lesser_none : (o : Option ℕ) → lesser_of o None ≡ o
lesser_none None = refl
lesser_none (Some p) = refl

module _ (node : ℕ) (volumes : List VolumeContent) (held : HeldContent) (ts : List Part) (n : ℕ) (t : Part) (item : slice_get ts n ≡ Some t) where
  ThisFits : ℕ → Type 0
  ThisFits p = IsOf node p t → Fits node volumes held ts n t

  one_more : (p : ℕ) → FitBelow node volumes held ts n p → (IsOf node p t → Fits node volumes held ts n t) → FitBelow node volumes held ts (n + 1) p
  one_more p f g = λ k u lt at of.
      below_more (λ j. (w : Part) → slice_get ts j ≡ Some w → IsOf node p w → Fits node volumes held ts j w) n
      (λ j l w a o. f j w l a o)
      (λ w a o. let e : t ≡ w = same_some t w _ item a in subst (λ v. Fits node volumes held ts n v) e (g (subst (λ v. IsOf node p v) (sym e) o)))
      k lt u at of

  one_less : (p : ℕ) → FitBelow node volumes held ts (n + 1) p → FitBelow node volumes held ts n p × (IsOf node p t → Fits node volumes held ts n t)
  one_less p s = (λ k u lt at of. s k u (omega arith) at of, λ of. s n t (omega arith) item of)

  order_after : (p : ℕ) (o : Option ℕ) → IsLast node ts n o → IsAfter o p → IsInOrder node ts n p
  order_after p None h a = λ j u lt at is. absurd (h j u lt at is)
  order_after p (Some q) h a = λ j u lt at is. let le : u.place ≤ q = h.1 j u lt at is in omega arith

  after_order : (p : ℕ) (o : Option ℕ) → IsLast node ts n o → IsInOrder node ts n p → IsAfter o p
  after_order p None h a = tt
  after_order p (Some q) h a = let w = h.0 in let lt : w.1.place < p = a w.0 w.1 w.2 w.3 w.4.0 in subst (λ r. r < p) w.4.1 lt

  last_skip : (o : Option ℕ) → ¬ (t.node ≡ node) → IsLast node ts n o → IsLast node ts (n + 1) o
  last_skip None ne h = λ j u lt at is. below_more (λ i. (w : Part) → slice_get ts i ≡ Some w → w.node ≡ node → ⊥) n (λ i l w a e. h i w l a e) (λ w a e. ne (ap (λ (v : Part). v.node) (same_some t w _ item a) ∙ e)) j lt u at is
  last_skip (Some p) ne h = let w = h.0 in ((w.0, w.1, omega (arith, w.2), w.3, w.4), λ j u lt at is. below_more (λ i. (w : Part) → slice_get ts i ≡ Some w → w.node ≡ node → w.place ≤ p) n (λ i l w a e. h.1 i w l a e) (λ w a e. absurd (ne (ap (λ (v : Part). v.node) (same_some t w _ item a) ∙ e))) j lt u at is)

  last_more : (o : Option ℕ) → t.node ≡ node → IsLast node ts n o → IsLast node ts (n + 1) (greater_of o t.place)
  last_more None same h = ((n, t, omega arith, item, (same, refl)), λ j u lt at is. below_more (λ i. (w : Part) → slice_get ts i ≡ Some w → w.node ≡ node → w.place ≤ t.place) n (λ i l w a e. absurd (h i w l a e)) (λ w a e. let q : t.place ≡ w.place = ap (λ (v : Part). v.place) (same_some t w _ item a) in omega arith) j lt u at is)
  last_more (Some p) same h =
      let w = h.0 in
      let found : (j : ℕ) × (u : Part) × (j < n + 1) × (slice_get ts j ≡ Some u) × IsOf node (max p t.place) u = elim (max_cases p t.place) [
        | inl m ↦ (w.0, w.1, omega (arith, w.2), w.3, (w.4.0, w.4.1 ∙ sym m))
        | inr m ↦ (n, t, omega arith, item, (same, sym m))
      ] in
      (found, λ j u lt at is. below_more (λ i. (w : Part) → slice_get ts i ≡ Some w → w.node ≡ node → w.place ≤ max p t.place) n (λ i l w a e. let le : w.place ≤ p = h.1 i w l a e in omega arith) (λ w a e. let q : t.place ≡ w.place = ap (λ (v : Part). v.place) (same_some t w _ item a) in omega arith) j lt u at is)

  pub knows_more : (old new : Look) → Knows node volumes held ts n old → Looks node volumes held t old new → Knows node volumes held ts (n + 1) new
  knows_more old new k l = elim l [
    | inl a ↦ subst (λ o. Knows node volumes held ts (n + 1) o) (sym a.1) (record {
      least = subst (λ o. IsFirstBreak (FitBelow node volumes held ts (n + 1)) o) (lesser_none old.least)
          (breaks_both {P = FitBelow node volumes held ts n} {Q = λ p. IsOf node p t → Fits node volumes held ts n t} one_more one_less old.least None k.least (λ p of. absurd (a.0 of.0)));
      last = last_skip old.last a.0 k.last;
    })
    | inr r ↦ elim r [
      | inl b ↦ subst (λ o. Knows node volumes held ts (n + 1) o) (sym b.3) (record {
        least = subst (λ o. IsFirstBreak (FitBelow node volumes held ts (n + 1)) o) (lesser_none old.least)
            (breaks_both {P = FitBelow node volumes held ts n} {Q = λ p. IsOf node p t → Fits node volumes held ts n t} one_more one_less old.least None k.least (λ p of. (b.1, order_after t.place old.last k.last b.2)));
        last = last_more old.last b.0 k.last;
      })
      | inr d ↦ subst (λ o. Knows node volumes held ts (n + 1) o) (sym d.2) (record {
        least = breaks_both {P = FitBelow node volumes held ts n} {Q = λ p. IsOf node p t → Fits node volumes held ts n t} one_more one_less old.least (Some t.place) k.least
            (λ g. let f = g (d.0, refl) in d.1 (f.0, after_order t.place old.last k.last f.1), λ q lt of. absurd (omega (arith, of.1)));
        last = last_more old.last d.0 k.last;
      })
    ]
  ]

pub knows_all : (node : ℕ) (volumes : List VolumeContent) (held : HeldContent) (ts : List Part) (n : ℕ) (o : Look) → length ts ≤ n → n ≤ length ts → Knows node volumes held ts n o → IsFirstBreak (FitBelow node volumes held ts (length ts)) o.least
knows_all node volumes held ts n o a b k = let e : n ≡ length ts = omega arith in subst (λ m. IsFirstBreak (FitBelow node volumes held ts m) o.least) e k.least

-- all passes
module _ (node : ℕ) (volumes : List VolumeContent) (held : HeldContent) (xs : List Transcript) (n : ℕ) (x : Transcript) (item : slice_get xs n ≡ Some x) where
  pub all_more : (a b : Option ℕ) → IsFirstBreak (AllFitBelow node volumes held xs n) a → IsFirstBreak (FitBelow node volumes held x.parts (length x.parts)) b → IsFirstBreak (AllFitBelow node volumes held xs (n + 1)) (lesser_of a b)
  all_more = breaks_both {P = AllFitBelow node volumes held xs n} {Q = FitBelow node volumes held x.parts (length x.parts)}
      (λ p f g. λ i y lt at. below_more (λ j. (w : Transcript) → slice_get xs j ≡ Some w → FitBelow node volumes held w.parts (length w.parts) p) n
      (λ j l w a. f j w l a)
      (λ w a. subst (λ (v : Transcript). FitBelow node volumes held v.parts (length v.parts) p) (same_some x w _ item a) g)
      i lt y at)
      (λ p s. (λ i y lt at. s i y (omega arith) at, s n x (omega arith) item))

-- ---- entries and their places
-- an entry for the place is in a piece that has it, and the other way round
pub covers_entry : (piece : VolumeContent) (place : ℕ) (entry : Entry) → IsEntryAt piece.first piece.entries place entry → Covers piece place
covers_entry piece place entry at =
    let within = slice_get_within piece.entries at.0 entry at.2 in
    let is = at.1 in
    (omega (arith, is), omega (arith, is, within))

pub entry_of : (piece : VolumeContent) (place : ℕ) → Covers piece place → (entry : Entry) × IsEntryAt piece.first piece.entries place entry
entry_of piece place covers = elim (slice_get_cases piece.entries (place - piece.first)).1 [
  | inl w ↦ (w.0, (place - piece.first, (let low = covers.0 in omega (arith, low)), w.2))
  | inr w ↦ absurd (let past = w.0 in let low = covers.0 in let high = covers.1 in omega (arith, past, low, high))
]

-- an entry for the place is one too where the same entries have the same first place
pub same_entry : (first start : ℕ) (entries others : List Entry) (place : ℕ) (e : Entry) → first ≡ start → entries ≡ others → IsEntryAt first entries place e → IsEntryAt start others place e
same_entry first start entries others place e first_is entries_are at =
    subst (λ es. IsEntryAt start es place e) entries_are (subst (λ q. IsEntryAt q entries place e) first_is at)

-- there is one entry for the place
pub one_entry : (first : ℕ) (entries : List Entry) (place : ℕ) (e f : Entry) → IsEntryAt first entries place e → IsEntryAt first entries place f → e ≡ f
one_entry first entries place e f one other =
    let here = one.1 in
    let there = other.1 in
    let same : one.0 ≡ other.0 = omega (arith, here, there) in
    same_some e f _ one.2 (subst (λ k. slice_get entries k ≡ Some f) (sym same) other.2)

-- ---- fine places
module _ (node : ℕ) (volumes : List VolumeContent) (held : HeldContent) where
  -- of a place that is laid one piece has it
  pub one_piece : (p : ℕ) → IsLaid node volumes held p → (w v : Option ℕ) (one other : VolumeContent) → IsPiece node volumes held w one → IsPiece node volumes held v other → Covers one p → Covers other p → one ≡ other
  one_piece p laid None None one other a b c d = a ∙ sym b
  one_piece p laid None (Some j) one other a b c d =
      let low : held.first ≤ p = subst (λ (x : VolumeContent). x.first ≤ p) a c.0 in
      let high = laid.0.behind j other b d in
      absurd (omega (arith, low, high))
  one_piece p laid (Some i) None one other a b c d =
      let low : held.first ≤ p = subst (λ (x : VolumeContent). x.first ≤ p) b d.0 in
      let high = laid.0.behind i one a c in
      absurd (omega (arith, low, high))
  one_piece p laid (Some i) (Some j) one other a b c d =
      let same = laid.0.single i j one other a b c d in
      same_some one other _ a.0 (subst (λ k. slice_get volumes k ≡ Some other) (sym same) b.0)

  -- and so of it there is one entry
  pub one_there : (p : ℕ) → IsLaid node volumes held p → (w v : Option ℕ) (one other : VolumeContent) → IsPiece node volumes held w one → IsPiece node volumes held v other → (e f : Entry) → IsEntryAt one.first one.entries p e → IsEntryAt other.first other.entries p f → e ≡ f
  one_there p laid w v one other a b e f here there =
      let same = one_piece p laid w v one other a b (covers_entry one p e here) (covers_entry other p f there) in
      one_entry one.first one.entries p e f here (subst (λ (x : VolumeContent). IsEntryAt x.first x.entries p f) (sym same) there)

  -- all pieces are those of all volumes
  pub piece_below : (w : Option ℕ) (piece : VolumeContent) → IsPiece node volumes held w piece → IsPieceBelow node volumes held (length volumes) w piece
  piece_below None piece is = is
  piece_below (Some i) piece is = (slice_get_within volumes i piece is.0, is)

  pub piece_of_below : (n : ℕ) (w : Option ℕ) (piece : VolumeContent) → IsPieceBelow node volumes held n w piece → IsPiece node volumes held w piece
  piece_of_below n None piece is = is
  piece_of_below n (Some i) piece is = is.1

module _ (node : ℕ) (volumes : List VolumeContent) (held : HeldContent) (xs : List Transcript) (distinct : AreDistinct xs) (numbered : (i : ℕ) (x : Transcript) → slice_get xs i ≡ Some x → IsNumbered x) where
  -- what the parts and the entries say of a place
  abbrev pub Meet : ℕ → Type 0
  Meet p = AllFitBelow node volumes held xs (length xs) p × AllToldBelow node volumes held xs (length volumes) p

  pub meet_breaks : (a b : Option ℕ) → IsFirstBreak (AllFitBelow node volumes held xs (length xs)) a → IsFirstBreak (AllToldBelow node volumes held xs (length volumes)) b → IsFirstBreak Meet (lesser_of a b)
  meet_breaks = breaks_both {P = AllFitBelow node volumes held xs (length xs)} {Q = AllToldBelow node volumes held xs (length volumes)} (λ p f g. (f, g)) (λ p h. h)

  fine_from : (p : ℕ) → Meet p → IsLaid node volumes held p → IsFineIn node volumes held xs p
  fine_from p meet laid =
      let fits : (i k : ℕ) (x : Transcript) (t : Part) → IsPart xs i k x t → IsOf node p t → Fits node volumes held x.parts k t =
      λ i k x t is of. meet.0 i x (slice_get_within xs i x is.pass_is) is.pass_is k t (slice_get_within x.parts k t is.part_is) is.part_is of in
      let there : (i k : ℕ) (x : Transcript) (t : Part) → IsPart xs i k x t → IsOf node p t → (w : Option ℕ) × (piece : VolumeContent) × IsPiece node volumes held w piece × IsEntryAt piece.first piece.entries p t.entry =
      λ i k x t is of. let f = (fits i k x t is of).0 in (f.0, f.1, f.2, subst (λ q. IsEntryAt f.1.first f.1.entries q t.entry) of.1 f.3) in
      record {
        told = λ w piece e is_piece at.
            let below = meet.1 w piece (piece_below node volumes held w piece is_piece) e at in
            let v = below.4 in
            let is : IsPart xs below.0 e.number below.1 v.1 = record { pass_is = below.3; part_is = v.2 } in
            let own = there below.0 e.number below.1 v.1 is v.3 in
            record {
              i = below.0;
              k = e.number;
              pass = below.1;
              part = v.1;
              is = is;
              of = v.3;
              same = one_there node volumes held p laid own.0 w own.1 piece own.2 is_piece v.1.entry e own.3 at;
              own = v.0;
              order = subst (λ q. IsInOrder node below.1.parts e.number q) v.3.1 (fits below.0 e.number below.1 v.1 is v.3).1;
            };
        alone = λ i k j l x y t u is of is2 of2.
            let one = there i k x t is of in
            let two = there j l y u is2 of2 in
            let same : t.entry ≡ u.entry = one_there node volumes held p laid one.0 two.0 one.1 two.1 one.2 two.2 t.entry u.entry one.3 two.3 in
            let a = numbered i x is.pass_is k t is.part_is in
            let b = numbered j y is2.pass_is l u is2.part_is in (
              distinct i j x y is.pass_is is2.pass_is (sym a.0 ∙ ap (λ (f : Entry). f.pass) same ∙ b.0),
              sym a.1 ∙ ap (λ (f : Entry). f.number) same ∙ b.1,
            );
        within = λ i k x t is of.
            let f = there i k x t is of in
            (f.0, f.1, f.2, covers_entry f.1 p t.entry f.3);
        laid = laid;
      }

  fine_to : (p : ℕ) → IsFineIn node volumes held xs p → Meet p × IsLaid node volumes held p
  fine_to p fine = (
    (
      λ i x lt atx k t ltk att of.
          let is : IsPart xs i k x t = record { pass_is = atx; part_is = att } in
          let in_piece = fine.within i k x t is of in
          let entry = entry_of in_piece.1 p in_piece.3 in
          let h = fine.told in_piece.0 in_piece.1 entry.0 in_piece.2 entry.1 in
          let one = fine.alone i k h.i h.k x h.pass t h.part is of h.is h.of in
          let x_is : x ≡ h.pass = same_some x h.pass _ atx (subst (λ m. slice_get xs m ≡ Some h.pass) (sym one.0) h.is.pass_is) in
          let t_is : t ≡ h.part = same_some t h.part _ att (subst (λ m. slice_get x.parts m ≡ Some h.part) (sym one.1) (subst (λ (v : Transcript). slice_get v.parts h.k ≡ Some h.part) (sym x_is) h.is.part_is)) in
          let entry_is : entry.0 ≡ t.entry = sym h.same ∙ ap (λ (v : Part). v.entry) (sym t_is) in
          let here : IsEntryAt in_piece.1.first in_piece.1.entries t.place t.entry = subst (λ q. IsEntryAt in_piece.1.first in_piece.1.entries q t.entry) (sym of.1) (subst (λ e. IsEntryAt in_piece.1.first in_piece.1.entries p e) entry_is entry.1) in
          let order : IsInOrder node x.parts k t.place = subst (λ q. IsInOrder node x.parts k q) (sym of.1) (subst (λ m. IsInOrder node x.parts m p) (sym one.1) (subst (λ (v : Transcript). IsInOrder node v.parts h.k p) (sym x_is) h.order)) in
          ((in_piece.0, in_piece.1, in_piece.2, here), order),
      λ w piece below e at.
          let h = fine.told w piece e (piece_of_below node volumes held (length volumes) w piece below) at in
          let own : h.k ≡ e.number = sym (numbered h.i h.pass h.is.pass_is h.k h.part h.is.part_is).1 ∙ ap (λ (f : Entry). f.number) h.same in
          (h.i, h.pass, slice_get_within xs h.i h.pass h.is.pass_is, h.is.pass_is, (h.own, h.part, subst (λ m. slice_get h.pass.parts m ≡ Some h.part) own h.is.part_is, h.of)),
    ),
    fine.laid,
  )

  pub fine_breaks : (a b : Option ℕ) → IsFirstBreak Meet a → IsFirstBreak (IsLaid node volumes held) b → IsFirstBreak (IsFineIn node volumes held xs) (lesser_of a b)
  fine_breaks = breaks_both {P = Meet} {Q = IsLaid node volumes held} fine_from fine_to

-- where neither the journal nor a volume has the part's entry, no piece has
pub not_there : (node : ℕ) (volumes : List VolumeContent) (held : HeldContent) (part : Part) → ¬ IsEntryAt held.first held.journal part.place part.entry
    → ((i : ℕ) (volume : VolumeContent) → IsVolumeOf node volumes i volume → ¬ IsEntryAt volume.first volume.entries part.place part.entry) → IsTrue false ↔ IsThere node volumes held part
not_there node volumes held part journal each = ((λ yes. absurd (let no : false ≡ true = yes in cc)), (λ w. absurd (none w.0 w.1 w.2 w.3)))
  where
    none : (w : Option ℕ) (piece : VolumeContent) → IsPiece node volumes held w piece → ¬ IsEntryAt piece.first piece.entries part.place part.entry
    none None piece is at = journal (subst (λ (v : VolumeContent). IsEntryAt v.first v.entries part.place part.entry) is at)
    none (Some i) piece is at = each i piece is at

-- the entry at an index is told at the place that it has
pub told_at : (node first : ℕ) (entries : List Entry) (xs : List Transcript) (index : ℕ) (e : Entry) → slice_get entries index ≡ Some e → HasBelow node (first + index) e xs (length xs) → IsTold node first entries xs (first + index)
told_at node first entries xs index e here told f at =
    subst (λ g. HasBelow node (first + index) g xs (length xs)) (one_entry first entries (first + index) e f (index, refl, here) at) told

-- ---- the entries of one volume more
module _ (node : ℕ) (volumes : List VolumeContent) (held : HeldContent) (xs : List Transcript) (n : ℕ) (x : VolumeContent) (item : slice_get volumes n ≡ Some x) where
  -- which pieces there are then
  more_pieces : (w : Option ℕ) (piece : VolumeContent) → IsPieceBelow node volumes held (n + 1) w piece → IsPieceBelow node volumes held n w piece ⊎ ((piece ≡ x) × (x.opening.number ≡ node))
  more_pieces None piece is = inl is
  more_pieces (Some i) piece is = elim (cases_lt i n) [
    | inl l ↦ inl (l, is.1)
    | inr l ↦
        let within = is.0 in
        let same : i ≡ n = omega (arith, within, l) in
        let own : x ≡ piece = same_some x piece _ item (subst (λ k. slice_get volumes k ≡ Some piece) same is.1.0) in
        inr (sym own, subst (λ (v : VolumeContent). v.opening.number ≡ node) (sym own) is.1.1)
  ]

  fewer_pieces : (w : Option ℕ) (piece : VolumeContent) → IsPieceBelow node volumes held n w piece → IsPieceBelow node volumes held (n + 1) w piece
  fewer_pieces None piece is = is
  fewer_pieces (Some i) piece is = (let within = is.0 in omega (arith, within), is.1)

  pub told_more : (a b : Option ℕ) → IsFirstBreak (AllToldBelow node volumes held xs n) a → IsFirstBreak (λ p. x.opening.number ≡ node → IsTold node x.first x.entries xs p) b → IsFirstBreak (AllToldBelow node volumes held xs (n + 1)) (lesser_of a b)
  told_more = breaks_both {P = AllToldBelow node volumes held xs n} {Q = λ p. x.opening.number ≡ node → IsTold node x.first x.entries xs p}
      (λ p f g. λ w piece is. elim (more_pieces w piece is) [
        | inl before ↦ f w piece before
        | inr last ↦ subst (λ (v : VolumeContent). IsTold node v.first v.entries xs p) (sym last.0) (g last.1)
      ])
      (λ p s. (λ w piece is. s w piece (fewer_pieces w piece is), λ own. s (Some n) x (omega arith, (item, own))))

-- at first there is the journal alone
pub told_first : (node : ℕ) (volumes : List VolumeContent) (held : HeldContent) (xs : List Transcript) (first : ℕ) (entries : List Entry) → first ≡ held.first → entries ≡ held.journal → (a : Option ℕ) → IsFirstBreak (IsTold node first entries xs) a → IsFirstBreak (AllToldBelow node volumes held xs 0) a
told_first node volumes held xs first entries first_is entries_are =
    breaks_alike {P = IsTold node first entries xs} {S = AllToldBelow node volumes held xs 0} to (λ p s. λ e at. s None (journal_of held) refl e (same_entry first held.first entries held.journal p e first_is entries_are at))
  where
    to : (p : ℕ) → IsTold node first entries xs p → AllToldBelow node volumes held xs 0 p
    to p told None piece is = λ e at. told e (same_entry piece.first first piece.entries entries p e (ap (λ (v : VolumeContent). v.first) is ∙ sym first_is) (ap (λ (v : VolumeContent). v.entries) is ∙ sym entries_are) at)
    to p told (Some i) piece is = absurd (let within = is.0 in omega (arith, within))

-- what is asked of a volume that is of the node
pub told_own : (node : ℕ) (xs : List Transcript) (x : VolumeContent) (first : ℕ) (entries : List Entry) → x.opening.number ≡ node → first ≡ x.first → entries ≡ x.entries → (a : Option ℕ) → IsFirstBreak (IsTold node first entries xs) a → IsFirstBreak (λ p. x.opening.number ≡ node → IsTold node x.first x.entries xs p) a
told_own node xs x first entries own first_is entries_are =
    breaks_alike {P = IsTold node first entries xs} {S = λ p. x.opening.number ≡ node → IsTold node x.first x.entries xs p}
    (λ p told is. λ e at. told e (same_entry x.first first x.entries entries p e (sym first_is) (sym entries_are) at))
    (λ p s. λ e at. s own e (same_entry first x.first entries x.entries p e first_is entries_are at))

-- of all volumes
pub told_all : (node : ℕ) (volumes : List VolumeContent) (held : HeldContent) (xs : List Transcript) (n : ℕ) (o : Option ℕ) → length volumes ≤ n → n ≤ length volumes → IsFirstBreak (AllToldBelow node volumes held xs n) o → IsFirstBreak (AllToldBelow node volumes held xs (length volumes)) o
told_all node volumes held xs n o a b k = let e : n ≡ length volumes = omega arith in subst (λ m. IsFirstBreak (AllToldBelow node volumes held xs m) o) e k

pub all_of : (node : ℕ) (volumes : List VolumeContent) (held : HeldContent) (xs : List Transcript) (n : ℕ) (o : Option ℕ) → length xs ≤ n → n ≤ length xs → IsFirstBreak (AllFitBelow node volumes held xs n) o → IsFirstBreak (AllFitBelow node volumes held xs (length xs)) o
all_of node volumes held xs n o a b k = let e : n ≡ length xs = omega arith in subst (λ m. IsFirstBreak (AllFitBelow node volumes held xs m) o) e k

pub numbered_more : (xs : List Transcript) (n : ℕ) (x : Transcript) → slice_get xs n ≡ Some x → IsNumbered x → ((i : ℕ) (y : Transcript) → i < n → slice_get xs i ≡ Some y → IsNumbered y) → (i : ℕ) (y : Transcript) → i < n + 1 → slice_get xs i ≡ Some y → IsNumbered y
numbered_more xs n x item here before i y lt at =
    below_more (λ j. (w : Transcript) → slice_get xs j ≡ Some w → IsNumbered w) n (λ j l w a. before j w l a) (λ w a. subst IsNumbered (same_some x w _ item a) here) i lt y at

-- whether a transcript has an entry is seen at the part of the entry's number
pub has_iff : (node place : ℕ) (e : Entry) (x : Transcript) (t : Part) (b : Bool) → x.number ≡ e.pass → Some t ≡ slice_get x.parts e.number → (IsTrue b ↔ IsOf node place t) → (IsTrue b ↔ Has node place e x)
has_iff node place e x t b own at h = (
  λ w. (own, t, sym at, h.0 w),
  λ w. h.1 (subst (λ (v : Part). IsOf node place v) (same_some w.1 t _ w.2 (sym at)) w.3),
)

pub has_not : (node place : ℕ) (e : Entry) (x : Transcript) → None ≡ slice_get x.parts e.number → (IsTrue false ↔ Has node place e x)
has_not node place e x at = (λ w. absurd (let f : false ≡ true = w in cc), λ w. absurd (let c : None ≡ Some w.1 = at ∙ w.2 in cc))
