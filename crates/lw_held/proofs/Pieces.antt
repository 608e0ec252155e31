-- How volumes and a journal are laid: where the least place is that is not, and that pieces which are laid end to end are
-- one history.
use Rattle.std.proofs.Common.{◌≡◌, ◌≢◌, ◌↔◌, ◌⊎◌, inl, inr, ℕ, zero, suc, ◌+◌, ◌<◌, ◌≤◌, List, [], ◌∷◌, ◌++◌, length, Option, None, Some, refl, sym, ap, ◌∙◌, subst, arith, append_assoc, append-nil, length-append}
use Rattle.std.specs.Prelude.{Bool, true, false, not, IsTrue, is_some, slice_get}
use Rattle.std.proofs.lemmas.Option.{slice_get_within}
use Rattle.std.proofs.lemmas.Bool.{cases_lt}
use Rattle.lw_node.specs.Node.{NodeContent, fresh}
use Rattle.lw_held.specs.declared.entry.Entry.{Entry}
use Rattle.lw_held.specs.Agree.{HasVolume, IsFirstBreak, IsSettledWith, end_of, Covers, IsEntryAt, journal_of, IsVolumeOf, IsPiece, IsLinked, IsCoveredOnce, AreLinked, IsLaid, IsFineIn}
use Rattle.lw_held.specs.History.{HeldContent, VolumeContent, IsLegal, IsVolume, Leads}
use Rattle.lw_held.specs.inner.Looks.{IsEndOf, IsFirstFrom, IsTurn, TurnIsLaid, lesser_of}
use Rattle.lw_held.specs.Transcript.{Transcript}
use Rattle.lw_held.proofs.Agreement.{breaks_both, same_some}
use Rattle.lw_held.proofs.Histories.{follow}

-- ---- one volume has the place
module _ (node : ℕ) (volumes : List VolumeContent) (first place : ℕ) where
  pub none_covers : IsFirstFrom node volumes place 0 None → (first ≤ place) ↔ IsCoveredOnce node volumes first place
  none_covers none = (
    λ low. record {
      single = λ i j one other a b c d. absurd (none i one (omega arith) a c);
      behind = λ i volume a c. absurd (none i volume (omega arith) a c);
      whole = λ high. absurd (omega (arith, low, high));
    },
    λ once. elim (cases_lt place first) [
      | inl high ↦ let found = once.whole high in absurd (none found.0 found.1 (omega arith) found.2 found.3)
      | inr low ↦ low
    ],
  )

  pub one_covers : (i : ℕ) (next : Option ℕ) → IsFirstFrom node volumes place 0 (Some i) → IsFirstFrom node volumes place (i + 1) next → ((place < first) × (next ≡ None)) ↔ IsCoveredOnce node volumes first place
  one_covers i next one more = (
    λ h. let none : IsFirstFrom node volumes place (i + 1) None = subst (IsFirstFrom node volumes place (i + 1)) h.1 more in
        let at : (j : ℕ) (volume : VolumeContent) → IsVolumeOf node volumes j volume → Covers volume place → j ≡ i =
        λ j volume a c. elim (cases_lt j i) [
          | inl before ↦ absurd (one.2 j volume (omega arith) before a c)
          | inr from ↦ elim (cases_lt i j) [
            | inl after ↦ absurd (none j volume (omega (arith, after)) a c)
            | inr upto ↦ omega (arith, from, upto)
          ]
        ] in
        record {
          single = λ j k left right a b c d. at j left a c ∙ sym (at k right b d);
          behind = λ j volume a c. h.0;
          whole = λ low. (i, one.1.0, one.1.1, one.1.2);
        },
    λ once. (once.behind i one.1.0 one.1.1 one.1.2, alone next more (λ j volume a c. once.single i j one.1.0 volume one.1.1 a one.1.2 c)),
  )
    where
      alone : (o : Option ℕ) → IsFirstFrom node volumes place (i + 1) o → ((j : ℕ) (volume : VolumeContent) → IsVolumeOf node volumes j volume → Covers volume place → i ≡ j) → o ≡ None
      alone None found same = refl
      alone (Some j) found same =
          let is : i ≡ j = same j found.1.0 found.1.1 found.1.2 in
          let above = found.0 in
          absurd (omega (arith, is, above))

-- whether none was found
pub none_found : (o : Option ℕ) (b : Bool) → is_some o ≡ not b → IsTrue b ↔ (o ≡ None)
none_found None true is = (λ yes. refl, λ none. refl)
none_found None false is = absurd (let no : false ≡ true = is in cc)
none_found (Some i) true is = absurd (let no : true ≡ false = is in cc)
none_found (Some i) false is = (λ yes. absurd (let no : false ≡ true = yes in cc), λ none. absurd (let no : ◌≡◌ {A = Option ℕ} (Some i) None = none in cc))

-- ---- what begins at the place is linked
module _ (node : ℕ) (volumes : List VolumeContent) (held : HeldContent) (place : ℕ) where
  -- the journal and each volume
  pub all_linked : (held.first ≡ place → IsLinked node volumes held.first held.opening) → ((i : ℕ) (volume : VolumeContent) → IsVolumeOf node volumes i volume → volume.first ≡ place → IsLinked node volumes volume.first volume.opening) → AreLinked node volumes held place
  all_linked journal each None piece is at = subst (λ (v : VolumeContent). IsLinked node volumes v.first v.opening) (sym is) (journal (ap (λ (v : VolumeContent). v.first) (sym is) ∙ at))
  all_linked journal each (Some i) piece is at = each i piece is at

-- ---- the least place that is not laid
module _ (node : ℕ) (volumes : List VolumeContent) (held : HeldContent) where
  module _ (bound : ℕ) (turns : (q : ℕ) → q < bound → IsTurn node volumes held (length volumes) q → IsLaid node volumes held q) where
    begin : (i : ℕ) (volume : VolumeContent) → IsVolumeOf node volumes i volume → volume.first < bound → IsLaid node volumes held volume.first
    begin i volume is lt = turns volume.first lt (inr (inr (i, volume, slice_get_within volumes i volume is.0, is.0, (is.1, inl refl))))

    single_below : (p : ℕ) → p < bound → (i j : ℕ) (one other : VolumeContent) → IsVolumeOf node volumes i one → IsVolumeOf node volumes j other → Covers one p → Covers other p → i ≡ j
    single_below p lt i j one other a b c d =
        let low = c.0 in
        let high = c.1 in
        let from = d.0 in
        let upto = d.1 in
        elim (cases_lt one.first other.first) [
          | inl less ↦ (begin j other b (omega (arith, lt, from))).0.single i j one other a b (omega (arith, less), omega (arith, from, high)) (omega arith, omega (arith, from, upto))
          | inr more ↦ (begin i one a (omega (arith, lt, low))).0.single i j one other a b (omega arith, omega (arith, low, high)) (omega (arith, more), omega (arith, low, upto))
        ]

    below_first : (p : ℕ) → p < bound → (i : ℕ) (volume : VolumeContent) → IsVolumeOf node volumes i volume → Covers volume p → p < held.first
    below_first p lt i volume is c =
        let low = c.0 in
        let high = c.1 in
        elim (cases_lt p held.first) [
          | inl less ↦ less
          | inr past ↦ elim (cases_lt volume.first held.first) [
            | inl before ↦ absurd (let bad = (turns held.first (omega (arith, lt, past)) (inr (inl refl))).0.behind i volume is (omega (arith, before), omega (arith, past, high)) in omega (arith, bad))
            | inr from ↦ absurd (let bad = (begin i volume is (omega (arith, lt, low))).0.behind i volume is (omega arith, omega (arith, low, high)) in omega (arith, bad, from))
          ]
        ]

    whole_below : (p : ℕ) → p < bound → p < held.first → (i : ℕ) × (volume : VolumeContent) × IsVolumeOf node volumes i volume × Covers volume p
    whole_below zero lt low = (turns zero lt (inl refl)).0.whole low
    whole_below (suc m) lt low =
        let before = whole_below m (omega (arith, lt)) (omega (arith, low)) in
        let from = before.3.0 in
        let upto = before.3.1 in
        elim (cases_lt (suc m) (end_of before.1)) [
          | inl less ↦ (before.0, before.1, before.2, (omega (arith, from), less))
          | inr end ↦
              let is : suc m ≡ end_of before.1 = omega (arith, upto, end) in
              (turns (suc m) lt (inr (inr (before.0, before.1, slice_get_within volumes before.0 before.1 before.2.0, before.2.0, (before.2.1, inr is))))).0.whole low
        ]

    linked_below : (p : ℕ) → p < bound → (w : Option ℕ) (piece : VolumeContent) → IsPiece node volumes held w piece → piece.first ≡ p → IsLaid node volumes held p
    linked_below p lt None piece is at = turns p lt (inr (inl (sym at ∙ ap (λ (x : VolumeContent). x.first) is)))
    linked_below p lt (Some i) piece is at = turns p lt (inr (inr (i, piece, slice_get_within volumes i piece is.0, is.0, (is.1, inl (sym at)))))

    pub laid_below : (p : ℕ) → p < bound → IsLaid node volumes held p
    laid_below p lt = (record { single = single_below p lt; behind = below_first p lt; whole = whole_below p lt }, λ w piece is at. (linked_below p lt w piece is at).1 w piece is at)

  pub turns_break : (o : Option ℕ) → IsFirstBreak (TurnIsLaid node volumes held (length volumes)) o → IsFirstBreak (IsLaid node volumes held) o
  turns_break None h = λ p. laid_below (p + 1) (λ q lt turn. h q turn) p (omega arith)
  turns_break (Some p) h = (λ laid. h.0 (λ turn. laid), λ q lt. laid_below p (λ r less turn. h.1 r less turn) q lt)

  -- the place, if it is not laid
  abbrev pub LaidAt : ℕ → ℕ → Type 0
  LaidAt place p = p ≡ place → IsLaid node volumes held p

  pub laid_at : (place : ℕ) → IsLaid node volumes held place → IsFirstBreak (LaidAt place) None
  laid_at place laid p is = subst (IsLaid node volumes held) (sym is) laid

  pub unlaid_at : (place : ℕ) → ¬ IsLaid node volumes held place → IsFirstBreak (LaidAt place) (Some place)
  unlaid_at place not = (λ h. not (h refl), λ q lt is. absurd (omega (arith, lt, is)))

  pub first_turns : (a b : Option ℕ) → IsFirstBreak (LaidAt 0) a → IsFirstBreak (LaidAt held.first) b → IsFirstBreak (TurnIsLaid node volumes held 0) (lesser_of a b)
  first_turns = breaks_both {P = LaidAt 0} {Q = LaidAt held.first}
      (λ p f g turn. elim turn [
        | inl is ↦ f is
        | inr later ↦ elim later [ inl is ↦ g is | inr volume ↦ absurd (let within = volume.2 in omega (arith, within)) ]
      ])
      (λ p s. (λ is. s (inl is), λ is. s (inr (inl is))))

  module _ (n : ℕ) (x : VolumeContent) (item : slice_get volumes n ≡ Some x) where
    more_turns : (p : ℕ) → IsTurn node volumes held (n + 1) p → IsTurn node volumes held n p ⊎ IsEndOf node x p
    more_turns p turn = elim turn [
      | inl is ↦ inl (inl is)
      | inr later ↦ elim later [
        | inl is ↦ inl (inr (inl is))
        | inr at ↦ elim (cases_lt at.0 n) [
          | inl before ↦ inl (inr (inr (at.0, at.1, before, at.3, at.4)))
          | inr last ↦
              let within = at.2 in
              let same : at.0 ≡ n = omega (arith, within, last) in
              inr (subst (λ (v : VolumeContent). IsEndOf node v p) (same_some at.1 x _ (subst (λ k. slice_get volumes k ≡ Some at.1) same at.3) item) at.4)
        ]
      ]
    ]

    fewer_turns : (p : ℕ) → IsTurn node volumes held n p → IsTurn node volumes held (n + 1) p
    fewer_turns p turn = elim turn [
      | inl is ↦ inl is
      | inr later ↦ elim later [ inl is ↦ inr (inl is) | inr at ↦ inr (inr (at.0, at.1, (let within = at.2 in omega (arith, within)), at.3, at.4)) ]
    ]

    pub turn_more : (a b : Option ℕ) → IsFirstBreak (TurnIsLaid node volumes held n) a → IsFirstBreak (λ p. IsEndOf node x p → IsLaid node volumes held p) b → IsFirstBreak (TurnIsLaid node volumes held (n + 1)) (lesser_of a b)
    turn_more = breaks_both {P = TurnIsLaid node volumes held n} {Q = λ p. IsEndOf node x p → IsLaid node volumes held p}
        (λ p f g turn. elim (more_turns p turn) [ inl before ↦ f before | inr last ↦ g last ])
        (λ p s. (λ turn. s (fewer_turns p turn), λ end. s (inr (inr (n, x, omega arith, item, end)))))

  -- of both places of a volume of the node
  pub both_ends : (x : VolumeContent) → x.opening.number ≡ node → (a b : Option ℕ) → IsFirstBreak (LaidAt x.first) a → IsFirstBreak (LaidAt (end_of x)) b → IsFirstBreak (λ p. IsEndOf node x p → IsLaid node volumes held p) (lesser_of a b)
  both_ends x own = breaks_both {P = LaidAt x.first} {Q = LaidAt (end_of x)}
      (λ p f g end. elim end.1 [ inl is ↦ f is | inr is ↦ g is ])
      (λ p s. (λ is. s (own, inl is), λ is. s (own, inr is)))

pub turns_all : (node : ℕ) (volumes : List VolumeContent) (held : HeldContent) (n : ℕ) (o : Option ℕ) → length volumes ≤ n → n ≤ length volumes → IsFirstBreak (TurnIsLaid node volumes held n) o → IsFirstBreak (IsLaid node volumes held) o
turns_all node volumes held n o a b h = let e : n ≡ length volumes = omega arith in turns_break node volumes held o (subst (λ m. IsFirstBreak (TurnIsLaid node volumes held m) o) e h)

-- ---- one history
-- what stands at a place of two lists stands in the first, or after it in the second
there_or_after : (xs ys : List Entry) (q : ℕ) (e : Entry) → slice_get (xs ++ ys) q ≡ Some e → (slice_get xs q ≡ Some e) ⊎ ((k : ℕ) × (q ≡ length xs + k) × (slice_get ys k ≡ Some e))
there_or_after [] ys q e at = inr (q, (let is : q ≡ 0 + q = omega arith in is), at)
there_or_after (x ∷ xs) ys zero e at = inl at
there_or_after (x ∷ xs) ys (suc q) e at = elim (there_or_after xs ys q e at) [ inl first ↦ inl first | inr after ↦ let is = after.1 in inr (after.0, (let so : suc q ≡ suc (length xs) + after.0 = omega (arith, is) in so), after.2) ]

some_length : (entries : List Entry) → entries ≢ [] → 1 ≤ length entries
some_length [] some = absurd (some refl)
some_length (e ∷ entries) some = omega arith

last_place : (volume : VolumeContent) → 1 ≤ length volume.entries → (m : ℕ) × (end_of volume ≡ m + 1)
last_place volume some = go (end_of volume) refl
  where
    go : (n : ℕ) → end_of volume ≡ n → (m : ℕ) × (end_of volume ≡ m + 1)
    go zero is = absurd (omega (arith, is, some))
    go (suc m) is = (m, (let so : end_of volume ≡ m + 1 = omega (arith, is) in so))

-- a history that has a volume has it still where it goes on
has_more : (node : ℕ) (journal more : List Entry) (mid last : NodeContent) (volume : VolumeContent) → HasVolume node journal mid volume → Leads mid more last → HasVolume node (journal ++ more) last volume
has_more node journal more mid last volume has leads = record {
  before = has.before;
  behind = has.behind ++ more;
  journal_is = ap (λ (es : List Entry). es ++ more) has.journal_is ∙ append_assoc (has.before ++ volume.entries) has.behind more;
  first_is = has.first_is;
  opens = has.opens;
  leads = has.leads;
  closes = follow volume.closing mid last has.behind more has.closes leads;
}

module _ (node : ℕ) (volumes : List VolumeContent) (held : HeldContent) (passes : List Transcript) (fine : (p : ℕ) → IsFineIn node volumes held passes p) (legal : (i : ℕ) (volume : VolumeContent) → slice_get volumes i ≡ Some volume → IsVolume volume) where
  -- the volumes up to a place as one list, and the node that they lead to
  record Upto (p : ℕ) : Type 0 where
    entries : List Entry
    last : NodeContent
    many : length entries ≡ p
    leads : Leads (fresh node) entries last
    are : (q : ℕ) (e : Entry) → slice_get entries q ≡ Some e → (i : ℕ) × (volume : VolumeContent) × IsVolumeOf node volumes i volume × IsEntryAt volume.first volume.entries q e
    has : (i : ℕ) (volume : VolumeContent) → IsVolumeOf node volumes i volume → end_of volume ≤ p → HasVolume node entries last volume
    ends : ((p ≡ 0) × (last ≡ fresh node)) ⊎ ((i : ℕ) × (volume : VolumeContent) × IsVolumeOf node volumes i volume × (end_of volume ≡ p) × (last ≡ volume.closing))

  -- what has the place begins there
  begins_here : (p : ℕ) → Upto p → (i : ℕ) (volume : VolumeContent) → IsVolumeOf node volumes i volume → Covers volume p → volume.first ≡ p
  begins_here p upto i volume is c =
      let low = c.0 in
      let high = c.1 in
      elim upto.ends [
        | inl begun ↦ let is = begun.0 in omega (arith, is, low)
        | inr ended ↦ elim (cases_lt volume.first p) [
          | inl before ↦
              let end = ended.3 in
              let some = some_length ended.1.entries (legal ended.0 ended.1 ended.2.0).0 in
              let q : (m : ℕ) × (p ≡ m + 1) = before_it p volume.first before in
              let next = q.1 in
              let same = (fine q.0).laid.0.single i ended.0 volume ended.1 is ended.2 (omega (arith, before, next), omega (arith, high, next)) (omega (arith, end, some, next), omega (arith, end, next)) in
              let one : volume ≡ ended.1 = same_some volume ended.1 _ is.0 (subst (λ k. slice_get volumes k ≡ Some ended.1) (sym same) ended.2.0) in
              let past = ap end_of one in
              absurd (omega (arith, past, end, high))
          | inr from ↦ omega (arith, low, from)
        ]
      ]
    where
      before_it : (p f : ℕ) → f < p → (m : ℕ) × (p ≡ m + 1)
      before_it zero f lt = absurd (omega (arith, lt))
      before_it (suc m) f lt = (m, (let is : suc m ≡ m + 1 = omega arith in is))

  -- what begins there goes on from what was led to
  goes_on : (p : ℕ) (upto : Upto p) (w : Option ℕ) (piece : VolumeContent) → IsPiece node volumes held w piece → piece.first ≡ p → piece.opening ≡ upto.last
  goes_on p upto w piece is at =
      let link = (fine p).laid.1 w piece is at in
      elim upto.ends [
        | inl begun ↦ link.begins (at ∙ begun.0) ∙ sym begun.1
        | inr ended ↦ link.goes_on ended.0 ended.1 ended.2 (ended.3 ∙ sym at) ∙ sym ended.4
      ]

  -- with the volume that begins there the list has each volume that ends by then
  one_has : (p : ℕ) (upto : Upto p) (i : ℕ) (volume : VolumeContent) → IsVolumeOf node volumes i volume → volume.first ≡ p → volume.opening ≡ upto.last
      → (j : ℕ) (other : VolumeContent) → IsVolumeOf node volumes j other → end_of other ≤ end_of volume → HasVolume node (upto.entries ++ volume.entries) volume.closing other
  one_has p upto i volume is at opening j other own end =
      let own_leads = (legal i volume is.0).1 in
      elim (cases_lt p (end_of other)) [
        | inr before ↦ has_more node upto.entries volume.entries upto.last volume.closing other (upto.has j other own (omega (arith, before))) (subst (λ (n : NodeContent). Leads n volume.entries volume.closing) opening own_leads)
        | inl past ↦
            let some = some_length other.entries (legal j other own.0).0 in
            let q : (m : ℕ) × (end_of other ≡ m + 1) = last_place other some in
            let next = q.1 in
            let same = (fine q.0).laid.0.single i j volume other is own (omega (arith, at, next, past), omega (arith, next, end)) (omega (arith, next, some), omega (arith, next)) in
            let one : other ≡ volume = same_some other volume _ own.0 (subst (λ k. slice_get volumes k ≡ Some volume) same is.0) in
            subst (HasVolume node (upto.entries ++ volume.entries) volume.closing) (sym one) (record {
              before = upto.entries;
              behind = [];
              journal_is = sym (append-nil (upto.entries ++ volume.entries));
              first_is = at ∙ sym upto.many;
              opens = subst (Leads (fresh node) upto.entries) (sym opening) upto.leads;
              leads = own_leads;
              closes = refl;
            })
      ]

  one_more : (p : ℕ) → Upto p → (i : ℕ) (volume : VolumeContent) → IsVolumeOf node volumes i volume → Covers volume p → Upto (end_of volume)
  one_more p upto i volume is c =
      let at = begins_here p upto i volume is c in
      let opening = goes_on p upto (Some i) volume is at in
      let long = length-append upto.entries volume.entries in
      let many = upto.many in
      record {
        entries = upto.entries ++ volume.entries;
        last = volume.closing;
        many = omega (arith, long, many, at);
        leads = follow (fresh node) upto.last volume.closing upto.entries volume.entries upto.leads (subst (λ (n : NodeContent). Leads n volume.entries volume.closing) opening (legal i volume is.0).1);
        are = λ q e there. elim (there_or_after upto.entries volume.entries q e there) [
          | inl first ↦ upto.are q e first
          | inr after ↦ let k = after.1 in (i, volume, is, (after.0, (let so : q ≡ volume.first + after.0 = omega (arith, k, many, at) in so), after.2))
        ];
        has = one_has p upto i volume is at opening;
        ends = inr (i, volume, is, refl, refl);
      }

  ends_below : (i : ℕ) (volume : VolumeContent) → IsVolumeOf node volumes i volume → end_of volume ≤ held.first
  ends_below i volume is =
      let some = some_length volume.entries (legal i volume is.0).0 in
      let q : (m : ℕ) × (end_of volume ≡ m + 1) = last_place volume some in
      let next = q.1 in
      let below = (fine q.0).laid.0.behind i volume is (omega (arith, next, some), omega (arith, next)) in
      omega (arith, next, below)

  goes : (fuel p : ℕ) → held.first ≤ p + fuel → p ≤ held.first → Upto p → Upto held.first
  goes zero p enough upto led = subst Upto (let is : p ≡ held.first = omega (arith, enough, upto) in is) led
  goes (suc fuel) p enough upto led = elim (cases_lt p held.first) [
    | inr past ↦ subst Upto (let is : p ≡ held.first = omega (arith, past, upto) in is) led
    | inl low ↦
        let found = (fine p).laid.0.whole low in
        let high = found.3.1 in
        let end : end_of found.1 ≤ held.first = ends_below found.0 found.1 found.2 in
        goes fuel (end_of found.1) (omega (arith, enough, high)) end (one_more p led found.0 found.1 found.2 found.3)
  ]

  pub one_history : IsLegal held → IsSettledWith node volumes passes
  one_history own =
      let begun : Upto 0 = record { entries = []; last = fresh node; many = refl; leads = refl; are = λ q e there. absurd (let bad : ◌≡◌ {A = Option Entry} None (Some e) = there in cc); has = λ i volume is none. absurd (let some = some_length volume.entries (legal i volume is.0).0 in omega (arith, some, none)); ends = inl (refl, refl) } in
      let upto = goes held.first 0 (omega arith) (omega arith) begun in
      let opening : held.opening ≡ upto.last = goes_on held.first upto None (journal_of held) refl refl in
      let long = length-append upto.entries held.journal in
      let many = upto.many in
      let own_leads = subst (λ (n : NodeContent). Leads n held.journal held.node) opening own.0 in
      record {
        settled = record {
          journal = upto.entries ++ held.journal;
          last = held.node;
          legal = follow (fresh node) upto.last held.node upto.entries held.journal upto.leads own_leads;
          fine = λ p. record {
            held = λ e there. elim (there_or_after upto.entries held.journal p e there) [
              | inl first ↦ let f = upto.are p e first in (fine p).told (Some f.0) f.1 e f.2 f.3
              | inr after ↦ let k = after.1 in (fine p).told None (journal_of held) e refl (after.0, (let so : p ≡ held.first + after.0 = omega (arith, k, many) in so), after.2)
            ];
            alone = (fine p).alone;
            within = λ i k pass part is of. let w = (fine p).within i k pass part is of in inside p w.0 w.1 w.2 w.3 (length (upto.entries ++ held.journal)) (omega (arith, long, many));
          };
        };
        has = λ i volume is. has_more node upto.entries held.journal upto.last held.node volume (upto.has i volume is (ends_below i volume is)) own_leads;
      }
    where
      inside : (p : ℕ) (w : Option ℕ) (piece : VolumeContent) → IsPiece node volumes held w piece → Covers piece p → (n : ℕ) → n ≡ held.first + length held.journal → p < n
      inside p None piece is c n long =
          let high : p < held.first + length held.journal = subst (λ (x : VolumeContent). p < end_of x) is c.1 in
          omega (arith, high, long)
      inside p (Some i) piece is c n long =
          let high = (fine p).laid.0.behind i piece is c in
          omega (arith, high, long)
