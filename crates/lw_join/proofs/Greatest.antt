-- What taking the greatest entry off two lists of entries leaves.
use Rattle.std.proofs.Common.{◌≡◌, suc, ◌-◌, List, [], ◌∷◌, ◌++◌, length, Option, Some, None, IfSome, IfNone, reverse, refl, sym, ap, ◌∙◌, subst, arith}
use Rattle.std.specs.List.{slice_get}
use Rattle.std.specs.Option.{option_cmp, option_to_list}
use Rattle.std.proofs.lemmas.List.{append-nil, nil_from_length, reverse-reverse}
use Rattle.std.specs.declared.cmp.Ordering.{Ordering}
use Rattle.std.specs.declared.cmp.Ordering.TheVariants.{Less, Equal, Greater}
use Rattle.std.specs.Ordering.{match_ordering}
use Rattle.std.specs.Cmp.{tied_back}
use Rattle.lw_stamp.specs.Order.{IsExactOrder}
use Rattle.lw_join.specs.Entries.{AllAbove, Rises, put, entries_join}
use Rattle.lw_join.specs.EntriesLaws.{turned}
use Rattle.lw_join.specs.inner.Ends.{ends_cmp}

last_from : {X : Type 0} → X → List X → X
last_from x [] = x
last_from x (y ∷ ys) = last_from y ys

slice_last : {X : Type 0} (x : X) (xs : List X) → slice_get (x ∷ xs) (length (x ∷ xs) - 1) ≡ Some (last_from x xs)
unfolding last_from
slice_last x [] = refl
slice_last x (y ∷ ys) =
    let further : length (x ∷ y ∷ ys) - 1 ≡ suc (length (y ∷ ys) - 1) = omega arith in
    ap (slice_get (x ∷ y ∷ ys)) further ∙ slice_last y ys

last_end : {X : Type 0} (x : X) (xs : List X) (e : X) → last_from x (xs ++ e ∷ []) ≡ e
unfolding last_from
last_end x [] e = refl
last_end x (y ∷ ys) e = last_end y ys e

slice_end : {X : Type 0} (xs : List X) (e : X) → slice_get (xs ++ e ∷ []) (length (xs ++ e ∷ []) - 1) ≡ Some e
slice_end [] e = refl
slice_end (x ∷ xs) e = slice_last x (xs ++ e ∷ []) ∙ ap Some (last_end x xs e)

module _ {K J : Type 0} (cmp : K → K → Ordering) where
  -- each key of the entries is below k
  abbrev pub AllBelow : K → List (K × J) → Type 0
  AllBelow k [] = Unit {0}
  AllBelow k (e ∷ es) = (cmp e.0 k ≡ Less) × AllBelow k es

  above_front : (k : K) (xs : List (K × J)) (e : K × J) → AllAbove cmp k (xs ++ e ∷ []) → AllAbove cmp k xs
  above_front k [] e a = tt
  above_front k (x ∷ xs) e a = (a.0, above_front k xs e a.1)

  above_end : (k : K) (xs : List (K × J)) (e : K × J) → AllAbove cmp k (xs ++ e ∷ []) → cmp k e.0 ≡ Less
  above_end k [] e a = a.0
  above_end k (x ∷ xs) e a = above_end k xs e a.1

  -- keys that rise, without the last
  pub rises_front : (xs : List (K × J)) (e : K × J) → Rises cmp (xs ++ e ∷ []) → Rises cmp xs
  rises_front [] e rises = tt
  rises_front (x ∷ xs) e rises = (above_front x.0 xs e rises.0, rises_front xs e rises.1)

  -- the last key is above those before it
  pub below_end : (xs : List (K × J)) (e : K × J) → Rises cmp (xs ++ e ∷ []) → AllBelow e.0 xs
  below_end [] e rises = tt
  below_end (x ∷ xs) e rises = (above_end x.0 xs e rises.0, below_end xs e rises.1)

module _ {K J : Type 0} {cmp : K → K → Ordering} (order : IsExactOrder cmp) where
  -- keys are below what the last of them is below
  below_from : (x : K × J) (xs : List (K × J)) (k : K) → Rises cmp (x ∷ xs) → cmp (last_from x xs).0 k ≡ Less → AllBelow cmp k (x ∷ xs)
  unfolding last_from
  below_from x [] k rises h = (h, tt)
  below_from x (y ∷ ys) k rises h =
      let rest = below_from y ys k rises.1 h in
      (order.total.trans x.0 y.0 k rises.0.0 rest.0, rest)

  left_below : (xs : List (K × J)) (k : K) (e : K × J) → e.0 ≡ k → Rises cmp xs → option_cmp (λ (x y : K × J). cmp x.0 y.0) (slice_get xs (length xs - 1)) (Some e) ≡ Less → AllBelow cmp k xs
  left_below [] k e same rises h = tt
  left_below (x ∷ xs) k e same rises h =
      let compared : cmp (last_from x xs).0 e.0 ≡ Less = ap (λ (o : Option (K × J)). option_cmp (λ (x y : K × J). cmp x.0 y.0) o (Some e)) (sym (slice_last x xs)) ∙ h in
      below_from x xs k rises (ap (cmp (last_from x xs).0) (sym same) ∙ compared)

  right_below : (ys : List (K × J)) (e : K × J) → Rises cmp ys → option_cmp (λ (x y : K × J). cmp x.0 y.0) (Some e) (slice_get ys (length ys - 1)) ≡ Greater → AllBelow cmp e.0 ys
  right_below [] e rises h = tt
  right_below (y ∷ ys) e rises h =
      let compared : cmp e.0 (last_from y ys).0 ≡ Greater = ap (λ (o : Option (K × J)). option_cmp (λ (x y : K × J). cmp x.0 y.0) (Some e) o) (sym (slice_last y ys)) ∙ h in
      below_from y ys e.0 rises (turned order e.0 (last_from y ys).0 Greater compared)

  module _ (join : J → J → J) where
    -- a key above all goes last
    put_last : (k : K) (v : J) (xs : List (K × J)) → AllBelow cmp k xs → put cmp join k v xs ≡ xs ++ (k, v) ∷ []
    put_last k v [] below = refl
    put_last k v (x ∷ xs) below =
        let after : cmp k x.0 ≡ Greater = turned order x.0 k Less below.0 in
        rw after (ap (λ t. x ∷ t) (put_last k v xs below.1))

    -- a put at the last key
    put_at_last : (k : K) (v : J) (xs : List (K × J)) (e : K × J) → AllBelow cmp k xs → cmp k e.0 ≡ Equal → put cmp join k v (xs ++ e ∷ []) ≡ xs ++ (e.0, join e.1 v) ∷ []
    put_at_last k v [] e below same = rw same refl
    put_at_last k v (x ∷ xs) e below same =
        let after : cmp k x.0 ≡ Greater = turned order x.0 k Less below.0 in
        rw after (ap (λ t. x ∷ t) (put_at_last k v xs e below.1 same))

    put_before_by : (k : K) (v : J) (x : K × J) (xs : List (K × J)) (e : K × J) (r : Ordering) → put cmp join k v (xs ++ e ∷ []) ≡ put cmp join k v xs ++ e ∷ [] → match_ordering r ((k, v) ∷ x ∷ xs ++ e ∷ []) ((x.0, join x.1 v) ∷ xs ++ e ∷ []) (x ∷ put cmp join k v (xs ++ e ∷ [])) ≡ match_ordering r ((k, v) ∷ x ∷ xs) ((x.0, join x.1 v) ∷ xs) (x ∷ put cmp join k v xs) ++ e ∷ []
    put_before_by k v x xs e Less ih = refl
    put_before_by k v x xs e Equal ih = refl
    put_before_by k v x xs e Greater ih = ap (λ t. x ∷ t) ih

    -- a put below the last key leaves it last
    put_before : (k : K) (v : J) (xs : List (K × J)) (e : K × J) → cmp k e.0 ≡ Less → put cmp join k v (xs ++ e ∷ []) ≡ put cmp join k v xs ++ e ∷ []
    put_before k v [] e before = rw before refl
    put_before k v (x ∷ xs) e before = put_before_by k v x xs e (cmp k x.0) (put_before k v xs e before)

    -- a join with lesser keys leaves the last entry last
    join_before : (xs ys : List (K × J)) (e : K × J) → AllBelow cmp e.0 ys → entries_join cmp join (xs ++ e ∷ []) ys ≡ entries_join cmp join xs ys ++ e ∷ []
    join_before xs [] e below = refl
    join_before xs (y ∷ ys) e below = ap (put cmp join y.0 y.1) (join_before xs ys e below.1) ∙ put_before y.0 y.1 (entries_join cmp join xs ys) e below.0

    -- the last entry may be joined first
    join_end : (xs ys : List (K × J)) (e : K × J) → entries_join cmp join xs (ys ++ e ∷ []) ≡ entries_join cmp join (put cmp join e.0 e.1 xs) ys
    join_end xs [] e = refl
    join_end xs (y ∷ ys) e = ap (put cmp join y.0 y.1) (join_end xs ys e)

    -- the greatest key is the last of the left alone
    pub taken_left : (xs ys zs : List (K × J)) (e : K × J) → xs ≡ zs ++ e ∷ [] → Rises cmp ys → ends_cmp cmp xs ys ≡ Greater → entries_join cmp join xs ys ≡ entries_join cmp join zs ys ++ e ∷ []
    taken_left xs ys zs e split rises h =
        let last : slice_get xs (length xs - 1) ≡ Some e = ap (λ (l : List (K × J)). slice_get l (length l - 1)) split ∙ slice_end zs e in
        let compared = ap (λ (o : Option (K × J)). option_cmp (λ (x y : K × J). cmp x.0 y.0) o (slice_get ys (length ys - 1))) (sym last) ∙ h in
        ap (λ (l : List (K × J)). entries_join cmp join l ys) split ∙ join_before zs ys e (right_below ys e rises compared)

    -- the greatest key is the last of the right alone
    pub taken_right : (xs ys zs : List (K × J)) (e : K × J) → ys ≡ zs ++ e ∷ [] → Rises cmp xs → Rises cmp ys → ends_cmp cmp xs ys ≡ Less → entries_join cmp join xs ys ≡ entries_join cmp join xs zs ++ e ∷ []
    taken_right xs ys zs e split rises rising h =
        let last : slice_get ys (length ys - 1) ≡ Some e = ap (λ (l : List (K × J)). slice_get l (length l - 1)) split ∙ slice_end zs e in
        let compared = ap (λ (o : Option (K × J)). option_cmp (λ (x y : K × J). cmp x.0 y.0) (slice_get xs (length xs - 1)) o) (sym last) ∙ h in
        let below : AllBelow cmp e.0 xs = left_below xs e.0 e refl rises compared in
        let front : AllBelow cmp e.0 zs = below_end cmp zs e (subst (Rises cmp) split rising) in
        ap (entries_join cmp join xs) split ∙ join_end xs zs e ∙ ap (λ (l : List (K × J)). entries_join cmp join l zs) (put_last e.0 e.1 xs below) ∙ join_before xs zs e front

    -- both lists end with the greatest key
    pub taken_both : (xs ys xs' ys' : List (K × J)) (e f : K × J) → xs ≡ xs' ++ e ∷ [] → ys ≡ ys' ++ f ∷ [] → Rises cmp xs → Rises cmp ys → ends_cmp cmp xs ys ≡ Equal → entries_join cmp join xs ys ≡ entries_join cmp join xs' ys' ++ (e.0, join e.1 f.1) ∷ []
    taken_both xs ys xs' ys' e f split parted rises rising h =
        let last : slice_get xs (length xs - 1) ≡ Some e = ap (λ (l : List (K × J)). slice_get l (length l - 1)) split ∙ slice_end xs' e in
        let final : slice_get ys (length ys - 1) ≡ Some f = ap (λ (l : List (K × J)). slice_get l (length l - 1)) parted ∙ slice_end ys' f in
        let tied : cmp e.0 f.0 ≡ Equal = (λ i. option_cmp (λ (x y : K × J). cmp x.0 y.0) (sym last i) (sym final i)) ∙ h in
        let key : e.0 ≡ f.0 = order.exact e.0 f.0 tied in
        let front : AllBelow cmp e.0 xs' = below_end cmp xs' e (subst (Rises cmp) split rises) in
        let back : AllBelow cmp f.0 ys' = below_end cmp ys' f (subst (Rises cmp) parted rising) in
        (λ i. entries_join cmp join (split i) (parted i))
        ∙ join_end (xs' ++ e ∷ []) ys' f
        ∙ ap (λ (l : List (K × J)). entries_join cmp join l ys') (put_at_last f.0 f.1 xs' e (subst (λ k. AllBelow cmp k xs') key front) (tied_back order.total e.0 f.0 tied))
        ∙ join_before xs' ys' (e.0, join e.1 f.1) (subst (λ k. AllBelow cmp k ys') (sym key) back)

    -- nothing is left to take
    pub taken_none : (xs ys : List (K × J)) → xs ≡ [] → ends_cmp cmp xs ys ≡ Equal → entries_join cmp join xs ys ≡ []
    taken_none [] [] none h = refl
    taken_none [] (y ∷ ys) none h =
        let compared : Less ≡ Equal = ap (option_cmp (λ (x y : K × J). cmp x.0 y.0) None) (sym (slice_last y ys)) ∙ h in
        cc
    taken_none (x ∷ xs) ys none h = cc

    -- what a pop leaves, where the greatest key is the last of the left alone
    pub popped_left : (r : Option (K × J)) (xs ys zs : List (K × J)) → xs ≡ zs ++ option_to_list r → Rises cmp ys → ends_cmp cmp xs ys ≡ Greater → IfSome r (λ e. entries_join cmp join xs ys ≡ entries_join cmp join zs ys ++ e ∷ [])
    popped_left None xs ys zs split rises h = tt
    popped_left (Some e) xs ys zs split rises h = taken_left xs ys zs e split rises h

    pub popped_right : (r : Option (K × J)) (xs ys zs : List (K × J)) → ys ≡ zs ++ option_to_list r → Rises cmp xs → Rises cmp ys → ends_cmp cmp xs ys ≡ Less → IfSome r (λ e. entries_join cmp join xs ys ≡ entries_join cmp join xs zs ++ e ∷ [])
    popped_right None xs ys zs split rises rising h = tt
    popped_right (Some e) xs ys zs split rises rising h = taken_right xs ys zs e split rises rising h

    pub left_empty : (xs ys : List (K × J)) → length xs ≡ 0 → ends_cmp cmp xs ys ≡ Equal → entries_join cmp join xs ys ≡ []
    left_empty xs ys none h = taken_none xs ys (nil_from_length xs none) h

    pub right_empty : (xs ys : List (K × J)) → length ys ≡ 0 → ends_cmp cmp xs ys ≡ Equal → entries_join cmp join xs ys ≡ []
    right_empty [] [] none h = refl
    right_empty (x ∷ xs) [] none h =
        let compared : Greater ≡ Equal = ap (λ (o : Option (K × J)). option_cmp (λ (x y : K × J). cmp x.0 y.0) o None) (sym (slice_last x xs)) ∙ h in
        cc
    right_empty xs (y ∷ ys) none h = absurd (omega arith)

module _ {K J : Type 0} (cmp : K → K → Ordering) where
  pub rises_popped : (r : Option (K × J)) (xs zs : List (K × J)) → xs ≡ zs ++ option_to_list r → Rises cmp xs → Rises cmp zs
  rises_popped None xs zs split rises = subst (Rises cmp) (split ∙ append-nil zs) rises
  rises_popped (Some e) xs zs split rises = rises_front cmp zs e (subst (Rises cmp) split rises)

pub always_none : {X P : Type 0} (r : Option X) → P → IfNone r P
always_none None p = p
always_none (Some x) p = tt

-- all entries are moved
pub moved_all : {X : Type 0} (moved whole all : List X) → whole ≡ [] → whole ++ reverse moved ≡ all → moved ≡ reverse all
moved_all moved whole all none h =
    sym (reverse-reverse moved) ∙ ap reverse (sym (ap (λ l. l ++ reverse moved) none) ∙ h)
