-- The state of slots, joined one after another, and how the count goes on.
use Rattle.std.proofs.Common.{◌≡◌, ◌≢◌, inl, inr, ℕ, zero, suc, ◌+◌, ◌<◌, Bool, true, false, cond, List, [], ◌∷◌, ◌++◌, length, take, Option, Some, None, Result, Ok, Err, refl, sym, ap, ◌∙◌, subst, arith, length-append}
use Rattle.std.specs.Prelude.{◌↔◌, Contains, slice_get}
use Rattle.std.specs.declared.cmp.Ordering.{Ordering}
use Rattle.std.specs.declared.cmp.Ordering.TheVariants.{Less, Equal, Greater}
use Rattle.std.specs.Ordering.{eq_by_cmp, is_eq}
use Rattle.std.specs.FinMap.{empty, get, get-empty}
use Rattle.std.specs.Result.{is_err, OnOk, OnErr}
use Rattle.std.specs.List.{AllByRecursion}
use Rattle.std.specs.List.Sorted.{IsStrictlySortedBy}
use Rattle.std.proofs.Math.Seq.{take-append_seam}
use Rattle.std.proofs.lemmas.Cmp.{eq_by_cmp_equiv}
use Rattle.std.proofs.lemmas.List.{get_or_append_left, get_or-append-add}
use Rattle.std.proofs.lemmas.List.Elements.{Contains-append_left, Contains-append_right, Contains-append_cases}
use Rattle.std.proofs.lemmas.Map.Views.{tells_apart}
use Rattle.std.proofs.lemmas.Option.{slice_get_within, get_or_from_slice_get, slice_get_read}
use Rattle.lw_stamp.specs.TextOrder.{text_cmp}
use Rattle.lw_join.specs.Join.{IsSemilattice}
use Rattle.lw_join.specs.JoinLaws.{semilattice, absorbed}
use Rattle.lw_join.specs.Maps.{one_key}
use Rattle.lw_join.specs.Options.{option_join}
use Rattle.lw_join.proofs.MapLemmas.{get-map_join, get-one_key, empty_below}
use Rattle.lw_reg.specs.OrderLaws.{text_order}
use Rattle.lw_reg.specs.declared.slot.Slot.{Slot}
use Rattle.lw_reg.specs.Slot.{slot_join}
use Rattle.lw_reg.specs.SlotLaws.{slot_laws}
use Rattle.lw_reg.specs.State.{State, state_join}
use Rattle.lw_reg.proofs.Members.{first_there}
use Rattle.lw_reg.proofs.States.{state_laws}
use Rattle.lw_table.specs.Changes.{Count, Recounts, Moves, counted}
use Rattle.lw_table.specs.Table.{TableContent}
use Rattle.lw_table.proofs.CountLemmas.{recount_none}
use Rattle.lw_table.proofs.RowLemmas.{same_or_not}
use Rattle.lw_node.specs.Exchange.{state_in}
use Rattle.lw_node.specs.inner.Exchange.{JoinedTo}

laws : IsSemilattice state_join
laws = semilattice state_laws

-- ---- the state of slots
pub join_empty : (s : State) → state_join s empty ≡ s
join_empty s = absorbed state_laws s empty (empty_below text_order slot_laws s)

pub state_push : (done : List (List ℕ × Slot)) (x : List ℕ × Slot) → state_in (done ++ x ∷ []) ≡ state_join (state_in done) (one_key x.0 x.1)
state_push [] x = laws.commutative (one_key x.0 x.1) empty
state_push (y ∷ ys) x = ap (state_join (one_key y.0 y.1)) (state_push ys x) ∙ sym (laws.associative (one_key y.0 y.1) (state_in ys) (one_key x.0 x.1))

pub joined_push : (old : State) (done : List (List ℕ × Slot)) (x : List ℕ × Slot) → state_join (state_join old (state_in done)) (one_key x.0 x.1) ≡ state_join old (state_in (done ++ x ∷ []))
joined_push old done x = laws.associative old (state_in done) (one_key x.0 x.1) ∙ ap (state_join old) (sym (state_push done x))

-- ---- where the slots have nothing
pub get-joined : (s t : State) (k : List ℕ) → get (state_join s t) k ≡ option_join slot_join (get s k) (get t k)
get-joined s t k = get-map_join text_order slot_join s t k

none_joined : (o : Option Slot) → option_join slot_join o None ≡ o
none_joined None = refl
none_joined (Some s) = refl

pub same_where_none : (s t : State) (k : List ℕ) → get t k ≡ None → get s k ≡ get (state_join s t) k
same_where_none s t k h = sym (get-joined s t k ∙ ap (option_join slot_join (get s k)) h ∙ none_joined (get s k))

pub one_elsewhere : (e k : List ℕ) (slot : Slot) → k ≢ e → get (one_key {R = text_cmp} e slot) k ≡ None
one_elsewhere e k slot other = get-one_key text_order e slot k ∙ go (eq_by_cmp text_cmp k e) refl
  where
    go : (b : Bool) → eq_by_cmp text_cmp k e ≡ b → cond b (Some slot) None ≡ None
    go true h = absurd (other (tells_apart text_order.exact k e h))
    go false h = refl

abbrev pub AllBelow : List (List ℕ × Slot) → List ℕ → Type 0
AllBelow done e = AllByRecursion (λ x. text_cmp x.0 e ≡ Less) done

pub none_from : (done : List (List ℕ × Slot)) (e : List ℕ) → AllBelow done e → (k : List ℕ) → (text_cmp k e ≡ Less → ⊥) → get (state_in done) k ≡ None
none_from [] e below k high = get-empty text_cmp k
none_from (x ∷ xs) e below k high =
    get-joined (one_key x.0 x.1) (state_in xs) k
    ∙ (λ i. option_join slot_join (one_elsewhere x.0 k x.1 (λ same. high (ap (λ z. text_cmp z e) same ∙ below.0)) i) (none_from xs e below.1 k high i))

-- ---- the order of endpoints
not_itself : (e : List ℕ) → text_cmp e e ≡ Less → ⊥
not_itself e h = let t : eq_by_cmp text_cmp e e ≡ true = (eq_by_cmp_equiv text_order.total).refl e in let f : eq_by_cmp text_cmp e e ≡ false = ap is_eq h in absurd cc

less_or_not : {G : Type 0} (a b : List ℕ) → (text_cmp a b ≡ Less → G) → ((text_cmp a b ≡ Less → ⊥) → G) → G
less_or_not {G} a b less not_less = go (text_cmp a b) refl
  where
    go : (r : Ordering) → text_cmp a b ≡ r → G
    go Less h = less h
    go Equal h = not_less (λ l. let bad : Equal ≡ Less = sym h ∙ l in absurd cc)
    go Greater h = not_less (λ l. let bad : Greater ≡ Less = sym h ∙ l in absurd cc)

abbrev pub entry_cmp : List ℕ × Slot → List ℕ × Slot → Ordering
entry_cmp x y = text_cmp x.0 y.0

all_tail : (done : List (List ℕ × Slot)) (x : List ℕ × Slot) (rest : List (List ℕ × Slot)) (y : List ℕ × Slot) → AllByRecursion (λ z. entry_cmp y z ≡ Less) (done ++ x ∷ rest) → text_cmp y.0 x.0 ≡ Less
all_tail [] x rest y h = h.0
all_tail (d ∷ ds) x rest y h = all_tail ds x rest y h.1

-- of slots that rise, those before one are below it
pub before_below : (done : List (List ℕ × Slot)) (x : List ℕ × Slot) (rest : List (List ℕ × Slot)) → IsStrictlySortedBy entry_cmp (done ++ x ∷ rest) → AllBelow done x.0
unfolding IsStrictlySortedBy
before_below [] x rest h = tt
before_below (d ∷ ds) x rest h = (all_tail ds x rest d h.0, before_below ds x rest h.1)

-- ---- lists that follow each other
above_append : (x : List ℕ) (xs ys : List (List ℕ)) → AllByRecursion (λ y. text_cmp x y ≡ Less) xs → AllByRecursion (λ y. text_cmp x y ≡ Less) ys → AllByRecursion (λ y. text_cmp x y ≡ Less) (xs ++ ys)
above_append x [] ys h g = g
above_append x (z ∷ zs) ys h g = (h.0, above_append x zs ys h.1 g)

all_of : (P : List ℕ → Type 0) (xs : List (List ℕ)) → ((k : List ℕ) → Contains xs k → P k) → AllByRecursion P xs
all_of P [] h = tt
all_of P (x ∷ xs) h = (h x (first_there x xs x refl), all_of P xs (λ k c. h k (Contains-append_right (x ∷ []) xs k c)))

rising_append : (xs ys : List (List ℕ)) → IsStrictlySortedBy text_cmp xs → IsStrictlySortedBy text_cmp ys → ((a b : List ℕ) → Contains xs a → Contains ys b → text_cmp a b ≡ Less) → IsStrictlySortedBy text_cmp (xs ++ ys)
unfolding IsStrictlySortedBy
rising_append [] ys h g apart = g
rising_append (x ∷ xs) ys h g apart = (
  above_append x xs ys h.0 (all_of (λ b. text_cmp x b ≡ Less) ys (λ b c. apart x b (first_there x xs x refl) c)),
  rising_append xs ys h.1 g (λ a b c d. apart a b (Contains-append_right (x ∷ []) xs a c) d),
)

get_first : (xs ys : List (List ℕ)) (i : ℕ) (e : List ℕ) → i < length xs → slice_get (xs ++ ys) i ≡ Some e → slice_get xs i ≡ Some e
get_first xs ys i e lt h = slice_get_read xs (length xs) i e refl lt (sym (sym (get_or_append_left xs ys e i lt) ∙ get_or_from_slice_get (xs ++ ys) i e e h))

get_second : (xs ys : List (List ℕ)) (j : ℕ) (e : List ℕ) → slice_get (xs ++ ys) (length xs + j) ≡ Some e → slice_get ys j ≡ Some e
get_second xs ys j e h =
    let within = slice_get_within (xs ++ ys) (length xs + j) e h in
    let long = length-append xs ys in
    slice_get_read ys (length ys) j e refl (omega (arith, within, long)) (sym (sym (get_or-append-add xs ys j e) ∙ get_or_from_slice_get (xs ++ ys) (length xs + j) e e h))

there_at : (xs : List (List ℕ)) (i : ℕ) (e : List ℕ) → slice_get xs i ≡ Some e → Contains xs e
there_at xs i e h = (i, slice_get_within xs i e h, get_or_from_slice_get xs i e e h)

pub below_or_not : {G : Type 0} (i n : ℕ) → (i < n → G) → ((j : ℕ) → i ≡ n + j → G) → G
below_or_not zero zero less more = more 0 refl
below_or_not zero (suc n) less more = less (omega arith)
below_or_not (suc i) zero less more = more (suc i) (omega arith)
below_or_not (suc i) (suc n) less more = below_or_not i n (λ h. less (omega (arith, h))) (λ j h. more j (omega (arith, h)))

-- ---- the moves of endpoints below one, and then of that one
module _ (a b c : State) (before mid after : Count) (e0 : List ℕ) (first : (k : List ℕ) → (text_cmp k e0 ≡ Less → ⊥) → get a k ≡ get b k) (second : (k : List ℕ) → k ≢ e0 → get b k ≡ get c k)
    (one : Recounts a b before mid) (two : Recounts b c mid after) where
  below_one : (k : List ℕ) → Contains one.moved k → text_cmp k e0 ≡ Less
  below_one k there = less_or_not k e0 (λ less. less) (λ high. absurd ((one.all k).0 there (first k high)))

  is_two : (k : List ℕ) → Contains two.moved k → k ≡ e0
  is_two k there = same_or_not k e0 (λ t same. same) (λ f other. absurd ((two.all k).0 there (second k other)))

  moved_all : (k : List ℕ) → Contains (one.moved ++ two.moved) k ↔ Moves a c k
  moved_all k = (there, back)
    where
      there : Contains (one.moved ++ two.moved) k → Moves a c k
      there x same = elim (Contains-append_cases one.moved two.moved k x) [
        | inl in_one ↦ (one.all k).0 in_one (same ∙ sym (second k (λ is. not_itself e0 (subst (λ z. text_cmp z e0 ≡ Less) is (below_one k in_one)))))
        | inr in_two ↦ (two.all k).0 in_two (sym (first k (λ less. not_itself e0 (subst (λ z. text_cmp z e0 ≡ Less) (is_two k in_two) less))) ∙ same)
      ]

      back : Moves a c k → Contains (one.moved ++ two.moved) k
      back moves =
          same_or_not k e0
          (λ t is. Contains-append_right one.moved two.moved k ((two.all k).1 (λ same. moves (first k (λ less. not_itself e0 (subst (λ z. text_cmp z e0 ≡ Less) is less)) ∙ same))))
          (λ f other. Contains-append_left one.moved two.moved k ((one.all k).1 (λ same. moves (same ∙ second k other))))

  count_sum : (x m n p q : ℕ) → m ≡ counted x p → n ≡ counted m q → n ≡ counted x (p + q)
  count_sum x m n p q g h = omega (arith, g, h)

  pub recounts_then : Recounts a c before after
  recounts_then = record {
    moved = one.moved ++ two.moved;
    rising = rising_append one.moved two.moved one.rising two.rising (λ x y there here. subst (λ z. text_cmp x z ≡ Less) (sym (is_two y here)) (below_one x there));
    all = moved_all;
    change = count_sum before.change mid.change after.change (length one.moved) (length two.moved) one.change two.change ∙ ap (counted before.change) (sym (length-append one.moved two.moved));
    numbered = λ i k at. below_or_not i (length one.moved)
        (λ lt. let h = get_first one.moved two.moved i k lt at in
        two.kept k (second k (λ is. not_itself e0 (subst (λ z. text_cmp z e0 ≡ Less) is (below_one k (there_at one.moved i k h))))) ∙ one.numbered i k h)
        (λ j is. let h = get_second one.moved two.moved j k (subst (λ n. slice_get (one.moved ++ two.moved) n ≡ Some k) is at) in
        two.numbered j k h ∙ ap Some (number before.change mid.change (length one.moved) i j one.change is));
    kept = λ k same. same_or_not k e0
        (λ t is. let still = first k (λ less. not_itself e0 (subst (λ z. text_cmp z e0 ≡ Less) is less)) in
        two.kept k (sym still ∙ same) ∙ one.kept k still)
        (λ f other. let still = second k other in two.kept k still ∙ one.kept k (same ∙ sym still));
  }
    where
      number : (x m p i j : ℕ) → m ≡ counted x p → i ≡ p + j → counted m (j + 1) ≡ counted x (i + 1)
      number x m p i j g h = omega (arith, g, h)

-- ---- a table, slot after slot
pub joined_none : (t : TableContent) → JoinedTo t [] t
joined_none t = record { state = sym (join_empty t.state); count = recount_none t.state t.count }

pub joined_more : (old mid new : TableContent) (done : List (List ℕ × Slot)) (x : List ℕ × Slot) → AllBelow done x.0 → JoinedTo old done mid → new.state ≡ state_join mid.state (one_key x.0 x.1) → Recounts mid.state new.state mid.count new.count
    → JoinedTo old (done ++ x ∷ []) new
joined_more old mid new done x below h state count = record {
  state = state ∙ ap (λ (s : State). state_join s (one_key x.0 x.1)) h.state ∙ joined_push old.state done x;
  count = recounts_then old.state mid.state new.state old.count mid.count new.count x.0
      (λ k high. same_where_none old.state (state_in done) k (none_from done x.0 below k high) ∙ ap (λ (s : State). get s k) (sym h.state))
      (λ k other. same_where_none mid.state (one_key x.0 x.1) k (one_elsewhere x.0 k x.1 other) ∙ ap (λ (s : State). get s k) (sym state))
      h.count count;
}

-- what holds of a success holds where there is no error
pub no_error : {T E P : Type 0} (r : Result T E) → is_err r ≡ false → OnOk r P → P
no_error (Ok x) h p = p
no_error (Err e) h p = absurd (let bad = h in cc)

pub an_error : {T E P : Type 0} (r : Result T E) → is_err r ≡ true → OnErr r P → P
an_error (Ok x) h p = absurd (let bad = h in cc)
an_error (Err e) h p = p

-- where the next has no memory, those so far are joined, fewer than all
pub front_joined : (old now new : TableContent) (slots done rest : List (List ℕ × Slot)) (x : List ℕ × Slot) (joined : ℕ) → done ++ x ∷ rest ≡ slots → length done ≡ joined
    → JoinedTo old done now → new ≡ now → (joined < length slots) × JoinedTo old (take joined slots) new
front_joined old now new slots done rest x joined split counted to same = (
  subst (λ (s : List (List ℕ × Slot)). joined < length s) split (omega (arith, length-append done (x ∷ rest), counted)),
  subst (λ (t : TableContent). JoinedTo old (take joined slots) t) (sym same) (subst (λ (s : List (List ℕ × Slot)). JoinedTo old s now) (sym front) to),
)
  where
    front : take joined slots ≡ done
    front = ap (λ (n : ℕ). take n slots) (sym counted) ∙ ap (take (length done)) (sym split) ∙ take-append_seam done (x ∷ rest)

-- and where the next can't be read
pub front_refused : (old now : TableContent) (done rest : List (List ℕ × Slot)) (joined : ℕ) → (rest ≡ [] → ⊥) → length done ≡ joined → JoinedTo old done now
    → (joined < length (done ++ rest)) × JoinedTo old (take joined (done ++ rest)) now
front_refused old now done [] joined some counted to = absurd (some refl)
front_refused old now done (x ∷ rest) joined some counted to = front_joined old now now (done ++ x ∷ rest) done rest x joined refl counted to refl
