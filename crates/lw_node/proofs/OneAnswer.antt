-- A question has one answer: an endpoint shows one registration, a path has one live watch, and of those that fit the
-- first answers.
use Rattle.std.proofs.Common.{◌≡◌, ℕ, List, Option, Some, None, refl, sym, ap, subst, ◌∙◌}
use Rattle.std.specs.declared.cmp.Ordering.{Ordering}
use Rattle.lw_stamp.specs.declared.stamp.Stamp.{Stamp}
use Rattle.lw_stamp.specs.Order.{IsExactOrder, IsGreatest}
use Rattle.lw_stamp.specs.StampOrder.{stamp_cmp}
use Rattle.lw_stamp.proofs.StampLemmas.{stamp_order}
use Rattle.lw_join.specs.GreaterLaws.{at_most_antisymm}
use Rattle.lw_join.specs.LwwLaws.{write_order}
use Rattle.lw_join.proofs.FacetLemmas.{greatest_one}
use Rattle.lw_reg.specs.declared.addr.Addr.{Addr}
use Rattle.lw_reg.specs.declared.base.Base.{Base}
use Rattle.lw_reg.specs.declared.path.Path.{Path}
use Rattle.lw_reg.specs.declared.watch.Watch.{Watch}
use Rattle.lw_reg.specs.BindingLaws.{binding_order}
use Rattle.lw_reg.specs.OrderLaws.{addr_order, base_order, moment_order, number_order, format_order, path_order, sms_order, text_order}
use Rattle.lw_reg.specs.Orders.{format_cmp}
use Rattle.lw_reg.specs.Marks.{Marks, Trace, Has}
use Rattle.lw_reg.specs.Marks.Trace.{Named, Based, AddressAt, SeenAt, LifetimeAt, BindingAt, SmsAt, ObjectsAt, Watched}
use Rattle.lw_reg.specs.Registration.{Registration}
use Rattle.lw_reg.specs.Showing.{IsCurrent, IsBase, IsValue, HasAttributes, IsComplete, IsShown, IsExpired, IsToken, IsLive, IsFirstOfWatches, IsAbove, ShownOf, queue_of}
use Rattle.lw_reg.proofs.Readings.{attributes_one}
use Rattle.lw_table.specs.Answers.{IsFirstAnswer}
use Rattle.lw_table.specs.LookUps.{ById, ByAddress, IsHolder, ByToken, HasToken, WatchOfIdAfter, ExpiredAfter, IsExpiredAfter, named_by}
use Rattle.lw_call.specs.declared.answer.Answer.{Answer}
use Rattle.lw_call.specs.declared.answer.Answer.TheVariants as answers
use Rattle.lw_call.specs.declared.question.Question.{Question}
use Rattle.lw_call.specs.declared.question.Question.TheVariants as questions
use Rattle.lw_node.specs.Laws.{AnswersAreOne}
use Rattle.lw_node.specs.Node.{NodeContent, marks_in}
use Rattle.lw_node.specs.Steps.{Answers}

some_one : {A : Type 0} (a b : A) → ◌≡◌ {A = Option A} (Some a) (Some b) → a ≡ b
some_one a b h = cc

module _ (M : Marks) where
  -- ---- one registration
  one_value : {V : Type 0} {cmp : V → V → Ordering} → IsExactOrder cmp → (field : Stamp → V → Trace) (e : List ℕ) (id : Stamp) (v w : V) → IsValue cmp field M e id v → IsValue cmp field M e id w → v ≡ w
  one_value order field e id v w h g = ap (λ x. x.1) (greatest_one (write_order order) (λ x. Has M e id (field x.0 x.1)) (h.0, v) (g.0, w) h.1 g.1)

  -- a complete registration is given by its endpoint
  complete_one : (r q : Registration) → IsComplete M r → IsComplete M q → r.endpoint ≡ q.endpoint → r ≡ q
  complete_one r q h g ends = λ i. record {
    endpoint = ends i;
    id = ids i;
    address = address i;
    seen = seen i;
    lifetime = lifetime i;
    version = version i;
    binding = binding i;
    queue = queue i;
    sms = sms i;
    objects = objects i;
    attributes = attributes i;
  }
    where
      ids : r.id ≡ q.id
      ids = greatest_one stamp_order (λ s. Has M r.endpoint s Named) r.id q.id h.current (subst (λ e. IsCurrent M e q.id) (sym ends) g.current)

      names : ◌≡◌ {A = List ℕ × Stamp} (q.endpoint, q.id) (r.endpoint, r.id)
      names = λ i. (sym ends i, sym ids i)

      base : h.base ≡ g.base
      base = greatest_one base_order (λ b. Has M r.endpoint r.id (Based b)) h.base g.base h.is_base (subst (λ (x : List ℕ × Stamp). IsBase M x.0 x.1 g.base) names g.is_base)

      one : {V : Type 0} {cmp : V → V → Ordering} → IsExactOrder cmp → (field : Stamp → V → Trace) (v w : V) → IsValue cmp field M r.endpoint r.id v → IsValue cmp field M q.endpoint q.id w → v ≡ w
      one {V} {cmp} order field v w a b = one_value order field r.endpoint r.id v w a (subst (λ (x : List ℕ × Stamp). IsValue cmp field M x.0 x.1 w) names b)

      address : r.address ≡ q.address
      address = one addr_order AddressAt r.address q.address h.address g.address

      seen : r.seen ≡ q.seen
      seen = one moment_order SeenAt r.seen q.seen h.seen g.seen

      lifetime : r.lifetime ≡ q.lifetime
      lifetime = one number_order LifetimeAt r.lifetime q.lifetime h.lifetime g.lifetime

      binding : r.binding ≡ q.binding
      binding = one binding_order BindingAt r.binding q.binding h.binding g.binding

      sms : r.sms ≡ q.sms
      sms = one sms_order SmsAt r.sms q.sms h.sms g.sms

      objects : r.objects ≡ q.objects
      objects = one text_order ObjectsAt r.objects q.objects h.objects g.objects

      attributes : r.attributes ≡ q.attributes
      attributes = attributes_one M r.endpoint r.id r.attributes q.attributes h.attributes (subst (λ (x : List ℕ × Stamp). HasAttributes M x.0 x.1 q.attributes) names g.attributes)

      version : r.version ≡ q.version
      version = h.version ∙ ap (λ (b : Base). b.version) base ∙ sym g.version

      queue : r.queue ≡ q.queue
      queue = h.queue ∙ (λ i. queue_of (base i) (binding i)) ∙ sym g.queue

  module _ (now : ℕ) where
    shown_one : (r q : Registration) → IsShown M now r → IsShown M now q → r.endpoint ≡ q.endpoint → r ≡ q
    shown_one r q h g = complete_one r q h.registered.complete g.registered.complete

    expired_one : (r q : Registration) → IsExpired M now r → IsExpired M now q → r.endpoint ≡ q.endpoint → r ≡ q
    expired_one r q h g = complete_one r q h.registered.complete g.registered.complete

    shown_of_one : (e : List ℕ) (a b : Option Registration) → ShownOf M now e a → ShownOf M now e b → a ≡ b
    shown_of_one e None None h g = refl
    shown_of_one e None (Some q) h g = absurd (h q g)
    shown_of_one e (Some r) None h g = absurd (g r h)
    shown_of_one e (Some r) (Some q) h g = ap Some (shown_one r q h.1 g.1 (h.0 ∙ sym g.0))

    -- ---- the first of those that fit
    first_one : (P : Registration → Type 0) → ((r q : Registration) → P r → P q → r.endpoint ≡ q.endpoint → r ≡ q) → (a b : Option Registration) → IsFirstAnswer P a → IsFirstAnswer P b → a ≡ b
    first_one P one None None h g = refl
    first_one P one None (Some q) h g = absurd (h q g.fits)
    first_one P one (Some r) None h g = absurd (g r h.fits)
    first_one P one (Some r) (Some q) h g = ap Some (one r q h.fits g.fits (at_most_antisymm text_order r.endpoint q.endpoint (h.first q g.fits) (g.first r h.fits)))

    by_id_one : (id : Stamp) (a b : Option Registration) → ById M now id a → ById M now id b → a ≡ b
    by_id_one id = first_one (λ r. IsShown M now r × (r.id ≡ id)) (λ r q h g. shown_one r q h.0 g.0)

    expired_after_one : (after : Option (List ℕ)) (a b : Option (List ℕ × Stamp)) → ExpiredAfter M now after a → ExpiredAfter M now after b → a ≡ b
    expired_after_one after None None h g = refl
    expired_after_one after None (Some y) h g = absurd (h g.0 g.1.fits)
    expired_after_one after (Some x) None h g = absurd (g h.0 h.1.fits)
    expired_after_one after (Some x) (Some y) h g =
        ap Some (h.2 ∙ ap named_by (some_one h.0 g.0 (first_one (IsExpiredAfter M now after) (λ r q a b. expired_one r q a.1 b.1) (Some h.0) (Some g.0) h.1 g.1)) ∙ sym g.2)

    -- ---- the last holder of an address
    by_address_one : (address : Addr) (a b : Option Registration) → ByAddress M now address a → ByAddress M now address b → a ≡ b
    by_address_one address None None h g = refl
    by_address_one address None (Some q) h g = absurd (h g.at q g.holds)
    by_address_one address (Some r) None h g = absurd (g h.at r h.holds)
    by_address_one address (Some r) (Some q) h g =
        let at : h.at ≡ g.at = at_most_antisymm stamp_order h.at g.at (g.latest h.at r h.holds) (h.latest g.at q g.holds) in
        let q_holds : IsHolder M now address h.at q = subst (λ s. IsHolder M now address s q) (sym at) g.holds in
        let r_holds : IsHolder M now address g.at r = subst (λ s. IsHolder M now address s r) at h.holds in
        ap Some (shown_one r q h.holds.shown g.holds.shown (at_most_antisymm text_order r.endpoint q.endpoint (h.first q q_holds) (g.first r r_holds)))

    -- ---- one live watch
    live_one : (r : Registration) (v w : Watch) → IsLive M now r v → IsLive M now r w → v.path ≡ w.path → v ≡ w
    live_one r v w h g paths = λ i. record { token = token i; path = paths i; accept = accept i }
      where
        token : v.token ≡ w.token
        token = greatest_one stamp_order (IsToken M r.endpoint r.id v.path) v.token w.token h.newest (subst (λ p. IsGreatest stamp_cmp (IsToken M r.endpoint r.id p) w.token) (sym paths) g.newest)

        names : ◌≡◌ {A = Path × Stamp} (w.path, w.token) (v.path, v.token)
        names = λ i. (sym paths i, sym token i)

        accept : v.accept ≡ w.accept
        accept = greatest_one format_order (λ a. Has M r.endpoint r.id (Watched v.path v.token a)) v.accept w.accept h.watched
            (subst (λ (x : Path × Stamp). IsGreatest format_cmp (λ a. Has M r.endpoint r.id (Watched x.0 x.1 a)) w.accept) names g.watched)

    watches_one : (e : List ℕ) (Fits : Watch → Type 0) (a b : Option Watch) → IsFirstOfWatches M now e Fits a → IsFirstOfWatches M now e Fits b → a ≡ b
    watches_one e Fits None None h g = refl
    watches_one e Fits None (Some w) h g = absurd (h w g.lives g.fits)
    watches_one e Fits (Some v) None h g = absurd (g v h.lives h.fits)
    watches_one e Fits (Some v) (Some w) h g =
        let r = h.lives in
        let q = g.lives in
        let same : r.0 ≡ q.0 = shown_one r.0 q.0 r.2.shown q.2.shown (r.1 ∙ sym q.1) in
        ap Some (live_one r.0 v w r.2 (subst (λ x. IsLive M now x w) (sym same) q.2) (at_most_antisymm path_order v.path w.path (h.first w g.lives g.fits) (g.first v h.lives h.fits)))

    by_token_one : (token : Stamp) (a b : Option (Registration × Watch)) → ByToken M now token a → ByToken M now token b → a ≡ b
    by_token_one token None None h g = refl
    by_token_one token None (Some y) h g = absurd (h y g.fits)
    by_token_one token (Some x) None h g = absurd (g x h.fits)
    by_token_one token (Some x) (Some y) h g =
        let same : x.0 ≡ y.0 = shown_one x.0 y.0 h.fits.lives.shown g.fits.lives.shown (at_most_antisymm text_order x.0.endpoint y.0.endpoint (h.first y g.fits) (g.first x h.fits)) in
        let y_fits : HasToken M now token (x.0, y.1) = subst (λ r. HasToken M now token (r, y.1)) (sym same) g.fits in
        let x_fits : HasToken M now token (y.0, x.1) = subst (λ r. HasToken M now token (r, x.1)) same h.fits in
        let watch : x.1 ≡ y.1 = live_one x.0 x.1 y.1 h.fits.lives y_fits.lives (at_most_antisymm path_order x.1.path y.1.path (h.first_path y.1 y_fits) (g.first_path x.1 x_fits)) in
        ap Some (λ i. (same i, watch i))

    watch_of_id_one : (id : Stamp) (after : Option Path) (a b : Option (Registration × Watch)) → WatchOfIdAfter M now id after a → WatchOfIdAfter M now id after b → a ≡ b
    watch_of_id_one id after None None h g = refl
    watch_of_id_one id after None (Some y) h g = absurd (h y.0 g.0 y.1 g.1.lives g.1.fits)
    watch_of_id_one id after (Some x) None h g = absurd (g x.0 h.0 x.1 h.1.lives h.1.fits)
    watch_of_id_one id after (Some x) (Some y) h g =
        let same : x.0 ≡ y.0 = some_one x.0 y.0 (by_id_one id (Some x.0) (Some y.0) h.0 g.0) in
        let watch : x.1 ≡ y.1 = some_one x.1 y.1 (watches_one x.0.endpoint (λ w. IsAbove after w.path) (Some x.1) (Some y.1) h.1
        (subst (λ (r : Registration). IsFirstOfWatches M now r.endpoint (λ w. IsAbove after w.path) (Some y.1)) (sym same) g.1)) in
        ap Some (λ i. (same i, watch i))

-- over any marks
pub answer_one : (node : NodeContent) (M : Marks) (now : ℕ) (question : Question) (one other : Answer) → Answers node M now question one → Answers node M now question other → one ≡ other
answer_one node M now (questions.ById id) (answers.Registration a) (answers.Registration b) h g = ap answers.Registration (by_id_one M now id a b h g)
answer_one node M now (questions.ById id) (answers.Registration a) _ h g = absurd g
answer_one node M now (questions.ByEndpoint e) (answers.Registration a) (answers.Registration b) h g = ap answers.Registration (shown_of_one M now e a b h g)
answer_one node M now (questions.ByEndpoint e) (answers.Registration a) _ h g = absurd g
answer_one node M now (questions.ByAddress address) (answers.Registration a) (answers.Registration b) h g = ap answers.Registration (by_address_one M now address a b h g)
answer_one node M now (questions.ByAddress address) (answers.Registration a) _ h g = absurd g
answer_one node M now (questions.ByToken token) (answers.Watched a) (answers.Watched b) h g = ap answers.Watched (by_token_one M now token a b h g)
answer_one node M now (questions.ByToken token) (answers.Watched a) _ h g = absurd g
answer_one node M now (questions.WatchAfter id after) (answers.Watched a) (answers.Watched b) h g = ap answers.Watched (watch_of_id_one M now id after a b h g)
answer_one node M now (questions.WatchAfter id after) (answers.Watched a) _ h g = absurd g
answer_one node M now (questions.FirstAfter after) (answers.Registration a) (answers.Registration b) h g =
    ap answers.Registration (first_one M now _ (λ r q x y. shown_one M now r q x.1 y.1) a b h g)
answer_one node M now (questions.FirstAfter after) (answers.Registration a) _ h g = absurd g
answer_one node M now (questions.ExpiredAfter after) (answers.Expired a) (answers.Expired b) h g = ap answers.Expired (expired_after_one M now after a b h g)
answer_one node M now (questions.ExpiredAfter after) (answers.Expired a) _ h g = absurd g
answer_one node M now questions.Change (answers.Changed a) (answers.Changed b) h g = ap answers.Changed (h ∙ sym g)
answer_one node M now questions.Change (answers.Changed a) _ h g = absurd g
answer_one node M now _ _ _ h g = absurd h

pub answers_are_one : AnswersAreOne
answers_are_one node known = answer_one node (marks_in node.table.state known)
