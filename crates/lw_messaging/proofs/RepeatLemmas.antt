-- The latest exchange of a source and a message ID, by where it stands.
use Rattle.std.specs.Prelude.{◌≡◌, ℕ, ◌+◌, ◌≤◌, ◌==◌, ◌&&◌, Bool, true, false, cond, nat_le, bytes_eq, List, [], ◌∷◌, ◌++◌, Option, None, Some, refl}
use Rattle.std.proofs.Common.{sym, ap, ◌∙◌, subst, inl, inr}
use Rattle.std.specs.List.{AllByRecursion}
use Rattle.std.specs.Option.{option_or, option_and_then}
use Rattle.std.proofs.lemmas.Bool.{leb-true, le-leb}
use Rattle.std.proofs.lemmas.Bool.Decides.{eqb_tells}
use Rattle.std.proofs.lemmas.Slice.Eq.{bytes_eq-Decides}
use Rattle.lw_stamp.specs.declared.moment.Moment.{Moment}
use Rattle.lw_stamp.specs.Moment.{ms_of}
use Rattle.lw_reg.specs.declared.addr.Addr.{Addr}
use Rattle.lw_reg.specs.AddrOrder.{same_addr}
use Rattle.lw_messaging.specs.declared.exchange.Exchange.{Exchange}
use Rattle.lw_messaging.specs.Header.{message_id}
use Rattle.lw_messaging.specs.Replies.{exchange_lifetime, has_id, is_within, latest_of, replied}
use Rattle.lw_messaging.specs.Repeats.{IsRepeatOf}

both : (a b : Bool) → (a && b) ≡ true → (a ≡ true) × (b ≡ true)
both true true h = (refl, refl)
both true false h = absurd (cc)
both false b h = absurd (cc)

and_true : (a b : Bool) → a ≡ true → b ≡ true → (a && b) ≡ true
and_true a b p q = ap (λ (c : Bool). c && b) p ∙ ap (λ (c : Bool). true && c) q

same_number : (n : ℕ) → (n == n) ≡ true
same_number n = elim (eqb_tells n n) [ inl h ↦ h.0 | inr h ↦ absurd (h.1 refl) ]

module _ (from : Addr) (id : ℕ) where
  abbrev None_has : List Exchange → Type 0
  None_has xs = AllByRecursion (λ x. has_id from id x ≡ false) xs

  none_parts : (o : Option Exchange) (b : Bool) (x : Exchange) → option_or o (cond b (Some x) None) ≡ None → (o ≡ None) × (b ≡ false)
  none_parts None true x h = absurd (cc)
  none_parts None false x h = (refl, refl)
  none_parts (Some y) b x h = absurd (cc)

  none_has : (xs : List Exchange) → latest_of from id xs ≡ None → None_has xs
  none_has [] h = tt
  none_has (x ∷ xs) h =
      let parts = none_parts (latest_of from id xs) (has_id from id x) x h in (parts.1, none_has xs parts.0)

  latest_none : (xs : List Exchange) → None_has xs → latest_of from id xs ≡ None
  latest_none [] h = refl
  latest_none (x ∷ xs) h =
      ap (λ (o : Option Exchange). option_or o (cond (has_id from id x) (Some x) None)) (latest_none xs h.1)
      ∙ ap (λ (b : Bool). cond b (Some x) None) h.0

  pub record Stands (xs : List Exchange) (x : Exchange) : Type 0 where
    pub before : List Exchange
    pub behind : List Exchange
    pub stands : xs ≡ before ++ x ∷ behind
    pub has : has_id from id x ≡ true
    pub latest : None_has behind

  stands_step : (y : Exchange) (ys : List Exchange) (x : Exchange) (o : Option Exchange) → latest_of from id ys ≡ o → (b : Bool) → has_id from id y ≡ b
      → ((z : Exchange) → latest_of from id ys ≡ Some z → Stands ys z) → option_or o (cond b (Some y) None) ≡ Some x → Stands (y ∷ ys) x
  stands_step y ys x None is true has further h =
      let same : y ≡ x = cc in
      record { before = []; behind = ys; stands = ap (λ (z : Exchange). z ∷ ys) same; has = subst (λ (z : Exchange). has_id from id z ≡ true) same has; latest = none_has ys is }
  stands_step y ys x None is false has further h = absurd (cc)
  stands_step y ys x (Some z) is b has further h =
      let same : z ≡ x = cc in
      let there = further x (is ∙ ap Some same) in
      record { before = y ∷ there.before; behind = there.behind; stands = ap (λ (zs : List Exchange). y ∷ zs) there.stands; has = there.has; latest = there.latest }

  pub stands : (xs : List Exchange) (x : Exchange) → latest_of from id xs ≡ Some x → Stands xs x
  stands [] x h = absurd (cc)
  stands (y ∷ ys) x h = stands_step y ys x (latest_of from id ys) refl (has_id from id y) refl (λ z. stands ys z) h

  pub latest_behind : (before behind : List Exchange) (x : Exchange) → has_id from id x ≡ true → None_has behind
      → latest_of from id (before ++ x ∷ behind) ≡ Some x
  latest_behind [] behind x has none =
      ap (λ (o : Option Exchange). option_or o (cond (has_id from id x) (Some x) None)) (latest_none behind none)
      ∙ ap (λ (b : Bool). cond b (Some x) None) has
  latest_behind (y ∷ ys) behind x has none =
      ap (λ (o : Option Exchange). option_or o (cond (has_id from id y) (Some y) None)) (latest_behind ys behind x has none)

module _ (now : Moment) (from : Addr) (bytes : List ℕ) where
  abbrev answers : Exchange → Bool
  answers x = is_within now x.moment && bytes_eq x.bytes bytes

  abbrev again : Option Exchange → Option (Option (List ℕ))
  again o = option_and_then (λ x. cond (answers x) (Some x.reply) None) o

  answered : (b : Bool) (reply was : Option (List ℕ)) → cond b (Some was) None ≡ Some reply → (b ≡ true) × (was ≡ reply)
  answered true reply was h = (refl, cc)
  answered false reply was h = absurd (cc)

  only_step : (exchanges : List Exchange) (reply : Option (List ℕ)) (o : Option Exchange) → latest_of from (message_id bytes) exchanges ≡ o
      → again o ≡ Some reply → (x : Exchange) × (IsRepeatOf now from bytes exchanges x × (x.reply ≡ reply))
  only_step exchanges reply None is h = absurd (cc)
  only_step exchanges reply (Some x) is h =
      let known = answered (answers x) reply x.reply h in
      let parts = both (is_within now x.moment) (bytes_eq x.bytes bytes) known.0 in
      let young = both (nat_le (ms_of now) (ms_of x.moment + exchange_lifetime)) (nat_le (ms_of x.moment) (ms_of now + exchange_lifetime)) parts.0 in
      let there = stands from (message_id bytes) exchanges x is in
      let named = both (same_addr x.from from) (message_id x.bytes == message_id bytes) there.has in (
        x,
        (
          record {
            before = there.before;
            behind = there.behind;
            stands = there.stands;
            source = named.0;
            same = (bytes_eq-Decides x.bytes bytes).0 parts.1;
            not_late = leb-true _ _ young.0;
            not_early = leb-true _ _ young.1;
            latest = there.latest;
          },
          known.1,
        ),
      )

  pub only : (exchanges : List Exchange) (reply : Option (List ℕ)) → replied now from bytes exchanges ≡ Some reply
      → (x : Exchange) × (IsRepeatOf now from bytes exchanges x × (x.reply ≡ reply))
  only exchanges reply h = only_step exchanges reply (latest_of from (message_id bytes) exchanges) refl h

  pub each : (exchanges : List Exchange) (x : Exchange) → IsRepeatOf now from bytes exchanges x → replied now from bytes exchanges ≡ Some x.reply
  each exchanges x repeat =
      let number = ap (λ (bs : List ℕ). message_id bs == message_id bytes) repeat.same ∙ same_number (message_id bytes) in
      let has = and_true (same_addr x.from from) (message_id x.bytes == message_id bytes) repeat.source number in
      let latest = ap (latest_of from (message_id bytes)) repeat.stands ∙ latest_behind from (message_id bytes) repeat.before repeat.behind x has repeat.latest in
      let young = and_true _ _ (le-leb (ms_of now) (ms_of x.moment + exchange_lifetime) repeat.not_late) (le-leb (ms_of x.moment) (ms_of now + exchange_lifetime) repeat.not_early) in
      let known = and_true (is_within now x.moment) (bytes_eq x.bytes bytes) young ((bytes_eq-Decides x.bytes bytes).1 repeat.same) in
      ap again latest ∙ ap (λ (b : Bool). cond b (Some x.reply) None) known
