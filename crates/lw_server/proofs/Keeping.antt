-- Datagrams and exchanges one after another.
use Rattle.std.specs.Prelude.{◌≡◌, ℕ, suc, ◌+◌, ◌<◌, ◌≤◌, Bool, true, false, Option, None, Some, Result, Ok, Err, OnErr, OnOk, List, [], ◌∷◌, ◌++◌, length, drop, get_or, refl}
use Rattle.std.proofs.Common.{sym, ap, ◌∙◌, add-one, append_assoc, arith, drop-cons, subst}
use Rattle.std.proofs.lemmas.List.{drop_all}
use Rattle.std.specs.Option.{option_to_list}
use Rattle.std.specs.Result.{is_err}
use Rattle.lw_stamp.specs.declared.moment.Moment.{Moment}
use Rattle.lw_reg.specs.declared.addr.Addr.{Addr}
use Rattle.lw_udp.specs.declared.datagram.Datagram.{Datagram}
use Rattle.lw_server.specs.declared.blocks.Handled.{Handled}
use Rattle.lw_messaging.specs.declared.exchange.Exchange.{Exchange}
use Rattle.lw_messaging.specs.Replies.{let_go}
use Rattle.lw_server.specs.Exchanges.{again_to, exchange_of, exchanges_of, fresh_behind, kept_after, sent_again, with_fresh, Keeps}

-- one more is taken, or is not
pub fresh_step : (now : Moment) (kept : List Exchange) (fresh more rest left total : List Datagram) (d : Datagram) → rest ≡ d ∷ left
    → more ≡ with_fresh now kept fresh d → fresh_behind now kept fresh rest ≡ total → fresh_behind now kept more left ≡ total
fresh_step now kept fresh more rest left total d are is so_far =
    ap (λ (f : List Datagram). fresh_behind now kept f left) is ∙ ap (fresh_behind now kept fresh) (sym are) ∙ so_far

again_first : (now : Moment) (kept : List Exchange) (d : Datagram) (ds : List Datagram) (o : Option (Addr × List ℕ)) → again_to now kept d ≡ o
    → sent_again now kept (d ∷ ds) ≡ option_to_list o ++ sent_again now kept ds
again_first now kept d ds None is = simp is
again_first now kept d ds (Some send) is = simp is

-- one more reply is sent again, or is not
pub sent_step : (now : Moment) (kept : List Exchange) (rest left : List Datagram) (d : Datagram) (sends more total : List (Addr × List ℕ))
    → rest ≡ d ∷ left → more ≡ sends ++ option_to_list (again_to now kept d) → sends ++ sent_again now kept rest ≡ total
    → more ++ sent_again now kept left ≡ total
sent_step now kept rest left d sends more total are is so_far =
    ap (λ (s : List (Addr × List ℕ)). s ++ sent_again now kept left) is
    ∙ append_assoc sends (option_to_list (again_to now kept d)) (sent_again now kept left)
    ∙ ap (λ (s : List (Addr × List ℕ)). sends ++ s) (sym (again_first now kept d left (again_to now kept d) refl))
    ∙ ap (λ (ds : List Datagram). sends ++ sent_again now kept ds) (sym are) ∙ so_far

pub kept_after-append : (old front more : List Exchange) → kept_after old (front ++ more) ≡ kept_after (kept_after old front) more
kept_after-append old [] more = refl
kept_after-append old (x ∷ front) more = kept_after-append (let_go x.moment (old ++ x ∷ [])) front more

-- some of the exchanges are kept, and the rest is to be
pub record IsUnderWay (old : List Exchange) (all : List Exchange) (now : List Exchange) (rest : List Exchange) : Type 0 where
  pub front : List Exchange
  pub are : all ≡ front ++ rest
  pub kept : now ≡ kept_after old front

pub begins : (old all : List Exchange) → IsUnderWay old all old all
begins old all = record { front = []; are = refl; kept = refl }

pub goes_on : (old all now new rest : List Exchange) (o : Option Exchange) → IsUnderWay old all now (option_to_list o ++ rest)
    → new ≡ kept_after now (option_to_list o) → IsUnderWay old all new rest
goes_on old all now new rest o way is = record {
  front = way.front ++ option_to_list o;
  are = way.are ∙ sym (append_assoc way.front (option_to_list o) rest);
  kept = is ∙ ap (λ (k : List Exchange). kept_after k (option_to_list o)) way.kept ∙ sym (kept_after-append old way.front (option_to_list o));
}

pub stays_so : (old all now new rest : List Exchange) → new ≡ now → IsUnderWay old all now rest → IsUnderWay old all new rest
stays_so old all now new rest is way = record { front = way.front; are = way.are; kept = is ∙ way.kept }

pub ends : (old all want now rest : List Exchange) (is_all : Bool) → IsUnderWay old all now rest → all ≡ want
    → (is_all ≡ true → rest ≡ []) → Keeps old want now is_all
ends old all want now rest is_all way same none =
    record { front = way.front; left_out = rest; are = sym same ∙ way.are; kept = way.kept; all = none }

one_exchange : (now : Moment) (h : Handled) (hs : List Handled) (o : Option Exchange) → exchange_of now h ≡ o
    → exchanges_of now (h ∷ hs) ≡ option_to_list o ++ exchanges_of now hs
one_exchange now h hs None is = simp is
one_exchange now h hs (Some x) is = simp is

-- an exchange more is kept, if the datagram is a request
pub keep_step : (now : Moment) (old all kept new : List Exchange) (handled more : List Handled) (h : Handled)
    → handled ≡ h ∷ more → new ≡ kept_after kept (option_to_list (exchange_of now h))
    → IsUnderWay old all kept (exchanges_of now handled) → IsUnderWay old all new (exchanges_of now more)
keep_step now old all kept new handled more h first is way =
    let apart = ap (exchanges_of now) first ∙ one_exchange now h more (exchange_of now h) refl in
    goes_on old all kept new (exchanges_of now more) (exchange_of now h) (subst (λ (xs : List Exchange). IsUnderWay old all kept xs) apart way) is

pub none_left : (now : Moment) (handled : List Handled) (i : ℕ) → length handled ≤ i → exchanges_of now (drop i handled) ≡ []
none_left now handled i past = ap (exchanges_of now) (drop_all i handled past)

pub next_is : {X : Type 0} (xs : List X) (i : ℕ) (x : X) → i < length xs → x ≡ get_or xs i x → drop i xs ≡ x ∷ drop (i + 1) xs
next_is xs i x lt e = rw (add-one, drop-cons xs i x lt) (ap (λ y. y ∷ drop (suc i) xs) (sym e))

-- what holds of a result that is not an error
pub of_ok : {T E P : Type 0} (r : Result T E) → is_err r ≡ false → OnOk r P → P
of_ok (Ok x) fine is = is
of_ok (Err e) fine is = absurd (cc)

pub of_err : {T E P : Type 0} (r : Result T E) → is_err r ≡ true → OnErr r P → P
of_err (Ok x) fails is = absurd (cc)
of_err (Err e) fails is = is
