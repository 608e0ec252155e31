-- Replies that have their message IDs, one after another.
use Rattle.std.specs.Prelude.{◌≡◌, ℕ, ◌+◌, ◌<◌, ◌≤◌, List, [], ◌∷◌, ◌++◌, length, get_or, set, take, drop, refl}
use Rattle.std.proofs.Common.{sym, ap, ◌∙◌, append_assoc, subst, arith, length-append}
use Rattle.std.proofs.Math.Seq.{get_or-append_seam, set-append_seam}
use Rattle.std.proofs.lemmas.List.{append-nil, drop_all, take_all}
use Rattle.lw_stamp.specs.declared.moment.Moment.{Moment}
use Rattle.lw_messaging.specs.declared.message_ids.IdCounter.{IdCounter}
use Rattle.lw_server.specs.declared.blocks.Handled.{Handled}
use Rattle.lw_server.specs.Blocks.{reply_of}
use Rattle.lw_server.specs.Numbering.{counters_behind, counts_without_message_id, IsNumbered, AreNumbered}

-- one more has its message ID behind the others
pub numbered_behind : (now : Moment) (olds news : List Handled) (counters mid : List IdCounter) (old new : Handled) → AreNumbered now counters olds news mid
    → IsNumbered now mid old new → AreNumbered now counters (olds ++ old ∷ []) (news ++ new ∷ []) (counters_behind now mid old.from (reply_of old))
numbered_behind now [] [] counters mid old new same is =
    (subst (λ (ls : List IdCounter). IsNumbered now ls old new) same is, ap (λ (ls : List IdCounter). counters_behind now ls old.from (reply_of old)) same)
numbered_behind now [] (n ∷ news) counters mid old new are is = absurd are
numbered_behind now (o ∷ olds) [] counters mid old new are is = absurd are
numbered_behind now (o ∷ olds) (n ∷ news) counters mid old new are is = (are.0, numbered_behind now olds news _ mid old new are.1 is)

-- some have their message IDs, and the rest is as it was
pub record IsNumbering (now : Moment) (first : List IdCounter) (all : List Handled) (place : ℕ) (current : List Handled) (counters : List IdCounter) : Type 0 where
  pub olds : List Handled
  pub news : List Handled
  pub rest : List Handled
  pub all_are : all ≡ olds ++ rest
  pub current_are : current ≡ news ++ rest
  pub long : length news ≡ place
  pub numbered : AreNumbered now first olds news counters

pub numbering_begins : (now : Moment) (counters : List IdCounter) (all : List Handled)
    → IsNumbering now counters all 0 all counters
numbering_begins now counters all = record { olds = []; news = []; rest = all; all_are = refl; current_are = refl; long = refl; numbered = refl }

first_of : (news rest : List Handled) (place : ℕ) → length news ≡ place → place < length (news ++ rest)
    → (r : Handled) × ((rs : List Handled) × (rest ≡ r ∷ rs))
first_of news [] place long less = absurd (omega (arith, length-append news []))
first_of news (r ∷ rs) place long less = (r, (rs, refl))

pub numbering_goes_on : (now : Moment) (first counters after : List IdCounter) (all current next : List Handled) (place : ℕ) (old new other : Handled)
    → place < length current → old ≡ get_or current place other → next ≡ set current place new → IsNumbered now counters old new
    → after ≡ counters_behind now counters old.from (reply_of old) → IsNumbering now first all place current counters
    → IsNumbering now first all (place + 1) next after
numbering_goes_on now first counters after all current next place old new other less is put numbered behind way =
    let some = first_of way.news way.rest place way.long (subst (λ (hs : List Handled). place < length hs) way.current_are less) in
    let here = way.current_are ∙ ap (λ (hs : List Handled). way.news ++ hs) some.1.1 in
    let same = is ∙ (λ k. get_or (here k) (sym way.long k) other) ∙ get_or-append_seam way.news some.0 some.1.0 other in
    record {
      olds = way.olds ++ old ∷ [];
      news = way.news ++ new ∷ [];
      rest = some.1.0;
      all_are = way.all_are ∙ ap (λ (hs : List Handled). way.olds ++ hs) (some.1.1 ∙ ap (λ (h : Handled). h ∷ some.1.0) (sym same))
          ∙ sym (append_assoc way.olds (old ∷ []) some.1.0);
      current_are = put ∙ (λ k. set (here k) (sym way.long k) new) ∙ set-append_seam way.news some.0 some.1.0 new
          ∙ sym (append_assoc way.news (new ∷ []) some.1.0);
      long = length-append way.news (new ∷ []) ∙ ap (λ (n : ℕ). n + 1) way.long;
      numbered = subst (λ (ls : List IdCounter). AreNumbered now first (way.olds ++ old ∷ []) (way.news ++ new ∷ []) ls) (sym behind)
          (numbered_behind now way.olds way.news first counters old new way.numbered numbered);
    }

none_left : (news rest : List Handled) (place : ℕ) → length news ≡ place → length (news ++ rest) ≤ place → rest ≡ []
none_left news [] place long past = refl
none_left news (r ∷ rs) place long past = absurd (omega (arith, length-append news (r ∷ rs)))

pub numbering_ends : (now : Moment) (first counters : List IdCounter) (all current : List Handled) (place : ℕ) → length current ≤ place
    → IsNumbering now first all place current counters → AreNumbered now first all current counters
numbering_ends now first counters all current place past way =
    let none = none_left way.news way.rest place way.long (subst (λ (hs : List Handled). length hs ≤ place) way.current_are past) in
    let olds = way.all_are ∙ ap (λ (hs : List Handled). way.olds ++ hs) none ∙ append-nil way.olds in
    let news = way.current_are ∙ ap (λ (hs : List Handled). way.news ++ hs) none ∙ append-nil way.news in
    subst (λ (hs : List Handled). AreNumbered now first all hs counters) (sym news)
    (subst (λ (hs : List Handled). AreNumbered now first hs way.news counters) (sym olds) way.numbered)

-- what a list is once it was lent and written over, with as many elements
given_back : {X : Type 0} (count : ℕ) (old new : List X) → count ≡ length old → length new ≡ length old
    → take count (new ++ drop (length new) old) ≡ new
given_back count old new all long =
    ap (λ xs. take count (new ++ xs)) (drop_all (length new) old (omega (arith))) ∙ ap (take count) (append-nil new) ∙ take_all count new (omega (arith))

pub numbered_in : (now : Moment) (first last : List IdCounter) (count : ℕ) (lent old new : List Handled) → lent ≡ old → count ≡ length old → length new ≡ length lent
    → AreNumbered now first lent new last → AreNumbered now first old (take count (new ++ drop (length new) old)) last
numbered_in now first last count lent old new same all long are =
    subst (λ (hs : List Handled). AreNumbered now first old hs last) (sym (given_back count old new all (long ∙ ap length same)))
    (subst (λ (hs : List Handled). AreNumbered now first hs new last) same are)

pub without_message_id_in : (before after count : ℕ) (lent old new : List Handled) → lent ≡ old → count ≡ length old → length new ≡ length lent
    → after ≡ counts_without_message_id before lent new → after ≡ counts_without_message_id before old (take count (new ++ drop (length new) old))
without_message_id_in before after count lent old new same all long is =
    is ∙ (λ k. counts_without_message_id before (same k) (sym (given_back count old new all (long ∙ ap length same)) k))
