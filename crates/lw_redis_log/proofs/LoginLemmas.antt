-- Lines of a login.
use Rattle.std.proofs.Common.{◌≡◌, ◌≢◌, ℕ, Bool, true, false, List, [], ◌∷◌, ◌++◌, Bor, Option, Some, None, refl, sym, ap, ◌∙◌, subst, inl, inr, arith}
use Rattle.std.specs.Prelude.{◌⊎◌, ◌==◌, All, IfNone, position}
use Rattle.std.proofs.lemmas.List.{append_assoc, append-nil, append_cancel_right}
use Rattle.std.proofs.lemmas.List.Elements.{All-head, All-tail, All-weaker, All-push, All-from_get_or}
use Rattle.std.proofs.lemmas.List.Quantifiers.{position-Some}
use Rattle.std.proofs.lemmas.List.Sums.{fails_before_first}
use Rattle.std.proofs.lemmas.Bool.{eqb-true}
use Rattle.std.proofs.lemmas.Grind.{common_steps}
use Rattle.std.proofs.Common.{◌<◌, ◌≤◌, ◌-◌, suc, length, take, drop, get_or, eqb, take-append-drop, length-drop, take_all, drop-cons, length-append}
use Rattle.std.specs.List.{position_or_len}
use Rattle.lw_redis_log.proofs.Places.{nowhere}
use Rattle.lw_redis_log.specs.Logins.{IsPart, IsEnd, IsLogin, is_control}
use Rattle.lw_redis_log.specs.inner.Logins.{IsReturned, IsPartOf, IsLast, IsFirstLine}

abbrev IsClean : ℕ → Type 0
IsClean byte = is_control byte ≡ false

abbrev IsNoFeed : ℕ → Type 0
IsNoFeed byte = byte ≢ 10

no_control : (front : List ℕ) (c : ℕ) (behind : List ℕ) → is_control c ≡ true → All IsClean (front ++ c ∷ behind) → ⊥
no_control [] c behind is h = let is_not : is_control c ≡ false = All-head IsClean c behind h in absurd cc
no_control (x ∷ front) c behind is h = no_control front c behind is (All-tail IsClean x (front ++ c ∷ behind) h)

-- what ends in a control character is no part
no_part : (part front : List ℕ) (c : ℕ) → is_control c ≡ true → IsPart part → part ≢ front ++ c ∷ []
no_part part front c is p e = no_control front c [] is (subst (λ xs. All IsClean xs) e p.clean)

no_feed : (x : ℕ) → IsClean x → IsNoFeed x
no_feed x h e = let is : is_control 10 ≡ false = subst (λ (b : ℕ). is_control b ≡ false) e h in absurd cc

part_no_feed : (part : List ℕ) → IsPart part → All IsNoFeed part
part_no_feed part p = All-weaker IsClean IsNoFeed no_feed part p.clean

returned_no_feed : (part : List ℕ) → All IsNoFeed part → All IsNoFeed (part ++ 13 ∷ [])
returned_no_feed part h = All-push IsNoFeed part 13 h (λ e. cc)

-- where two lines end at their first line feed, they are one
same_feed : (t u x y : List ℕ) → All IsNoFeed t → All IsNoFeed u → t ++ (10 ∷ x) ≡ u ++ (10 ∷ y) → (t ≡ u) × (x ≡ y)
same_feed [] [] x y p q e = (refl, cc)
same_feed [] (v ∷ u) x y p q e = let same : v ≡ 10 = cc in absurd (All-head IsNoFeed v u q same)
same_feed (w ∷ t) [] x y p q e = let same : w ≡ 10 = cc in absurd (All-head IsNoFeed w t p same)
same_feed (w ∷ t) (v ∷ u) x y p q e =
    let head : w ≡ v = cc in
    let tail : t ++ (10 ∷ x) ≡ u ++ (10 ∷ y) = cc in
    let rest = same_feed t u x y (All-tail IsNoFeed w t p) (All-tail IsNoFeed v u q) tail in
    ((λ i. head i ∷ rest.0 i), rest.1)

-- ---- a line without its line feed
pub returned_some : (line found : List ℕ) → line ≡ found ++ 13 ∷ [] → IsPartOf (IsReturned line) found
returned_some line found e = record { is = inr e; only = only }
  where
    only : (part : List ℕ) → IsPart part → IsReturned line part → part ≡ found
    only part p (inl same) = absurd (no_part part found 13 refl p (sym same ∙ e))
    only part p (inr same) = append_cancel_right part found (13 ∷ []) (sym same ∙ e)

pub returned_none : (line : List ℕ) → ((front : List ℕ) → line ≢ front ++ 13 ∷ []) → IsPartOf (IsReturned line) line
returned_none line none = record { is = inl refl; only = only }
  where
    only : (part : List ℕ) → IsPart part → IsReturned line part → part ≡ line
    only part p (inl same) = sym same
    only part p (inr same) = absurd (none part same)

-- ---- a line that may lack its end
pub last_some : (bytes line found : List ℕ) → bytes ≡ line ++ 10 ∷ [] → IsPartOf (IsReturned line) found → IsPartOf (IsLast bytes) found
last_some bytes line found e h = record { is = is h.is; only = only }
  where
    is : IsReturned line found → IsLast bytes found
    is (inl same) = (10 ∷ [], inr (inl refl), e ∙ ap (λ l. l ++ 10 ∷ []) same)
    is (inr same) = (13 ∷ 10 ∷ [], inr (inr refl), e ∙ ap (λ l. l ++ 10 ∷ []) same ∙ append_assoc found (13 ∷ []) (10 ∷ []))

    by_end : (part last : List ℕ) → IsPart part → (last ≡ []) ⊎ IsEnd last → bytes ≡ part ++ last → part ≡ found
    by_end part last p (inl none) written =
        absurd (no_part part line 10 refl p (sym (append-nil part) ∙ ap (λ l. part ++ l) (sym none) ∙ sym written ∙ e))
    by_end part last p (inr (inl feed)) written =
        let same : part ++ 10 ∷ [] ≡ line ++ 10 ∷ [] = ap (λ l. part ++ l) (sym feed) ∙ sym written ∙ e in
        h.only part p (inl (sym (append_cancel_right part line (10 ∷ []) same)))
    by_end part last p (inr (inr both)) written =
        let same : (part ++ 13 ∷ []) ++ 10 ∷ [] ≡ line ++ 10 ∷ [] =
        append_assoc part (13 ∷ []) (10 ∷ []) ∙ ap (λ l. part ++ l) (sym both) ∙ sym written ∙ e
        in
        h.only part p (inr (sym (append_cancel_right (part ++ 13 ∷ []) line (10 ∷ []) same)))

    only : (part : List ℕ) → IsPart part → IsLast bytes part → part ≡ found
    only part p l = by_end part l.0 p l.1 l.2

pub last_none : (bytes : List ℕ) → ((front : List ℕ) → bytes ≢ front ++ 10 ∷ []) → IsPartOf (IsLast bytes) bytes
last_none bytes none = record { is = ([], inl refl, sym (append-nil bytes)); only = only }
  where
    by_end : (part last : List ℕ) → IsPart part → (last ≡ []) ⊎ IsEnd last → bytes ≡ part ++ last → part ≡ bytes
    by_end part last p (inl empty) written = sym (written ∙ ap (λ l. part ++ l) empty ∙ append-nil part)
    by_end part last p (inr (inl feed)) written = absurd (none part (written ∙ ap (λ l. part ++ l) feed))
    by_end part last p (inr (inr both)) written =
        absurd (none (part ++ 13 ∷ []) (written ∙ ap (λ l. part ++ l) both ∙ sym (append_assoc part (13 ∷ []) (10 ∷ []))))

    only : (part : List ℕ) → IsPart part → IsLast bytes part → part ≡ bytes
    only part p l = by_end part l.0 p l.1 l.2

-- ---- both lines
pub login_found : (bytes line behind user password : List ℕ) → IsFirstLine bytes line behind → IsPartOf (IsReturned line) user
    → IsPartOf (IsLast behind) password → IsPart user → IsPart password → IsLogin bytes user password
login_found bytes line behind user password first u w is_user is_password = by_return u.is
  where
    last : List ℕ
    last = w.is.0

    by_return : IsReturned line user → IsLogin bytes user password
    by_return (inl same) = record {
      is_user = is_user;
      is_password = is_password;
      end = 10 ∷ [];
      last = w.is.0;
      ended = inl refl;
      may_end = w.is.1;
      written = first.written ∙ ap (λ l. l ++ 10 ∷ behind) same ∙ ap (λ l. user ++ 10 ∷ l) w.is.2;
    }
    by_return (inr same) = record {
      is_user = is_user;
      is_password = is_password;
      end = 13 ∷ 10 ∷ [];
      last = w.is.0;
      ended = inr refl;
      may_end = w.is.1;
      written = first.written ∙ ap (λ l. l ++ 10 ∷ behind) same ∙ append_assoc user (13 ∷ []) (10 ∷ behind)
          ∙ ap (λ l. user ++ 13 ∷ 10 ∷ l) w.is.2;
    }

-- the first line of a login
first_of : (bytes u w : List ℕ) → IsLogin bytes u w → (front behind : List ℕ) × All IsNoFeed front × IsReturned front u × IsLast behind w × (bytes ≡ front ++ 10 ∷ behind)
first_of bytes u w l = by_end l.ended
  where
    by_end : IsEnd l.end → (front behind : List ℕ) × All IsNoFeed front × IsReturned front u × IsLast behind w × (bytes ≡ front ++ 10 ∷ behind)
    by_end (inl feed) = (u, w ++ l.last, part_no_feed u l.is_user, inl refl, (l.last, l.may_end, refl), l.written ∙ ap (λ e. u ++ (e ++ (w ++ l.last))) feed)
    by_end (inr both) = (
      u ++ 13 ∷ [],
      w ++ l.last,
      returned_no_feed u (part_no_feed u l.is_user),
      inr refl,
      (l.last, l.may_end, refl),
      l.written ∙ ap (λ e. u ++ (e ++ (w ++ l.last))) both ∙ sym (append_assoc u (13 ∷ []) (10 ∷ (w ++ l.last))),
    )

pub login_none : (bytes line behind user password : List ℕ) → IsFirstLine bytes line behind → IsPartOf (IsReturned line) user
    → IsPartOf (IsLast behind) password → (IsPart user → IsPart password → ⊥) → (u w : List ℕ) → ¬ IsLogin bytes u w
login_none bytes line behind user password first is_user is_password none u w l =
    let it = first_of bytes u w l in
    let same = same_feed it.0 line it.1 behind it.2 first.no_feed (sym it.5 ∙ first.written) in
    let returned : IsReturned line u = subst (λ (f : List ℕ). IsReturned f u) same.0 it.3 in
    let trailing : IsLast behind w = subst (λ (b : List ℕ). IsLast b w) same.1 it.4 in
    none (subst IsPart (is_user.only u l.is_user returned) l.is_user) (subst IsPart (is_password.only w l.is_password trailing) l.is_password)

-- without a line feed there is no login
pub no_login : (bytes : List ℕ) → ((line behind : List ℕ) → bytes ≢ line ++ 10 ∷ behind) → (u w : List ℕ) → ¬ IsLogin bytes u w
no_login bytes none u w l = let it = first_of bytes u w l in none it.0 it.1 it.5

-- ---- the first line feed
abbrev is_feed : ℕ → Bool
is_feed byte = byte == 10

not_feed : (b : ℕ) → (b == 10) ≡ false → IsNoFeed b
not_feed b f e = let is : (10 == 10) ≡ false = subst (λ (x : ℕ). (x == 10) ≡ false) e f in absurd cc

pub feed_within : (bytes : List ℕ) (place : ℕ) → position is_feed bytes ≡ Some place → place < length bytes
feed_within bytes place e = (position-Some is_feed bytes place 0 e).0

fails_to : (xs : List ℕ) (i : ℕ) → i ≤ length xs → ((k : ℕ) → k < i → is_feed (get_or xs k 0) ≡ false) → All IsNoFeed (take i xs)
fails_to xs i long h = All-from_get_or IsNoFeed (take i xs) 0
    (λ k lt. let none = not_feed (get_or xs k 0) (h k (grind (arith, common_steps))) in grind (arith, common_steps))

pub first_feed : (bytes line end behind : List ℕ) (place : ℕ) → position is_feed bytes ≡ Some place → line ≡ take place bytes → end ≡ drop place bytes
    → behind ≡ take (length end - 1) (drop 1 end) → IsFirstLine bytes line behind
first_feed bytes line end behind place e line_is end_is behind_is =
    let at = position-Some is_feed bytes place 0 e in
    let first : get_or bytes place 0 ≡ 10 = eqb-true (get_or bytes place 0) 10 at.1 in
    let parts : end ≡ get_or bytes place 0 ∷ drop (suc place) bytes = end_is ∙ drop-cons bytes place 0 at.0 in
    let all : take (length end - 1) (drop 1 end) ≡ drop 1 end = take_all (length end - 1) (drop 1 end) (omega (arith, length-drop 1 end)) in
    let rest : behind ≡ drop (suc place) bytes = behind_is ∙ all ∙ ap (λ (l : List ℕ). drop 1 l) parts in
    record {
      no_feed = subst (All IsNoFeed) (sym line_is) (fails_to bytes place (omega (arith, at.0)) at.2);
      written = sym (take-append-drop place bytes) ∙ ap (λ (l : List ℕ). l ++ drop place bytes) (sym line_is)
          ∙ ap (λ (l : List ℕ). line ++ l) (sym end_is ∙ parts ∙ ap (λ (b : ℕ). b ∷ drop (suc place) bytes) first
          ∙ ap (λ (l : List ℕ). 10 ∷ l) (sym rest));
    }

-- where no byte is a line feed, there is no line that ends
no_line : (bytes : List ℕ) → All IsNoFeed bytes → (line behind : List ℕ) → bytes ≢ line ++ 10 ∷ behind
no_line bytes h line behind e = stands line (subst (All IsNoFeed) e h)
  where
    stands : (line : List ℕ) → All IsNoFeed (line ++ 10 ∷ behind) → ⊥
    stands [] g = All-head IsNoFeed 10 behind g refl
    stands (x ∷ line) g = stands line (All-tail IsNoFeed x (line ++ 10 ∷ behind) g)

pub no_feed_no_line : (bytes : List ℕ) → position is_feed bytes ≡ None → (line behind : List ℕ) → bytes ≢ line ++ 10 ∷ behind
no_feed_no_line bytes e = no_line bytes (All-from_get_or IsNoFeed bytes 0 (λ k lt. not_feed (get_or bytes k 0) (fails_before_first is_feed bytes k 0 (omega (arith, lt, nowhere is_feed bytes e)))))

-- where both lines are no login, nothing else is
pub none_of_both : {X : Type 0} (r : Option X) (bytes line behind : List ℕ) → IsFirstLine bytes line behind
    → IfNone r ((bytes user password : List ℕ) → IsFirstLine bytes line behind → ¬ IsLogin bytes user password)
    → IfNone r ((user password : List ℕ) → ¬ IsLogin bytes user password)
none_of_both (Some x) bytes line behind first h = tt
none_of_both None bytes line behind first h = λ user password. h bytes user password first
