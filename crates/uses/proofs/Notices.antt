-- The notices of an observation, datagram by datagram.
use Rattle.std.proofs.Common.{◌≡◌, ℕ, zero, suc, ◌+◌, ◌<◌, ◌≤◌, List, [], ◌∷◌, ◌++◌, length, get_or, drop, Option, sym, refl, ap, ◌∙◌, subst, arith, append_assoc, append-nil, drop-cons}
use Rattle.std.proofs.lemmas.List.{drop_all}
use Rattle.lw_stamp.specs.declared.stamp.Stamp.{Stamp}
use Rattle.lw_call.specs.Contents.{NoticeContent, TakenContent}
use Rattle.lw_node.specs.Node.{NodeContent}
use Rattle.uses.specs.declared.following.Datagram.{Datagram}
use Rattle.uses.specs.Following.{Keeps, TakesOne, TakesAll}

-- What comes of the datagrams that are left, behind the notices so far, is what comes of all.
abbrev pub TakenSoFar : Stamp → NodeContent → List Datagram → ℕ → List NoticeContent → NodeContent → Type 0
TakenSoFar token first datagrams index notices node =
    (later : List NoticeContent) (last : NodeContent) → TakesAll token node (drop index datagrams) later last → TakesAll token first datagrams (notices ++ later) last

module _ (token : Stamp) (first : NodeContent) (datagrams : List Datagram) where
  pub none_taken : TakenSoFar token first datagrams 0 [] first
  none_taken later last h = h

  pub one_taken : (index : ℕ) (datagram : Datagram) (notices after : List NoticeContent) (node mid : NodeContent) (taken : TakenContent) → index < length datagrams → get_or datagrams index datagram ≡ datagram
      → TakesOne node datagram taken mid → Keeps notices token taken.notice after → TakenSoFar token first datagrams index notices node → TakenSoFar token first datagrams (index + 1) after mid
  one_taken index datagram notices after node mid taken less is takes keeps so_far later last h =
      let kept = keeps.0 in
      let next : suc index ≡ index + 1 = omega arith in
      let split : drop index datagrams ≡ datagram ∷ drop (index + 1) datagrams =
      drop-cons datagrams index datagram less ∙ ap (λ (n : ℕ). get_or datagrams index datagram ∷ drop n datagrams) next ∙ ap (λ (x : Datagram). x ∷ drop (index + 1) datagrams) is in
      let all : TakesAll token first datagrams (notices ++ (kept ++ later)) last =
      so_far (kept ++ later) last (subst (λ (ds : List Datagram). TakesAll token node ds (kept ++ later) last) (sym split) (taken, mid, kept, later, takes, keeps.1, refl, h)) in
      subst (λ (ns : List NoticeContent). TakesAll token first datagrams ns last) (sym (ap (λ (ns : List NoticeContent). ns ++ later) keeps.2 ∙ append_assoc notices kept later)) all

  pub all_taken : (index : ℕ) (notices : List NoticeContent) (node : NodeContent) → length datagrams ≤ index → TakenSoFar token first datagrams index notices node → TakesAll token first datagrams notices node
  all_taken index notices node past so_far =
      subst (λ (ns : List NoticeContent). TakesAll token first datagrams ns node) (append-nil notices)
      (so_far [] node (subst (λ (ds : List Datagram). TakesAll token node ds [] node) (sym (drop_all index datagrams past)) (refl, refl)))
