use Rattle.std.proofs.Common.{◌≡◌, List, sym, subst, ap, ◌∙◌}
use Rattle.std.specs.Prelude.{Some, find}
use Rattle.lw_coap.specs.Grammar.{IsSpelling}
use Rattle.lw_messaging.specs.Fetches.{FetchContent, FetchesContent, AreBounded, IsCut, has_number, others}
use Rattle.lw_messaging.proofs.FetchLemmas.{others_bounded}
use Rattle.lw_messaging.proofs.FetchTaken.{cut_so}
use Rattle.lw_messaging.proofs.fetches.Fetches.cut.Goals as goal

pub invariant_of-self : goal.invariant_of-self
invariant_of-self c =
    subst (λ (l : List FetchContent). AreBounded l) (sym c.forget.ensures.left)
    (others_bounded c.args.fetch c.self.inside.fetches.items c.self.invariant)

pub returns-clause-bounded : goal.returns-clause-bounded
returns-clause-bounded c =
    subst (λ (l : List FetchContent). AreBounded l) (sym c.forget.ensures.left)
    (others_bounded c.args.fetch c.self.inside.fetches.items c.self.invariant)

pub returns-clause-cut : goal.returns-clause-cut
returns-clause-cut c =
    let old : FetchesContent = record { next = c.self.inside.next; fetches = c.self.inside.fetches.items } in
    let new : FetchesContent = record { next = c.self.inside.next; fetches = c.forget.new.fetches.items } in
    let is : Some c.in-Some.over.now ≡ find (has_number c.args.fetch) old.fetches =
    c.in-Some.ensures.found ∙ ap (find (has_number c.args.fetch)) c.deref.ensures.value in
    let spelled : IsSpelling c.in_ok-message.message.items c.in-Some.over.now.message =
    subst (λ (f : FetchContent). IsSpelling c.in_ok-message.message.items f.message) c.over.view_is
    c.in_ok-message.ensures in
    let left : new ≡ record old { fetches = others c.args.fetch old.fetches } =
    ap (λ (l : List FetchContent). record old { fetches = l }) c.forget.ensures.left in
    subst (λ (s : FetchesContent). IsCut s c.args.fetch (Some c.in_ok-message.message) new) c.self.view_is
    (cut_so old new c.args.fetch c.in-Some.over.now c.in_ok-message.message (sym is) spelled left)
