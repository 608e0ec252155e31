use Rattle.std.proofs.Common.{◌≡◌, inl, inr, ap, sym, subst, ◌∙◌}
use Rattle.lw_recent.specs.declared.recent.Recent.TheInside.{Inside}
use Rattle.lw_recent.specs.Entries.{pairs_in}
use Rattle.lw_recent.specs.Recent.{IsUnder}
use Rattle.lw_recent.proofs.recent.Recent.move_to.Goals.{then-len-capacity, else-len-capacity}
use Rattle.lw_recent.proofs.recent.Recent.move_to.Goals as goal

pub returns : goal.returns
returns c = λ n e.
    let closed : pairs_in c.if-len-capacity.self-inside.entries.items ≡ pairs_in c.take_out.new.entries.items = elim c.if-len-capacity.branch [
      | then-len-capacity w ↦ ap (λ (i : Inside). pairs_in i.entries.items) w.self-inside-is ∙ w.close_up.ensures.pairs
      | else-len-capacity w ↦ ap (λ (i : Inside). pairs_in i.entries.items) w.self-inside-is
    ] in
    let drops = c.take_out.ensures.drops n e in
    let adds = c.put.ensures.adds n e in (
      λ h. elim (adds.0 h) [
        | inl there ↦ let left = drops.0 (subst (λ l. IsUnder l n e) closed there) in inl (subst (λ l. IsUnder l n e) c.self.view_is left.0, left.1)
        | inr pair ↦ inr pair
      ],
      λ h. adds.1 (elim h [
        | inl left ↦ inl (subst (λ l. IsUnder l n e) (sym closed) (drops.1 (subst (λ l. IsUnder l n e) (sym c.self.view_is) left.0, left.1)))
        | inr pair ↦ inr pair
      ]),
    )
