use Rattle.std.proofs.Common.{◌≡◌, inl, inr, sym, subst, ◌∙◌}
use Rattle.lw_recent.specs.Entries.{pairs_in}
use Rattle.lw_recent.specs.Recent.{IsUnder}
use Rattle.lw_recent.proofs.recent.Recent.add.Goals as goal

pub returns-clause-added : goal.returns-clause-added
returns-clause-added c = λ n p.
    let was : pairs_in c.make_room.new.entries.items ≡ c.args.self.now = c.make_room.ensures.pairs ∙ c.self.view_is in
    let adds = c.put.ensures.adds n p in (
      λ h. elim (adds.0 h) [ inl there ↦ inl (subst (λ l. IsUnder l n p) was there) | inr pair ↦ inr pair ],
      λ h. adds.1 (elim h [ inl there ↦ inl (subst (λ l. IsUnder l n p) (sym was) there) | inr pair ↦ inr pair ]),
    )
