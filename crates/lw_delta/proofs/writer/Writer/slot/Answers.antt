use Rattle.std.proofs.Common.{◌≡◌, ℕ, List, [], ◌∷◌, ◌++◌, length, take, take_at, ap, ◌∙◌, sym, refl, subst}
use Rattle.lw_delta.specs.Writable.{Begun, IsBegun, Follows, StampsWithin, last_endpoint}
use Rattle.lw_delta.specs.Writing.{Begins}
use Rattle.lw_delta.proofs.BegunLemmas.{begun_more}
use Rattle.lw_delta.proofs.writer.Writer.slot.Goals as goal

pub returns-in-Ok-clause-begun : goal.returns-in-Ok-clause-begun
returns-in-Ok-clause-begun c =
    λ slots h.
    let old : Begun = record { clock = c.self.inside.clock; bytes = c.self.inside.bytes.items } in
    let named = c.requires.named in
    let within = subst (λ (w : Begun). StampsWithin w.clock c.args.slot.now) (sym c.self.view_is) c.requires.within in
    let follows : Follows old.clock (last_endpoint slots) (c.args.endpoint.now, c.args.slot.now) = record { some = named.some; most = named.most; above = c.requires.above slots h; stamps = within } in
    begun_more old slots (c.args.endpoint.now, c.args.slot.now) c.put_with_room.new.out.items _
    (subst (λ (w : Begun). IsBegun w slots) (sym c.self.view_is) h) follows c.in-Ok.ensures.typed c.in-Ok.ensures.named c.in-Ok.ensures.written refl

pub invariant_of-self : goal.invariant_of-self
invariant_of-self c =
    let old : Begun = record { clock = c.self.inside.clock; bytes = c.self.inside.bytes.items } in
    let named = c.requires.named in
    let slots = c.self.invariant.0 in
    let h = subst (λ (w : Begun). IsBegun w slots) c.self.view_is c.self.invariant.1 in
    let within = subst (λ (w : Begun). StampsWithin w.clock c.args.slot.now) (sym c.self.view_is) c.requires.within in
    let follows : Follows old.clock (last_endpoint slots) (c.args.endpoint.now, c.args.slot.now) = record { some = named.some; most = named.most; above = c.requires.above slots h; stamps = within } in (
      slots ++ (c.args.endpoint.now, c.args.slot.now) ∷ [],
      begun_more old slots (c.args.endpoint.now, c.args.slot.now) c.put_with_room.new.out.items _
          c.self.invariant.1 follows c.in-Ok.ensures.typed c.in-Ok.ensures.named c.in-Ok.ensures.written refl,
    )

cut_back : (was more now : List ℕ) (count : ℕ) → Begins was more → count ≡ length was → now ≡ take count more → now ≡ was
cut_back was more now count kept e f =
    f ∙ (ap (λ (n : ℕ). take n more) e ∙ (ap (λ (x : List ℕ). take (length was) x) kept.is ∙ take_at was kept.more _ refl))

pub returns-in-Err-clause-refused : goal.returns-in-Err-clause-refused
returns-in-Err-clause-refused c =
    let with_bytes : List ℕ → Begun = λ x. record { clock = c.self.inside.clock; bytes = x } in
    ap with_bytes (cut_back c.self.inside.bytes.items c.put_with_room.new.out.items c.truncate.new.self.items c.len-begun.result c.put_with_room.ensures.kept (c.len-begun.ensures ∙ c.self.inside.bytes.ok.0) c.truncate.ensures.items) ∙ c.self.view_is

pub invariant_of-self-in-Err : goal.invariant_of-self-in-Err
invariant_of-self-in-Err c =
    let with_bytes : List ℕ → Begun = λ x. record { clock = c.self.inside.clock; bytes = x } in
    let same : c.truncate.new.self.items ≡ c.self.inside.bytes.items = cut_back c.self.inside.bytes.items c.put_with_room.new.out.items c.truncate.new.self.items c.len-begun.result c.put_with_room.ensures.kept (c.len-begun.ensures ∙ c.self.inside.bytes.ok.0) c.truncate.ensures.items in
    (c.self.invariant.0, subst (λ (w : Begun). IsBegun w c.self.invariant.0) (sym (ap with_bytes same)) c.self.invariant.1)
