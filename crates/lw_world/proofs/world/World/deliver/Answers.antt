use Rattle.std.proofs.Common.{ap, ◌∙◌, refl, subst, List, ℕ}
use Rattle.lw_node.specs.Exchange.{Merges}
use Rattle.lw_node.specs.Node.{NodeContent}
use Rattle.lw_world.specs.declared.event.Action.TheVariants as actions
use Rattle.lw_world.proofs.Making.{makes, makes_nothing, delivers, some_item, kept_at, kept_past}
use Rattle.lw_world.proofs.world.World.deliver.Goals as goal

pub returns-in-Some : goal.returns-in-Some
returns-in-Some c =
    makes c.args.self.now _ c.self.view_is c.args.place c.index_mut.result.now c.merge.new.self (actions.Deliver c.args.message) _ c.requires c.index_mut.ensures.value
    (λ messages k from sound are. delivers messages k c.args.message c.in-Some.bytes.now.items sound
    (kept_at (λ m. m.items) c.deref.result.now c.self.inside.messages.items messages c.args.message c.in-Some.bytes.now c.deref.ensures.value are c.in-Some.ensures.lookup.3.0 c.in-Some.ensures.lookup.1)
    c.merge.result c.merge.new.self
    (subst (λ (n : NodeContent). Merges n c.in-Some.bytes.now.items c.merge.result c.merge.new.self) from
    (subst (λ (bs : List ℕ). Merges c.index_mut.result.now bs c.merge.result c.merge.new.self) c.deref-in-Some.ensures.value c.merge.ensures.merges)))

pub returns-in-None : goal.returns-in-None
returns-in-None c =
    let node = some_item c.args.self.now.nodes c.args.place c.requires in
    makes_nothing c.args.self.now c.args.self.now refl c.args.place node.0 (actions.Deliver c.args.message) _ c.requires node.1
    (λ messages k from are. (kept_past (λ m. m.items) c.deref.result.now c.self.inside.messages.items messages c.args.message c.deref.ensures.value (ap (λ w. w.messages) c.self.view_is ∙ are) c.in-None.ensures.lookup.3, refl))
