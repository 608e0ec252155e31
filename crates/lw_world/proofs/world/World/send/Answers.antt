use Rattle.std.proofs.Common.{ap, ◌∙◌, refl, sym}
use Rattle.std.specs.Prelude.{map}
use Rattle.std.proofs.lemmas.List.{length-map, map-append}
use Rattle.lw_world.specs.declared.event.Action.TheVariants as actions
use Rattle.lw_world.proofs.Making.{makes_message, makes_nothing}
use Rattle.lw_world.proofs.world.World.send.Goals as goal

pub returns-in_default : goal.returns-in_default
returns-in_default c =
    makes_nothing c.args.self.now _ c.self.view_is c.args.place c.index-node.result.now (actions.Send c.args.since) _ c.requires c.index-node.ensures (λ messages k from are. refl)

pub returns : goal.returns
returns c =
    makes_message c.args.self.now _ c.self.view_is c.args.place c.index-node.result.now c.args.since _ c.in-Ok.delta.items _
    (ap (map (λ m. m.items)) c.in_ok-push.ensures.items ∙ map-append (λ m. m.items) c.self.inside.messages.items _) c.requires c.index-node.ensures
    c.in-Ok.ensures (c.len.ensures ∙ c.self.inside.messages.ok.0 ∙ sym (length-map c.self.inside.messages.items (λ m. m.items))) c.change.ensures
