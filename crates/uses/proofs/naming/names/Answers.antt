use Rattle.std.proofs.Common.{◌≡◌, ◌∙◌, ℕ, List, [], ◌∷◌, ◌++◌, Option, Some, None, sym, ap, subst}
use Rattle.lw_stamp.specs.Moment.{ms_of}
use Rattle.lw_reg.specs.Reading.{shown_in}
use Rattle.lw_reg.specs.Registration.{Registration}
use Rattle.lw_table.specs.Answers.{FirstAfter, after_text}
use Rattle.uses.specs.Naming.{last_of}
use Rattle.uses.proofs.Rising.{FoundSoFar, none_found, more_found, all_found}
use Rattle.uses.proofs.naming.names.Goals as goal

pub loop-init : goal.loop-init
loop-init c =
    subst (FoundSoFar (shown_in c.args.node.now.table.state) (ms_of c.args.now)) (sym c.new-names.ensures.items) (none_found (shown_in c.args.node.now.table.state) (ms_of c.args.now))

pub loop-preserved : goal.loop-preserved
loop-preserved c =
    let last : after_text c.last.result ≡ last_of c.loop.names.items = c.last.ensures ∙ ap last_of c.deref.ensures.value in
    let copied : c.in_ok-copy_of.field-0 ≡ c.in-Some.shown.endpoint = c.in_ok-copy_of.ensures ∙ ap (λ (r : Registration). r.endpoint) c.shown.view_is in
    more_found (shown_in c.args.node.now.table.state) (ms_of c.args.now) c.loop.names.items c.push.new.self.items c.in-Some.shown c.loop.invariant
    (subst (λ (o : Option (List ℕ)). FirstAfter (shown_in c.args.node.now.table.state) (ms_of c.args.now) o (Some c.in-Some.shown)) last c.in-Some.ensures.read)
    (c.in_ok-push.ensures.items ∙ ap (λ (e : List ℕ). c.loop.names.items ++ e ∷ []) copied)

pub returns-in_default : goal.returns-in_default
returns-in_default c =
    let last : after_text c.last.result ≡ last_of c.loop.names.items = c.last.ensures ∙ ap last_of c.deref.ensures.value in
    let none : FirstAfter (shown_in c.args.node.now.table.state) (ms_of c.args.now) (after_text c.last.result) None =
    subst (λ (r : Option Registration). FirstAfter (shown_in c.args.node.now.table.state) (ms_of c.args.now) (after_text c.last.result) r) c.in_default.is c.first_after.ensures.read in
    all_found (shown_in c.args.node.now.table.state) (ms_of c.args.now) c.loop.names.items c.loop.invariant
    (subst (λ (o : Option (List ℕ)). FirstAfter (shown_in c.args.node.now.table.state) (ms_of c.args.now) o None) last none)
