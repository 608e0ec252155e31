use Rattle.std.proofs.Common.{◌≡◌, List, ℕ, subst, sym, chars, true}
use Rattle.lw_link.specs.declared.style.Style.TheVariants.{Any}
use Rattle.lw_link.specs.declared.state.State.TheVariants.{Comma}
use Rattle.lw_link.specs.inner.Machine.{read_on}
use Rattle.lw_link.specs.inner.Taking.{TakesLink}
use Rattle.lw_link.proofs.Parts.{first_waits, links_start, link_waits, links_more}
use Rattle.lw_link.proofs.reading.links.Goals as goal

pub link-requires : goal.link-requires
link-requires c =
    subst (λ (x : List ℕ). (read_on Any Comma x).whole ≡ true) (sym c.new-scanner.ensures) (first_waits (chars c.args.text.now) c.requires)

pub loop-links-init : goal.loop-links-init
loop-links-init c =
    let link = c.in_ok-link.field-0 in
    let taken : TakesLink link (chars c.args.text.now) c.link.new.scanner = subst (λ (x : List ℕ). TakesLink link x c.link.new.scanner) c.new-scanner.ensures c.in_ok-link.ensures.taken in
    rw (c.in_ok-push.ensures.items, c.new-links.ensures.items) (links_start (chars c.args.text.now) c.link.new.scanner link c.requires taken)

pub link-requires-in-Some : goal.link-requires-in-Some
link-requires-in-Some c =
    let l = c.loop-links in
    link_waits (chars c.args.text.now) l.scanner c.take.new.self l.links.items c.in-Some.field-0 c.in-Some.ensures l.invariant

pub loop-links-preserved : goal.loop-links-preserved
loop-links-preserved c =
    let l = c.loop-links in
    rw c.in_ok-push-2.ensures.items
    (links_more (chars c.args.text.now) l.scanner c.take.new.self c.link-in-Some.new.scanner l.links.items c.in_ok-link-2.field-0 c.in-Some.field-0 c.in-Some.ensures c.in_ok-link-2.ensures.taken l.invariant)
