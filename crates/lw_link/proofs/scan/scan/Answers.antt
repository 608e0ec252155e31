use Rattle.std.proofs.Common.{◌+◌, ◌≡◌, ◌<◌, ◌≤◌, ◌^◌, List, ℕ, length, arith, rules, sym, subst}
use Rattle.lw_link.specs.declared.state.State.TheVariants.{Start}
use Rattle.lw_link.proofs.Passed.{scanned_turn, turn_fits, scanned_link, link_fits, link_shorter}
use Rattle.lw_link.proofs.Scanned.{IsScanned, opened, scanned_start, opened_true, opened_false}
use Rattle.lw_link.proofs.scan.scan.Goals as goal
use Rattle.lw_link.proofs.scan.scan.Goals.{then-opens_link, else-opens_link}

pub loop-c-init : goal.loop-c-init
loop-c-init c = subst (λ (x : List ℕ). IsScanned c.args.style c.args.text.now Start 0 0 x) (sym c.new-scanner.ensures) (scanned_start c.args.style c.args.text.now c.utf8.text)

pub overflow_add-place : goal.overflow_add-place
overflow_add-place c =
    let l = c.loop-c in
    let within : l.place + c.len_utf8.result + c.pass.result ≤ length c.args.text.now =
    turn_fits c.args.style c.args.text.now l.state c.next-next.result l.links l.place c.len_utf8.result c.pass.result l.scanner c.take.new.self c.pass.new.self c.in-Some.c c.in-Some.ensures
    c.next-next.ensures c.in_default-next.not-Stop c.len_utf8.ensures.value c.pass.ensures l.invariant in
    let fits : length c.args.text.now < 2 ^ 64 = search rules in
    omega (arith, within, fits)

pub overflow_add-place-in-Some-pass_link : goal.overflow_add-place-in-Some-pass_link
overflow_add-place-in-Some-pass_link c =
    let l = c.loop-count in
    let within = link_fits c.args.style c.args.text.now c.next-next.result l.links l.place c.in-Some-pass_link.count l.scanner c.pass_link.new.self c.in-Some-pass_link.ensures l.invariant.0 in
    let fits : length c.args.text.now < 2 ^ 64 = search rules in
    omega (arith, within.1, fits)

pub loop-count-init : goal.loop-count-init
loop-count-init c =
    let l = c.loop-c in
    let x = c.in-Some.c in
    let links : c.if-opens_link.links ≡ l.links + opened l.state x =
    elim c.if-opens_link.branch [
      | then-opens_link w ↦ opened_true l.state x c.opens_link.result c.if-opens_link.links l.links c.opens_link.ensures w.if-opens_link.true w.links-is
      | else-opens_link w ↦ opened_false l.state x c.opens_link.result c.if-opens_link.links l.links c.opens_link.ensures w.if-opens_link.false w.links-is
    ] in (
      scanned_turn c.args.style c.args.text.now l.state c.next-next.result l.links c.if-opens_link.links l.place c.len_utf8.result c.pass.result l.scanner c.take.new.self c.pass.new.self x c.in-Some.ensures
          c.next-next.ensures c.in_default-next.not-Stop links c.len_utf8.ensures.value c.pass.ensures l.invariant,
      omega arith,
    )

pub loop-count-preserved : goal.loop-count-preserved
loop-count-preserved c =
    let l = c.loop-count in
    let n = c.in-Some-pass_link.count in (
      scanned_link c.args.style c.args.text.now c.next-next.result l.links l.place n l.scanner c.pass_link.new.self c.in-Some-pass_link.ensures l.invariant.0,
      omega (arith, link_shorter c.next-next.result l.scanner c.pass_link.new.self n c.in-Some-pass_link.ensures, l.invariant.1),
    )

pub loop-c-preserved : goal.loop-c-preserved
loop-c-preserved c =
    let l = c.loop-count in
    subst (λ (x : List ℕ). IsScanned c.args.style c.args.text.now c.next-next.result l.links l.place x) (sym c.in_default-pass_link.ensures) l.invariant.0
