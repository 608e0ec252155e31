use Rattle.std.proofs.Common.{◌≡◌, ◌∷◌, string_bytes, ap, arith, length, rules}
use Rattle.lw_link.specs.declared.style.Style.TheVariants.{Any}
use Rattle.lw_link.specs.inner.Machine.{next_state}
use Rattle.lw_link.proofs.Scanning.{take_seen}
use Rattle.lw_link.proofs.Walk.{text_more}
use Rattle.lw_link.proofs.reading.run_of.Goals as goal

pub loop-c-preserved : goal.loop-c-preserved
loop-c-preserved c =
    let l = c.loop-c in
    let x = c.in-Some.c in
    let here : l.scanner ≡ x ∷ c.take.new.self = take_seen l.scanner c.take.new.self c.in-Some.ensures.0 x c.take.result c.in-Some.ensures.1 c.take.ensures in
    let same : next_state Any c.args.state x ≡ c.args.state = search rules in (
      text_more c.args.state c.args.scanner.now l.scanner c.take.new.self (string_bytes l.text) (string_bytes c.push.new.self) x c.requires here same c.in_ok-push.ensures.bytes l.invariant.0,
      omega (arith, ap length here, l.invariant.1),
    )
