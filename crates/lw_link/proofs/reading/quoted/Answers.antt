use Rattle.std.proofs.Common.{string_bytes, ap, arith, length, rules}
use Rattle.lw_link.proofs.Walk.{still_whole, item_more}
use Rattle.lw_link.proofs.reading.quoted.Goals as goal

pub item-requires-clause-whole : goal.item-requires-clause-whole
item-requires-clause-whole c =
    let l = c.loop-c in
    still_whole c.args.scanner.now l.scanner c.take.new.self (string_bytes l.text) c.in-Some.c c.in-Some.ensures c.requires l.invariant.0

pub loop-c-preserved : goal.loop-c-preserved
loop-c-preserved c =
    let l = c.loop-c in (
      item_more c.args.scanner.now l.scanner c.take.new.self c.item.new.scanner (string_bytes l.text) (string_bytes c.push.new.self) c.in-Some.c c.item.result c.in-Some.ensures c.item.ensures.taken c.in_ok-push.ensures.bytes l.invariant.0,
      omega (arith, ap length c.in-Some.ensures, c.item.ensures.shorter, l.invariant.1),
    )

pub returns-clause-taken : goal.returns-clause-taken
returns-clause-taken c = search rules
