use Rattle.lw_link.proofs.Walk.{plain_item, escaped_item, open_escape}
use Rattle.lw_link.proofs.reading.item.Goals as goal

pub returns-then-first-ne92-clause-taken : goal.returns-then-first-ne92-clause-taken
returns-then-first-ne92-clause-taken c = plain_item c.args.first c.args.scanner.now c.requires.first c.if-first-ne92.true c.requires.whole

pub returns-in_default-clause-taken : goal.returns-in_default-clause-taken
returns-in_default-clause-taken c = absurd (open_escape c.args.first c.args.scanner.now c.if-first-ne92.false c.in_default.ensures.0 c.requires.whole)

pub returns-clause-taken : goal.returns-clause-taken
returns-clause-taken c = escaped_item c.args.first c.args.scanner.now c.take.new.self c.in-Some.c c.if-first-ne92.false c.in-Some.ensures c.requires.whole
