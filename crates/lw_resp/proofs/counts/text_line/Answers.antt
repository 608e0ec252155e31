use Rattle.std.proofs.Common.{[], ◌∷◌}
use Rattle.lw_resp.proofs.LineLemmas.{long_whole, returned_text, begun_text, long_begun_text}
use Rattle.lw_resp.proofs.counts.text_line.Goals as goal

pub returns-then-text-gt-MAX_TEXT : goal.returns-then-text-gt-MAX_TEXT
returns-then-text-gt-MAX_TEXT c =
    long_whole c.args.bytes.now c.in-Whole.text.now (10 ∷ c.in-Whole.rest.now) c.in-Whole.ensures.0 c.in-Whole.ensures.1 c.if-text-gt-MAX_TEXT.true

pub returns-then-text-gt-MAX_TEXT-2 : goal.returns-then-text-gt-MAX_TEXT-2
returns-then-text-gt-MAX_TEXT-2 c =
    long_whole c.args.bytes.now c.in-Returned.text.now [] c.in-Returned.ensures.0 c.in-Returned.ensures.1 c.if-text-gt-MAX_TEXT-2.true

pub returns-else-text-gt-MAX_TEXT-2 : goal.returns-else-text-gt-MAX_TEXT-2
returns-else-text-gt-MAX_TEXT-2 c = returned_text c.args.bytes.now c.in-Returned.text.now c.in-Returned.ensures c.if-text-gt-MAX_TEXT-2.false

pub returns-then-text-gt-MAX_TEXT-3 : goal.returns-then-text-gt-MAX_TEXT-3
returns-then-text-gt-MAX_TEXT-3 c = long_begun_text c.args.bytes.now c.in-Begun.text.now c.in-Begun.ensures c.if-text-gt-MAX_TEXT-3.true

pub returns-else-text-gt-MAX_TEXT-3 : goal.returns-else-text-gt-MAX_TEXT-3
returns-else-text-gt-MAX_TEXT-3 c = begun_text c.args.bytes.now c.in-Begun.text.now c.in-Begun.ensures c.if-text-gt-MAX_TEXT-3.false
