use Rattle.std.proofs.Common.{sym, arith, take_all, length-take-le}
use Rattle.lw_redis_log.proofs.errors.beginning.Goals as goal

pub slice_bounds-result-end : goal.slice_bounds-result-end
slice_bounds-result-end c = sym (length-take-le 200 c.args.text.now (omega (arith, c.if-text-gt-MAX_SHOWN.true)))

pub returns-else-text-gt-MAX_SHOWN : goal.returns-else-text-gt-MAX_SHOWN
returns-else-text-gt-MAX_SHOWN c = sym (take_all 200 c.args.text.now (omega (arith, c.if-text-gt-MAX_SHOWN.false)))
