use Rattle.std.proofs.Common.{◌≡◌, ◌≤◌, ◌++◌, length}
use Rattle.lw_coap.specs.Fits.{AreRising, options_length}
use Rattle.lw_coap.specs.inner.Writing.{options_bytes}
use Rattle.lw_coap.proofs.writing.put_options.Given as goal

abbrev pub invariant-loop-option : goal.invariant-loop-option
invariant-loop-option l = record {
  written : l.out.items ++ options_bytes l.before l.rest ≡ l.fn.out.items ++ options_bytes 0 l.options;
  rising : AreRising l.before l.rest;
  small : options_length l.before l.rest ≤ 8192;
}

abbrev pub decreases-loop-option : goal.decreases-loop-option
decreases-loop-option l = length l.rest
