use Rattle.std.proofs.Common.{◌≡◌, ◌+◌, ◌≤◌, drop}
use Rattle.lw_coap.specs.Fits.{AreRising, options_length}
use Rattle.lw_coap.proofs.size.bytes_of_options.Given as goal

abbrev pub invariant-loop-option : goal.invariant-loop-option
invariant-loop-option l =
    let rest = drop l.option-index l.options in
    record {
      rising : AreRising 0 l.options → AreRising l.before rest;
      risen : AreRising l.before rest → AreRising 0 l.options;
      total : options_length 0 l.options ≡ l.len + options_length l.before rest;
      within : l.len ≤ 8192;
    }
