-- What is kept so far, and what is to be kept of what is left.
use Rattle.std.proofs.Common.{drop}
use Rattle.lw_server.specs.Exchanges.{exchanges_of}
use Rattle.lw_server.proofs.Keeping.{IsUnderWay}
use Rattle.lw_server.proofs.exchanges.keep_exchanges.Given as goal

abbrev pub invariant-loop-datagram : goal.invariant-loop-datagram
invariant-loop-datagram l =
    IsUnderWay l.initial.kept (exchanges_of l.now l.handled) l.kept (exchanges_of l.now (drop l.datagram-index l.handled))
