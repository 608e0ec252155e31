use Rattle.std.proofs.Common.{codes, subst}
use Rattle.clap.specs.Words.{first_of, subcommand_rows_of}
use Rattle.lw_fleet.specs.CommandLine.{option_rows, IsAddressIfGiven}
use Rattle.lw_fleet.proofs.HttpLemmas.{no_address, not_at_address}
use Rattle.lw_fleet.proofs.OneLemmas.{on_err}
use Rattle.lw_fleet.proofs.http_options.http_in.Goals as goal

pub returns-in_err-address-clause-none : goal.returns-in_err-address-clause-none
returns-in_err-address-clause-none c =
    on_err c.from_residual.result _
    (no_address (option_rows (subcommand_rows_of c.args.matches.now)) c.in_err-address.ensures.none)

pub returns-in_err-http_at-in-Some-clause-none : goal.returns-in_err-http_at-in-Some-clause-none
returns-in_err-http_at-in-Some-clause-none c =
    let rows = option_rows (subcommand_rows_of c.args.matches.now) in
    on_err c.from_residual-in_err-http_at-in-Some.result _
    (not_at_address rows c.in-Some.address (subst (IsAddressIfGiven (first_of (codes "http") rows)) c.in-Some.is c.in_ok-address.ensures.given)
    c.in_err-http_at-in-Some.ensures.none)
