use Rattle.std.proofs.Common.{Option, List}
use Rattle.clap.specs.Words.{Row, Text}
use Rattle.lw_fleet.specs.CommandLine.{option_rows, IsAsked, IsGiven, IsGivenToRun, IsGivenToServe, NamesReplay, NamesRun, NamesServe}
use Rattle.lw_fleet.specs.declared.command.OneOptions.{OneOptions}
use Rattle.lw_fleet.specs.declared.command.ServeOptions.{ServeOptions}
use Rattle.lw_fleet.specs.declared.command.Request.{Request}
use Rattle.lw_fleet.specs.declared.command.Request.TheVariants.{One, Replay, Serve, Run}
use Rattle.lw_fleet.specs.declared.run_options.RunOptions.{RunOptions}
use Rattle.lw_fleet.proofs.EndingLemmas.{replay_or_run, replay_or_serve, serve_or_run}
use Rattle.lw_fleet.proofs.OneLemmas.{on_err}
use Rattle.lw_fleet.proofs.command.request_in.Goals as goal

-- a command of no other name, with options that are not given
asks_nothing : (command : Option (Text × List Row)) → ¬ NamesReplay command → ¬ NamesServe command → ¬ NamesRun command
    → ((o : OneOptions) → ¬ IsGiven (option_rows command) o) → (r : Request) → ¬ IsAsked command r
asks_nothing command no_replay no_serve no_run none (One options) (_, _, _, given) = none options given
asks_nothing command no_replay no_serve no_run none Replay replays = no_replay replays
asks_nothing command no_replay no_serve no_run none (Serve options) (serves, _) = no_serve serves
asks_nothing command no_replay no_serve no_run none (Run options) (runs, _) = no_run runs

-- a `serve` with options that are not given
serves_nothing : (command : Option (Text × List Row)) → NamesServe command → ((o : ServeOptions) → ¬ IsGivenToServe (option_rows command) o) → (r : Request) → ¬ IsAsked command r
serves_nothing command serves none (One options) (_, other, _, _) = other serves
serves_nothing command serves none Replay replays = replay_or_serve command replays serves
serves_nothing command serves none (Serve options) (_, given) = none options given
serves_nothing command serves none (Run options) (runs, _) = serve_or_run command serves runs

-- a `run` with options that are not given
runs_nothing : (command : Option (Text × List Row)) → NamesRun command → ((o : RunOptions) → ¬ IsGivenToRun (option_rows command) o) → (r : Request) → ¬ IsAsked command r
runs_nothing command runs none (One options) (_, _, other, _) = other runs
runs_nothing command runs none Replay replays = replay_or_run command replays runs
runs_nothing command runs none (Serve options) (serves, _) = serve_or_run command serves runs
runs_nothing command runs none (Run options) (_, given) = none options given

pub returns-in_err-options_in-clause-none : goal.returns-in_err-options_in-clause-none
returns-in_err-options_in-clause-none c =
    on_err c.from_residual-in_err-options_in.result _
    (asks_nothing _ (λ replays. let is = c.names.ensures.1 replays in cc (is, c.if-names.false)) (λ serves. let is = c.names-2.ensures.1 serves in cc (is, c.if-names-2.false))
    (λ runs. let is = c.names-3.ensures.1 runs in cc (is, c.if-names-3.false)) c.in_err-options_in.ensures.none)

pub returns-in_err-serve_options_in-clause-none : goal.returns-in_err-serve_options_in-clause-none
returns-in_err-serve_options_in-clause-none c =
    on_err c.from_residual.result _ (serves_nothing _ (c.names-2.ensures.0 c.if-names-2.true) c.in_err-serve_options_in.ensures.none)

pub returns-in_err-run_options_in-clause-none : goal.returns-in_err-run_options_in-clause-none
returns-in_err-run_options_in-clause-none c =
    on_err c.from_residual-in_err-run_options_in.result _ (runs_nothing _ (c.names-3.ensures.0 c.if-names-3.true) c.in_err-run_options_in.ensures.none)
