use Rattle.std.proofs.Common.{ap, ◌∙◌}
use Rattle.clap.specs.Words.{first_of, found_of}
use Rattle.clap.proofs.WalkLemmas.{first_value-rows}
use Rattle.lw_fleet.proofs.CommandLemmas.{option_rows_are}
use Rattle.lw_fleet.proofs.command.given_text.Goals as goal

pub returns : goal.returns
returns c =
    let rows = option_rows_are _ _ (c.in_ok-options.ensures.rows) in
    c.get_str.ensures ∙ first_value-rows (found_of c.in_ok-options.options.now) c.args.option.now ∙ ap (first_of c.args.option.now) rows
