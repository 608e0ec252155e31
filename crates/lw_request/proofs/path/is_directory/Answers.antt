use Rattle.std.proofs.Common.{sym, ◌∙◌}
use Rattle.lw_request.specs.Options.{values_of}
use Rattle.lw_request.proofs.Paths.{directory_is}
use Rattle.lw_request.proofs.path.is_directory.Goals as goal

pub returns-then-eq : goal.returns-then-eq
returns-then-eq c =
    directory_is (values_of 11 c.args.options.now) c.in-Some.first.now c.value_at-then-eq.result c.is_none.result (sym c.in-Some.ensures) (sym c.eq.ensures ∙ c.if-eq.true) c.value_at-then-eq.ensures c.is_none.ensures
