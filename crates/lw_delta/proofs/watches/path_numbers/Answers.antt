use Rattle.std.proofs.Common.{refl, arith, ◌∙◌, take}
use Rattle.std.proofs.lemmas.List.{length-set}
use Rattle.lw_delta.proofs.Paths.{a_number_fails, numbers_step}
use Rattle.lw_delta.proofs.Parts.{given, raised}
use Rattle.lw_delta.proofs.watches.path_numbers.Goals as goal

pub loop-n-init : goal.loop-n-init
loop-n-init c = record { found = given; len = refl }

pub returns-in_err-number-clause-fault : goal.returns-in_err-number-clause-fault
returns-in_err-number-clause-fault c = raised _ c.from_residual.result c.from_residual.ensures.1 (a_number_fails c.loop-n.n c.args.count c.args.bytes.now (take c.loop-n.n c.loop-n.numbers) c.loop-n.rest.now c.in_err-number.field-0.0 c.loop-n-test.true c.loop-n.invariant.found c.in_err-number.ensures.fault)

pub loop-n-preserved : goal.loop-n-preserved
loop-n-preserved c = record { found = numbers_step c.loop-n.n c.args.bytes.now c.loop-n.numbers c.loop-n.rest.now c.in_ok-number.number c.in_ok-number.behind.now (omega (arith, c.loop-n-test.true, c.requires, c.loop-n.invariant.len)) c.loop-n.invariant.found c.in_ok-number.ensures.found; len = length-set c.loop-n.numbers c.loop-n.n c.in_ok-number.number ∙ c.loop-n.invariant.len }
