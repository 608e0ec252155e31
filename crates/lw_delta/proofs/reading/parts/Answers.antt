use Rattle.lw_delta.proofs.Grammar.{watches_decided}
use Rattle.lw_delta.proofs.Owning.{only_want, watches_rise, parts_are}
use Rattle.lw_delta.proofs.Parts.{raised, refuted}
use Rattle.lw_delta.proofs.reading.parts.Goals as goal

pub returns-in_err-entries-clause-fault : goal.returns-in_err-entries-clause-fault
returns-in_err-entries-clause-fault c = raised _ c.from_residual.result c.from_residual.ensures.1 (only_want (watches_decided c.args.clock) c.args.bytes.now c.requires.0 c.requires.1 c.in_err-entries.field-0.0 c.requires.2 c.in_err-entries.ensures.fault)

pub unreachable-requires : goal.unreachable-requires
unreachable-requires c =
    let f = c.in_ok-entries.ensures.found in
    refuted c.in_default.ensures.rise (watches_rise c.args.clock c.args.bytes.now c.in_ok-entries.entries.items f.0 f.1)

pub returns-clause-value : goal.returns-clause-value
returns-clause-value c = λ ws rest g. let f = c.in_ok-entries.ensures.found in parts_are c.args.clock c.args.bytes.now c.in-Some.parts c.in_ok-entries.entries.items ws f.0 rest f.1 g c.in-Some.ensures.same
