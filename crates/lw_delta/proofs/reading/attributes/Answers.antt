use Rattle.lw_delta.proofs.Grammar.{attributes_decided}
use Rattle.lw_delta.proofs.Owning.{only_want, attributes_rise, attributes_are, no_attributes_are, there_found}
use Rattle.lw_delta.proofs.Parts.{raised, refuted}
use Rattle.lw_delta.proofs.reading.attributes.Goals as goal

pub returns-then-not-present-clause-value : goal.returns-then-not-present-clause-value
returns-then-not-present-clause-value c = λ o rest f. no_attributes_are c.args.clock c.args.present c.args.bytes.now c.new.result o rest c.if-not-present.true f c.new.ensures

pub returns-in_err-entries-clause-fault : goal.returns-in_err-entries-clause-fault
returns-in_err-entries-clause-fault c =
    let there = there_found c.args.bytes.now c.requires.0 c.requires.1 c.if-not-present.false c.requires.2 in
    raised _ c.from_residual.result c.from_residual.ensures.1 (only_want (attributes_decided c.args.clock) c.args.bytes.now there.0 c.requires.1 c.in_err-entries.field-0.0 there.1 c.in_err-entries.ensures.fault)

pub unreachable-requires : goal.unreachable-requires
unreachable-requires c =
    let f = c.in_ok-entries.ensures.found in
    refuted c.in_default.ensures.rise (attributes_rise c.args.clock c.args.bytes.now c.in_ok-entries.entries.items f.0 f.1)

pub returns-clause-value : goal.returns-clause-value
returns-clause-value c = λ o rest f.
    let g = c.in_ok-entries.ensures.found in
    attributes_are c.args.clock c.args.present c.args.bytes.now c.in-Some.parts c.in_ok-entries.entries.items o g.0 rest c.if-not-present.false g.1 f c.in-Some.ensures.same
