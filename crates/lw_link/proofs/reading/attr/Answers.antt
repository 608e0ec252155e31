use Rattle.lw_link.proofs.Parts.{attr_whole, attr_taken}
use Rattle.lw_link.proofs.reading.attr.Goals as goal

pub value-requires-clause-whole : goal.value-requires-clause-whole
value-requires-clause-whole c =
    attr_whole c.args.scanner.now c.spaces.new.scanner c.run_of.new.scanner c.in_ok-name.name c.spaces.ensures.semicolon c.requires c.spaces.ensures.past c.in_ok-name.ensures.taken

pub returns-clause-taken : goal.returns-clause-taken
returns-clause-taken c =
    attr_taken c.args.scanner.now c.spaces.new.scanner c.run_of.new.scanner c.value.new.scanner c.in_ok-name.name c.in_ok-value.value c.spaces.ensures.semicolon c.requires c.spaces.ensures.past c.in_ok-name.ensures.taken c.in_ok-value.ensures.taken
