use Rattle.lw_link.proofs.Parts.{IsTakingLink, taking_link, attrs_wait, link_taken}
use Rattle.lw_link.proofs.reading.link.Goals as goal

pub attrs-requires : goal.attrs-requires
attrs-requires c =
    let way : IsTakingLink c.args.scanner.now c.in_ok-target.target c.spaces.new.scanner c.take.new.self c.run_of.new.scanner c.take-2.new.self =
    taking_link c.args.scanner.now c.in_ok-target.target c.spaces.new.scanner c.take.new.self c.run_of.new.scanner c.take-2.new.self c.take.result c.take-2.result c.requires c.spaces.ensures.comma c.spaces.ensures.past c.take.ensures c.in_ok-target.ensures.taken c.take-2.ensures in
    attrs_wait c.args.scanner.now c.in_ok-target.target c.spaces.new.scanner c.take.new.self c.run_of.new.scanner c.take-2.new.self c.requires way

pub returns-clause-taken : goal.returns-clause-taken
returns-clause-taken c =
    let way : IsTakingLink c.args.scanner.now c.in_ok-target.target c.spaces.new.scanner c.take.new.self c.run_of.new.scanner c.take-2.new.self =
    taking_link c.args.scanner.now c.in_ok-target.target c.spaces.new.scanner c.take.new.self c.run_of.new.scanner c.take-2.new.self c.take.result c.take-2.result c.requires c.spaces.ensures.comma c.spaces.ensures.past c.take.ensures c.in_ok-target.ensures.taken c.take-2.ensures in
    link_taken c.args.scanner.now c.in_ok-target.target c.spaces.new.scanner c.take.new.self c.run_of.new.scanner c.take-2.new.self c.attrs.new.scanner c.in_ok-attrs.attrs.items way c.in_ok-attrs.ensures.taken
