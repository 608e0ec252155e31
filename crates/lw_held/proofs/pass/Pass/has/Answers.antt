use Rattle.std.proofs.Common.{◌≡◌}
use Rattle.lw_held.proofs.Agreement.{has_iff, has_not}
use Rattle.lw_held.proofs.pass.Pass.has.Goals as goal

pub returns-in-Some : goal.returns-in-Some
returns-in-Some c =
    let own : c.args.self.now.number ≡ c.args.entry.now.pass = cc in
    has_iff c.args.node c.args.place c.args.entry.now c.args.self.now c.in-Some.part.now c.is_of.result own c.in-Some.ensures c.is_of.ensures

pub returns-in-None : goal.returns-in-None
returns-in-None c = has_not c.args.node c.args.place c.args.entry.now c.args.self.now c.in-None.ensures
