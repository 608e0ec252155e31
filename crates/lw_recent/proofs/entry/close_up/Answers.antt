use Rattle.std.proofs.Common.{◌≡◌, rules, ap, ◌∙◌, arith, length, filter}
use Rattle.std.proofs.lemmas.List.Elements.{filter_from_retain}
use Rattle.std.proofs.lemmas.List.Kept.{IsNonDecreasingBy-filter}
use Rattle.lw_recent.specs.Entries.{pairs_in, number_of}
use Rattle.lw_recent.proofs.EntryLemmas.{filled, pairs_filled, filled_less}
use Rattle.lw_recent.proofs.entry.close_up.Goals as goal

pub returns-clause-pairs : goal.returns-clause-pairs
returns-clause-pairs c =
    let is : c.retain.new.self.items ≡ filter filled c.args.entries.now.items = filter_from_retain _ filled (λ p x b q r. search rules) _ _ _ c.retain.ensures.filtered in
    ap pairs_in is ∙ pairs_filled c.args.entries.now.items

pub returns-clause-rises : goal.returns-clause-rises
returns-clause-rises c = λ h.
    let is : c.retain.new.self.items ≡ filter filled c.args.entries.now.items = filter_from_retain _ filled (λ p x b q r. search rules) _ _ _ c.retain.ensures.filtered in
    rw is (IsNonDecreasingBy-filter number_of filled c.args.entries.now.items h)

pub returns-clause-shorter : goal.returns-clause-shorter
returns-clause-shorter c = λ h.
    let is : c.retain.new.self.items ≡ filter filled c.args.entries.now.items = filter_from_retain _ filled (λ p x b q r. search rules) _ _ _ c.retain.ensures.filtered in
    let long : length c.retain.new.self.items ≡ length (filter filled c.args.entries.now.items) = ap length is in
    let less = filled_less c.args.entries.now.items h.0 h.1.within h.1.empty in
    omega (arith, long, less, c.retain.new.self.ok, c.args.entries.now.ok)
