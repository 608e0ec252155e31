use Rattle.std.proofs.Common.{◌++◌, List, ℕ, ap, ◌∙◌, refl, rules}
use Rattle.lw_log.specs.Entries.{EntryContent, content_of, entry_bytes}
use Rattle.lw_replica.proofs.state.ReplicaState.entry.Goals as goal

pub returns : goal.returns
returns c =
    let e : EntryContent = content_of (record { fleet = c.args.fleet; start = c.args.self.now.start; sequence = c.saturating_add.result; body = c.args.body }) in
    let range = c.args.self.now.start.in_range in
    record {
      entry = e;
      is = record {
        written = c.in_ok-put_entry.ensures ∙ ap (λ (xs : List ℕ). xs ++ entry_bytes e) c.new-bytes.ensures.items;
        fits = record { fleet = search rules; number = (range.0, range.1); tag = range.2; sequence = c.saturating_add.type_inv; body = c.requires.fits };
        spelled = c.requires.spelt;
      };
      number = refl;
      tag = refl;
      sequence_is = c.saturating_add.ensures;
      fleet_is = refl;
      body_is = refl;
    }
