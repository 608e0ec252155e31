use Rattle.std.proofs.Common.{◌≡◌, ◌∙◌, ap, ℕ, List, get_or, drop, arith, rules}
use Rattle.std.proofs.lemmas.List.{get_or-take, get_or-drop, take_rest}
use Rattle.std.specs.Int.{w64, from_be_bytes}
use Rattle.lw_log.specs.EntryFaults.{kind_in}
use Rattle.lw_log.proofs.reading.read_head.Goals as goal

pub returns-clause-found : goal.returns-clause-found
returns-clause-found c =
    let bytes = c.args.bytes.now in
    let last = c.in_ok-kind.ensures.found in
    let number = c.in_ok-number.ensures.found in
    let kind : get_or c.in_ok-kind.field-0 0 0 ≡ kind_in bytes =
    ap (λ (x : List ℕ). get_or x 0 0) last.1 ∙ get_or-take 1 (drop 38 bytes) 0 0 (omega arith) ∙ get_or-drop 38 bytes 0 0 in
    record {
      whole = record { magic = c.in_ok-check_magic.ensures.found; long = omega (arith, last.0); number = omega (arith, number.1, number.2) };
      fleet = c.in_ok-chunk.ensures.found.1;
      number = number.2;
      tag = c.from_be_bytes-tag.ensures ∙ ap (from_be_bytes w64) c.in_ok-chunk-2.ensures.found.1;
      sequence = c.from_be_bytes-sequence.ensures ∙ ap (from_be_bytes w64) c.in_ok-chunk-3.ensures.found.1;
      kind = kind;
      body = take_rest bytes 39;
      fits = search rules;
    }
