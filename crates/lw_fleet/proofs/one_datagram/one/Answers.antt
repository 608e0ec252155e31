use Rattle.std.proofs.Common.{rules, ℕ, List, length, sym, ap, subst, ◌∙◌, arith}
use Rattle.std.proofs.lemmas.Result.{err_from_is_err_and}
use Rattle.std.specs.Io.KnownBytes.{Appends}
use Rattle.hex.specs.Hex.{decode_of}
use Rattle.lw_fleet.specs.declared.fault.Fault.TheVariants.{WriteFailed}
use Rattle.lw_stamp.specs.Moment.{ms_of}
use Rattle.lw_fleet.specs.One.{IsAddressText, IsAnswered}
use Rattle.lw_fleet.proofs.OneLemmas.{another_fault, no_fault, of_line, of_hex, of_memory, of_writing, failed_front, if_some, on_ok}
use Rattle.lw_fleet.proofs.one_datagram.one.Goals as goal

pub returns-in_err-line-clause-address_refused : goal.returns-in_err-line-clause-address_refused
returns-in_err-line-clause-address_refused g c =
    let from = c.args.options.now.from.now in
    let address : IsAddressText from = (c.in-Some.source, c.in-Some.ensures.in_range, c.in-Some.ensures.found) in
    let p = err_from_is_err_and c.from_residual.result c.from_residual.ensures.1 in
    another_fault c.from_residual.result p.0 from address p.1 (λ h. of_line _ c.in_err-line.ensures.faults (sym p.2 ∙ h))

pub returns-in_err-datagram-clause-address_refused : goal.returns-in_err-datagram-clause-address_refused
returns-in_err-datagram-clause-address_refused g c =
    let from = c.args.options.now.from.now in
    let address : IsAddressText from = (c.in-Some.source, c.in-Some.ensures.in_range, c.in-Some.ensures.found) in
    let p = err_from_is_err_and c.from_residual-in_err-datagram.result c.from_residual-in_err-datagram.ensures.1 in
    another_fault c.from_residual-in_err-datagram.result p.0 from address p.1 (λ h. of_hex _ c.in_err-datagram.ensures.faults (sym p.2 ∙ h))

pub returns-in_err-text-clause-address_refused : goal.returns-in_err-text-clause-address_refused
returns-in_err-text-clause-address_refused g c =
    let from = c.args.options.now.from.now in
    let address : IsAddressText from = (c.in-Some.source, c.in-Some.ensures.in_range, c.in-Some.ensures.found) in
    let p = err_from_is_err_and c.from_residual-in_err-text.result c.from_residual-in_err-text.ensures.1 in
    another_fault c.from_residual-in_err-text.result p.0 from address p.1 (of_memory p.0 p.2)

pub returns-clause-printed : goal.returns-clause-printed
returns-clause-printed g c =
    let text = c.in_ok-text.text.items in
    on_ok c.write_text.result _ _ c.write_text.ensures.whole (λ written. if_some (g.R.Read.remaining c.args.reader.now) _ _ c.in_ok-line.ensures.line (λ bytes line_is. (
      text,
      record {
        source = c.in-Some.source;
        datagram = c.in_ok-datagram.datagram.items;
        in_range = c.in-Some.ensures.in_range;
        from_is = c.in-Some.ensures.found;
        line_fits = omega (arith, ap length line_is, c.in_ok-line.ensures.fits);
        spelled = ap decode_of (sym (c.deref.ensures.value ∙ line_is)) ∙ c.in_ok-datagram.ensures.bytes;
        answered = subst (λ (datagram : List ℕ). IsAnswered c.args.options.now.node (ms_of c.args.options.now.now) c.in-Some.source datagram text) c.deref-2.ensures.value c.in_ok-text.ensures;
      },
      subst (Appends (g.W.Write.contents c.args.writer.now) (g.W.Write.contents c.write_text.new.writer)) c.deref-3.ensures.value written,
    )))

pub returns-clause-front : goal.returns-clause-front
returns-clause-front g c = λ failed.
    let text = c.in_ok-text.text.items in
    let written = failed_front c.write_text.result WriteFailed _ c.write_text.ensures.front failed in
    if_some (g.R.Read.remaining c.args.reader.now) _ _ c.in_ok-line.ensures.line (λ bytes line_is. (
      text,
      record {
        source = c.in-Some.source;
        datagram = c.in_ok-datagram.datagram.items;
        in_range = c.in-Some.ensures.in_range;
        from_is = c.in-Some.ensures.found;
        line_fits = omega (arith, ap length line_is, c.in_ok-line.ensures.fits);
        spelled = ap decode_of (sym (c.deref.ensures.value ∙ line_is)) ∙ c.in_ok-datagram.ensures.bytes;
        answered = subst (λ (datagram : List ℕ). IsAnswered c.args.options.now.node (ms_of c.args.options.now.now) c.in-Some.source datagram text) c.deref-2.ensures.value c.in_ok-text.ensures;
      },
      (written.0, written.1, sym c.deref-3.ensures.value ∙ written.2, written.3),
    ))

pub returns-clause-address_refused : goal.returns-clause-address_refused
returns-clause-address_refused g c =
    let from = c.args.options.now.from.now in
    let address : IsAddressText from = (c.in-Some.source, c.in-Some.ensures.in_range, c.in-Some.ensures.found) in
    no_fault c.write_text.result from address (of_writing c.write_text.result c.write_text.ensures.fault)

pub returns-in_default-clause-unread : goal.returns-in_default-clause-unread
returns-in_default-clause-unread g c = search rules
