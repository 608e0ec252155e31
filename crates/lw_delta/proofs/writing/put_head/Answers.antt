use Rattle.std.proofs.Common.{ℕ, List, [], ◌∷◌, ◌++◌, ap, ◌∙◌}
use Rattle.std.proofs.lemmas.Result.{on_ok_weaker}
use Rattle.lw_reg.specs.Reading.{stamp_of}
use Rattle.lw_stamp.specs.Stamp.{stamp_bytes}
use Rattle.lw_stamp.specs.declared.stamp.Stamp.{Stamp}
use Rattle.lw_delta.specs.Writing.{text_bytes, flags_byte}
use Rattle.lw_delta.proofs.Begins.{begins_through, then_put}
use Rattle.lw_delta.proofs.writing.put_head.Goals as goal

pub returns-in_err-put_byte-clause-kept : goal.returns-in_err-put_byte-clause-kept
returns-in_err-put_byte-clause-kept c = c.in_err-put_byte.ensures.kept

pub returns-in_err-put_text-clause-kept : goal.returns-in_err-put_text-clause-kept
returns-in_err-put_text-clause-kept c = begins_through c.in_ok-put_byte.ensures.kept c.in_err-put_text.ensures.kept

pub returns-in_err-put-clause-kept : goal.returns-in_err-put-clause-kept
returns-in_err-put-clause-kept c = begins_through c.in_ok-put_byte.ensures.kept (begins_through c.in_ok-put_text.ensures.kept c.in_err-put.ensures.kept)

pub returns-clause-kept : goal.returns-clause-kept
returns-clause-kept c = begins_through c.in_ok-put_byte.ensures.kept (begins_through c.in_ok-put_text.ensures.kept (begins_through c.in_ok-put.ensures.kept c.put_byte-2.ensures.kept))

pub returns-clause-named : goal.returns-clause-named
returns-clause-named c = on_ok_weaker c.put_byte-2.result (λ e. c.in_ok-put_text.ensures.own) c.put_byte-2.ensures.written

pub returns-clause-written : goal.returns-clause-written
returns-clause-written c =
    let name = text_bytes c.args.endpoint.now in
    let stamp = stamp_bytes (stamp_of c.args.slot.now) in
    let flags : List ℕ = flags_byte c.args.slot.now ∷ [] in
    on_ok_weaker c.put_byte-2.result
    (λ e. then_put c.args.out.now.items (1 ∷ []) (name ++ (stamp ++ flags)) c.in_ok-put_byte.ensures.written
    (then_put c.put_byte.new.out.items name (stamp ++ flags) c.in_ok-put_text.ensures.written
    (then_put c.put_text.new.out.items stamp flags (c.in_ok-put.ensures.written ∙ ap (λ (s : Stamp). c.put_text.new.out.items ++ stamp_bytes s) c.stamp.ensures)
    (e ∙ ap (λ (n : ℕ). c.put.new.out.items ++ n ∷ []) c.flags_byte.ensures))))
    c.put_byte-2.ensures.written
