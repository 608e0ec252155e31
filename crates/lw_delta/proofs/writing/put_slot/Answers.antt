use Rattle.std.proofs.Common.{◌≡◌, ℕ, List, [], ◌∷◌, ◌++◌, ap, ◌∙◌, append_assoc}
use Rattle.std.proofs.lemmas.Result.{on_ok_weaker}
use Rattle.lw_reg.specs.Reading.{stamp_of}
use Rattle.lw_stamp.specs.Stamp.{stamp_bytes}
use Rattle.lw_delta.specs.Form.{latest}
use Rattle.lw_delta.specs.Values.{behind_of}
use Rattle.lw_delta.specs.Writing.{text_bytes, flags_byte, fields_bytes, behind_bytes}
use Rattle.lw_delta.specs.inner.Writing.{slot_head_bytes}
use Rattle.lw_delta.proofs.Begins.{begins_through, then_put}
use Rattle.lw_delta.proofs.writing.put_slot.Goals as goal

pub returns-in_err-put_head-clause-kept : goal.returns-in_err-put_head-clause-kept
returns-in_err-put_head-clause-kept c = c.in_err-put_head.ensures.kept

pub returns-in_err-put_fields-clause-kept : goal.returns-in_err-put_fields-clause-kept
returns-in_err-put_fields-clause-kept c = begins_through c.in_ok-put_head.ensures.kept c.in_err-put_fields.ensures.kept

-- the bytes of a slot, part by part
in_parts : (name stamp : List ℕ) (flags : ℕ) (fields more : List ℕ) → (1 ∷ (name ++ (stamp ++ flags ∷ []))) ++ (fields ++ more) ≡ 1 ∷ (name ++ (stamp ++ flags ∷ (fields ++ more)))
in_parts name stamp flags fields more =
    ap (λ (x : List ℕ). 1 ∷ x) (append_assoc name (stamp ++ flags ∷ []) (fields ++ more) ∙ ap (λ (x : List ℕ). name ++ x) (append_assoc stamp (flags ∷ []) (fields ++ more)))

pub returns-clause-written : goal.returns-clause-written
returns-clause-written c =
    let head : List ℕ = slot_head_bytes (c.args.endpoint.now, c.args.slot.now) in
    let fields : List ℕ = fields_bytes c.args.slot.now in
    let more : List ℕ = behind_bytes latest (behind_of c.args.slot.now) in
    on_ok_weaker c.put_behind.result
    (λ e. then_put c.args.out.now.items head (fields ++ more) c.in_ok-put_head.ensures.written
    (then_put c.put_head.new.out.items fields more c.in_ok-put_fields.ensures.written e)
    ∙ ap (λ (x : List ℕ). c.args.out.now.items ++ x) (in_parts (text_bytes c.args.endpoint.now) (stamp_bytes (stamp_of c.args.slot.now)) (flags_byte c.args.slot.now) fields more))
    c.put_behind.ensures.written

pub returns-clause-typed : goal.returns-clause-typed
returns-clause-typed c =
    on_ok_weaker c.put_behind.result
    (λ t. record { fields = c.in_ok-put_fields.ensures.typed; behind = t })
    c.put_behind.ensures.typed

pub returns-clause-named : goal.returns-clause-named
returns-clause-named c = on_ok_weaker c.put_behind.result (λ e. c.in_ok-put_head.ensures.named) c.put_behind.ensures.written

pub returns-clause-kept : goal.returns-clause-kept
returns-clause-kept c = begins_through c.in_ok-put_head.ensures.kept (begins_through c.in_ok-put_fields.ensures.kept c.put_behind.ensures.kept)
