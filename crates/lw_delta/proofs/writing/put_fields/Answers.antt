use Rattle.std.proofs.Common.{ℕ, ◌<◌, ◌^◌, List, ◌++◌, IfSome, ap, ◌∙◌, subst}
use Rattle.lw_reg.specs.Reading.{base_of, address_of, seen_of, lifetime_of, binding_of, sms_of, objects_of}
use Rattle.std.proofs.lemmas.Result.{on_ok_weaker}
use Rattle.lw_reg.specs.Addr.{IsAddr}
use Rattle.lw_delta.specs.Writing.{base_bytes, written_bytes, addr_bytes, moment_bytes, number32_bytes, binding_bytes, sms_bytes, objects_bytes}
use Rattle.lw_delta.proofs.Begins.{begins_through, then_put}
use Rattle.lw_delta.proofs.writing.put_fields.Goals as goal

pub returns-in_err-put_present-clause-kept : goal.returns-in_err-put_present-clause-kept
returns-in_err-put_present-clause-kept c = c.in_err-put_present.ensures.kept

pub returns-in_err-put_present-2-clause-kept : goal.returns-in_err-put_present-2-clause-kept
returns-in_err-put_present-2-clause-kept c = begins_through c.in_ok-put_present.ensures.kept c.in_err-put_present-2.ensures.kept

pub returns-in_err-put_present-3-clause-kept : goal.returns-in_err-put_present-3-clause-kept
returns-in_err-put_present-3-clause-kept c = begins_through c.in_ok-put_present.ensures.kept (begins_through c.in_ok-put_present-2.ensures.kept c.in_err-put_present-3.ensures.kept)

pub returns-in_err-put_present-4-clause-kept : goal.returns-in_err-put_present-4-clause-kept
returns-in_err-put_present-4-clause-kept c = begins_through c.in_ok-put_present.ensures.kept (begins_through c.in_ok-put_present-2.ensures.kept (begins_through c.in_ok-put_present-3.ensures.kept c.in_err-put_present-4.ensures.kept))

pub returns-in_err-put_present-5-clause-kept : goal.returns-in_err-put_present-5-clause-kept
returns-in_err-put_present-5-clause-kept c = begins_through c.in_ok-put_present.ensures.kept (begins_through c.in_ok-put_present-2.ensures.kept (begins_through c.in_ok-put_present-3.ensures.kept (begins_through c.in_ok-put_present-4.ensures.kept c.in_err-put_present-5.ensures.kept)))

pub returns-in_err-put_sms-clause-kept : goal.returns-in_err-put_sms-clause-kept
returns-in_err-put_sms-clause-kept c = begins_through c.in_ok-put_present.ensures.kept (begins_through c.in_ok-put_present-2.ensures.kept (begins_through c.in_ok-put_present-3.ensures.kept (begins_through c.in_ok-put_present-4.ensures.kept (begins_through c.in_ok-put_present-5.ensures.kept (c.in_err-put_sms.ensures.kept)))))

pub returns-clause-kept : goal.returns-clause-kept
returns-clause-kept c = begins_through c.in_ok-put_present.ensures.kept (begins_through c.in_ok-put_present-2.ensures.kept (begins_through c.in_ok-put_present-3.ensures.kept (begins_through c.in_ok-put_present-4.ensures.kept (begins_through c.in_ok-put_present-5.ensures.kept (begins_through c.in_ok-put_sms.ensures.kept c.put_objects.ensures.kept)))))

pub returns-clause-written : goal.returns-clause-written
returns-clause-written c =
    let base : List ℕ = base_bytes (base_of c.args.slot.now) in
    let address : List ℕ = written_bytes addr_bytes (address_of c.args.slot.now) in
    let seen : List ℕ = written_bytes moment_bytes (seen_of c.args.slot.now) in
    let lifetime : List ℕ = written_bytes number32_bytes (lifetime_of c.args.slot.now) in
    let binding : List ℕ = written_bytes binding_bytes (binding_of c.args.slot.now) in
    let sms : List ℕ = written_bytes sms_bytes (sms_of c.args.slot.now) in
    let objects : List ℕ = written_bytes objects_bytes (objects_of c.args.slot.now) in
    on_ok_weaker c.put_objects.result
    (λ e. (then_put c.args.out.now.items base (address ++ (seen ++ (lifetime ++ (binding ++ (sms ++ objects))))) (c.in_ok-put_present.ensures.written ∙ ap (λ o. c.args.out.now.items ++ base_bytes o) c.base.ensures)
    (then_put c.put_present.new.out.items address (seen ++ (lifetime ++ (binding ++ (sms ++ objects)))) (c.in_ok-put_present-2.ensures.written ∙ ap (λ o. c.put_present.new.out.items ++ written_bytes addr_bytes o) c.address.ensures)
    (then_put c.put_present-2.new.out.items seen (lifetime ++ (binding ++ (sms ++ objects))) (c.in_ok-put_present-3.ensures.written ∙ ap (λ o. c.put_present-2.new.out.items ++ written_bytes moment_bytes o) c.seen.ensures)
    (then_put c.put_present-3.new.out.items lifetime (binding ++ (sms ++ objects)) (c.in_ok-put_present-4.ensures.written ∙ ap (λ o. c.put_present-3.new.out.items ++ written_bytes number32_bytes o) c.lifetime.ensures)
    (then_put c.put_present-4.new.out.items binding (sms ++ objects) (c.in_ok-put_present-5.ensures.written ∙ ap (λ o. c.put_present-4.new.out.items ++ written_bytes binding_bytes o) c.binding.ensures)
    (then_put c.put_present-5.new.out.items sms objects c.in_ok-put_sms.ensures.written e)))))))
    c.put_objects.ensures.written

pub returns-clause-typed : goal.returns-clause-typed
returns-clause-typed c =
    on_ok_weaker c.put_objects.result
    (λ t. record {
      address = subst (λ o. IfSome o (λ w. IsAddr w.1)) c.address.ensures c.in_ok-put_present-2.ensures.typed;
      lifetime = subst (λ o. IfSome o (λ w. w.1 < 2 ^ 32)) c.lifetime.ensures c.in_ok-put_present-4.ensures.typed;
      sms = c.in_ok-put_sms.ensures.typed;
      objects = t;
    })
    c.put_objects.ensures.typed
