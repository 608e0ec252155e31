use Rattle.std.proofs.Common.{refl}
use Rattle.lw_delta.proofs.Parts.{when_is, when_fails_is, raised}
use Rattle.lw_delta.proofs.Again.{behind, front, flag_is}
use Rattle.lw_delta.proofs.Decided.{when_decided, optional_decided}
use Rattle.lw_delta.proofs.Grammar.{written_decided, base_decided, address_decided, moment_decided, number32_decided, binding_decided, sms_decided}
use Rattle.lw_delta.proofs.Parts.{both, first_fails, later_fails, given}
use Rattle.lw_delta.proofs.fields.fields.Goals as goal

pub returns-in_err-base-clause-fault : goal.returns-in_err-base-clause-fault
returns-in_err-base-clause-fault c = raised _ c.from_residual.result c.from_residual.ensures.1 (first_fails _ (when_fails_is _ c.is_set.ensures c.in_err-base.ensures.fault))

pub returns-in_err-address-clause-fault : goal.returns-in_err-address-clause-fault
returns-in_err-address-clause-fault c = raised _ c.from_residual-in_err-address.result c.from_residual-in_err-address.ensures.1 (later_fails _ (when_is _ c.is_set.ensures c.in_ok-base.ensures.found) (first_fails _ (when_fails_is _ c.is_set-2.ensures c.in_err-address.ensures.fault)))

pub returns-in_err-seen-clause-fault : goal.returns-in_err-seen-clause-fault
returns-in_err-seen-clause-fault c = raised _ c.from_residual-in_err-seen.result c.from_residual-in_err-seen.ensures.1 (later_fails _ (when_is _ c.is_set.ensures c.in_ok-base.ensures.found) (later_fails _ (when_is _ c.is_set-2.ensures c.in_ok-address.ensures.found) (first_fails _ (when_fails_is _ c.is_set-3.ensures c.in_err-seen.ensures.fault))))

pub returns-in_err-lifetime-clause-fault : goal.returns-in_err-lifetime-clause-fault
returns-in_err-lifetime-clause-fault c = raised _ c.from_residual-in_err-lifetime.result c.from_residual-in_err-lifetime.ensures.1 (later_fails _ (when_is _ c.is_set.ensures c.in_ok-base.ensures.found) (later_fails _ (when_is _ c.is_set-2.ensures c.in_ok-address.ensures.found) (later_fails _ (when_is _ c.is_set-3.ensures c.in_ok-seen.ensures.found) (first_fails _ (when_fails_is _ c.is_set-4.ensures c.in_err-lifetime.ensures.fault)))))

pub returns-in_err-binding-clause-fault : goal.returns-in_err-binding-clause-fault
returns-in_err-binding-clause-fault c = raised _ c.from_residual-in_err-binding.result c.from_residual-in_err-binding.ensures.1 (later_fails _ (when_is _ c.is_set.ensures c.in_ok-base.ensures.found) (later_fails _ (when_is _ c.is_set-2.ensures c.in_ok-address.ensures.found) (later_fails _ (when_is _ c.is_set-3.ensures c.in_ok-seen.ensures.found) (later_fails _ (when_is _ c.is_set-4.ensures c.in_ok-lifetime.ensures.found) (first_fails _ (when_fails_is _ c.is_set-5.ensures c.in_err-binding.ensures.fault))))))

pub returns-in_err-sms-clause-fault : goal.returns-in_err-sms-clause-fault
returns-in_err-sms-clause-fault c = raised _ c.from_residual-in_err-sms.result c.from_residual-in_err-sms.ensures.1 (later_fails _ (when_is _ c.is_set.ensures c.in_ok-base.ensures.found) (later_fails _ (when_is _ c.is_set-2.ensures c.in_ok-address.ensures.found) (later_fails _ (when_is _ c.is_set-3.ensures c.in_ok-seen.ensures.found) (later_fails _ (when_is _ c.is_set-4.ensures c.in_ok-lifetime.ensures.found) (later_fails _ (when_is _ c.is_set-5.ensures c.in_ok-binding.ensures.found) (first_fails _ (when_fails_is _ c.is_set-6.ensures c.in_err-sms.ensures.fault)))))))

pub returns-in_err-objects-clause-fault : goal.returns-in_err-objects-clause-fault
returns-in_err-objects-clause-fault c = raised _ c.from_residual-in_err-objects.result c.from_residual-in_err-objects.ensures.1 (later_fails _ (when_is _ c.is_set.ensures c.in_ok-base.ensures.found) (later_fails _ (when_is _ c.is_set-2.ensures c.in_ok-address.ensures.found) (later_fails _ (when_is _ c.is_set-3.ensures c.in_ok-seen.ensures.found) (later_fails _ (when_is _ c.is_set-4.ensures c.in_ok-lifetime.ensures.found) (later_fails _ (when_is _ c.is_set-5.ensures c.in_ok-binding.ensures.found) (later_fails _ (when_is _ c.is_set-6.ensures c.in_ok-sms.ensures.found) (first_fails _ (when_fails_is _ c.is_set-7.ensures c.in_err-objects.ensures.fault))))))))

pub returns-clause-found : goal.returns-clause-found
returns-clause-found c = both _ (when_is _ c.is_set.ensures c.in_ok-base.ensures.found) (both _ (when_is _ c.is_set-2.ensures c.in_ok-address.ensures.found) (both _ (when_is _ c.is_set-3.ensures c.in_ok-seen.ensures.found) (both _ (when_is _ c.is_set-4.ensures c.in_ok-lifetime.ensures.found) (both _ (when_is _ c.is_set-5.ensures c.in_ok-binding.ensures.found) (both _ (when_is _ c.is_set-6.ensures c.in_ok-sms.ensures.found) (both _ (when_is _ c.is_set-7.ensures c.in_ok-objects.ensures.found) given))))))

pub parse_if-requires : goal.parse_if-requires
parse_if-requires c = λ k. ((refl, tt), λ again. flag_is _ c.is_set.ensures (front _ (c.requires again)))

pub parse_if-requires-2 : goal.parse_if-requires-2
parse_if-requires-2 c = λ k. ((refl, tt), λ again. flag_is _ c.is_set-2.ensures (front _ (behind _ (when_decided _ base_decided) (when_is _ c.is_set.ensures c.in_ok-base.ensures.found) (c.requires again))))

pub parse_if-requires-3 : goal.parse_if-requires-3
parse_if-requires-3 c = λ k. ((refl, tt), λ again. flag_is _ c.is_set-3.ensures (front _ (behind _ (when_decided _ (written_decided c.args.clock address_decided)) (when_is _ c.is_set-2.ensures c.in_ok-address.ensures.found) (behind _ (when_decided _ base_decided) (when_is _ c.is_set.ensures c.in_ok-base.ensures.found) (c.requires again)))))

pub parse_if-requires-4 : goal.parse_if-requires-4
parse_if-requires-4 c = λ k. ((refl, tt), λ again. flag_is _ c.is_set-4.ensures (front _ (behind _ (when_decided _ (written_decided c.args.clock moment_decided)) (when_is _ c.is_set-3.ensures c.in_ok-seen.ensures.found) (behind _ (when_decided _ (written_decided c.args.clock address_decided)) (when_is _ c.is_set-2.ensures c.in_ok-address.ensures.found) (behind _ (when_decided _ base_decided) (when_is _ c.is_set.ensures c.in_ok-base.ensures.found) (c.requires again))))))

pub parse_if-requires-5 : goal.parse_if-requires-5
parse_if-requires-5 c = λ k. ((refl, tt), λ again. flag_is _ c.is_set-5.ensures (front _ (behind _ (when_decided _ (written_decided c.args.clock number32_decided)) (when_is _ c.is_set-4.ensures c.in_ok-lifetime.ensures.found) (behind _ (when_decided _ (written_decided c.args.clock moment_decided)) (when_is _ c.is_set-3.ensures c.in_ok-seen.ensures.found) (behind _ (when_decided _ (written_decided c.args.clock address_decided)) (when_is _ c.is_set-2.ensures c.in_ok-address.ensures.found) (behind _ (when_decided _ base_decided) (when_is _ c.is_set.ensures c.in_ok-base.ensures.found) (c.requires again)))))))

pub parse_if-requires-6 : goal.parse_if-requires-6
parse_if-requires-6 c = λ k. ((refl, tt), λ again. flag_is _ c.is_set-6.ensures (front _ (behind _ (when_decided _ (written_decided c.args.clock binding_decided)) (when_is _ c.is_set-5.ensures c.in_ok-binding.ensures.found) (behind _ (when_decided _ (written_decided c.args.clock number32_decided)) (when_is _ c.is_set-4.ensures c.in_ok-lifetime.ensures.found) (behind _ (when_decided _ (written_decided c.args.clock moment_decided)) (when_is _ c.is_set-3.ensures c.in_ok-seen.ensures.found) (behind _ (when_decided _ (written_decided c.args.clock address_decided)) (when_is _ c.is_set-2.ensures c.in_ok-address.ensures.found) (behind _ (when_decided _ base_decided) (when_is _ c.is_set.ensures c.in_ok-base.ensures.found) (c.requires again))))))))

pub parse_if-requires-7 : goal.parse_if-requires-7
parse_if-requires-7 c = λ k. ((refl, tt), λ again. flag_is _ c.is_set-7.ensures (front _ (behind _ (when_decided _ (written_decided c.args.clock (optional_decided sms_decided))) (when_is _ c.is_set-6.ensures c.in_ok-sms.ensures.found) (behind _ (when_decided _ (written_decided c.args.clock binding_decided)) (when_is _ c.is_set-5.ensures c.in_ok-binding.ensures.found) (behind _ (when_decided _ (written_decided c.args.clock number32_decided)) (when_is _ c.is_set-4.ensures c.in_ok-lifetime.ensures.found) (behind _ (when_decided _ (written_decided c.args.clock moment_decided)) (when_is _ c.is_set-3.ensures c.in_ok-seen.ensures.found) (behind _ (when_decided _ (written_decided c.args.clock address_decided)) (when_is _ c.is_set-2.ensures c.in_ok-address.ensures.found) (behind _ (when_decided _ base_decided) (when_is _ c.is_set.ensures c.in_ok-base.ensures.found) (c.requires again)))))))))
