use Rattle.std.proofs.Common.{Bool, List, ℕ, ap, sym, subst}
use Rattle.lw_reg.specs.declared.slot.Slot.{Slot}
use Rattle.lw_delta.specs.Values.{slot_from}
use Rattle.lw_delta.specs.Part.{Found}
use Rattle.lw_delta.specs.Format.{behind as behind_part}
use Rattle.lw_delta.proofs.Again.{behind, front}
use Rattle.lw_delta.proofs.Decided.{byte_decided}
use Rattle.lw_delta.proofs.Grammar.{endpoint_decided, stamp_decided}
use Rattle.lw_delta.proofs.Kept.{endpoint_named}
use Rattle.lw_delta.proofs.Parts.{both, first_fails, later_fails, meant, raised}
use Rattle.lw_delta.proofs.slots.slot.Goals as goal

pub returns-in_err-endpoint-clause-fault : goal.returns-in_err-endpoint-clause-fault
returns-in_err-endpoint-clause-fault c = raised _ c.from_residual.result c.from_residual.ensures.1 (first_fails _ c.in_err-endpoint.ensures.fault)

pub returns-in_err-registration-clause-fault : goal.returns-in_err-registration-clause-fault
returns-in_err-registration-clause-fault c = raised _ c.from_residual-in_err-registration.result c.from_residual-in_err-registration.ensures.1 (later_fails _ c.in_ok-endpoint.ensures.found (first_fails _ c.in_err-registration.ensures.fault))

pub returns-in_err-flags-clause-fault : goal.returns-in_err-flags-clause-fault
returns-in_err-flags-clause-fault c = raised _ c.from_residual-in_err-flags.result c.from_residual-in_err-flags.ensures.1 (later_fails _ c.in_ok-endpoint.ensures.found (later_fails _ c.in_ok-registration.ensures.found (first_fails _ c.in_err-flags.ensures.fault)))

pub returns-in_err-fields-clause-fault : goal.returns-in_err-fields-clause-fault
returns-in_err-fields-clause-fault c = raised _ c.from_residual-in_err-fields.result c.from_residual-in_err-fields.ensures.1 (later_fails _ c.in_ok-endpoint.ensures.found (later_fails _ c.in_ok-registration.ensures.found (later_fails _ c.in_ok-flags.ensures.found (first_fails _ c.in_err-fields.ensures.fault))))

pub returns-in_err-behind-clause-fault : goal.returns-in_err-behind-clause-fault
returns-in_err-behind-clause-fault c = raised _ c.from_residual-in_err-behind.result c.from_residual-in_err-behind.ensures.1 (later_fails _ c.in_ok-endpoint.ensures.found (later_fails _ c.in_ok-registration.ensures.found (later_fails _ c.in_ok-flags.ensures.found (later_fails _ c.in_ok-fields.ensures.found (first_fails _ c.in_err-behind.ensures.fault)))))

pub returns-clause-found : goal.returns-clause-found
returns-clause-found c =
    let b = c.in_ok-behind.ensures.found in
    let rest = c.in_ok-behind.rest.now in
    let slot_of : Bool → List ℕ × Slot = λ removed. (c.in_ok-endpoint.endpoint.now, slot_from c.in_ok-registration.registration removed c.in_ok-fields.fields b.more) in
    record {
      more = b.more;
      holds = record {
        named = endpoint_named _ _ _ _ c.in_ok-endpoint.ensures.found;
        told = record {
          rest = rest;
          found = subst (λ (x : List ℕ). Found (behind_part c.args.form c.args.clock) x b.more rest) (sym b.here) b.found;
          ended = b.ended;
          watches = b.watches;
        };
      };
      found = both _ c.in_ok-endpoint.ensures.found (both _ c.in_ok-registration.ensures.found (both _ c.in_ok-flags.ensures.found (both _ c.in_ok-fields.ensures.found (both _ b.found (meant _ (ap slot_of c.is_set.ensures))))));
    }

pub fields-requires : goal.fields-requires
fields-requires c = λ again. front _ (behind _ byte_decided c.in_ok-flags.ensures.found (behind _ (stamp_decided _) c.in_ok-registration.ensures.found (behind _ (endpoint_decided _) c.in_ok-endpoint.ensures.found (c.requires again))))
