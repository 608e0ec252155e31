use Rattle.std.proofs.Common.{ap, ◌∙◌, arith, refl, inr, Err}
use Rattle.lw_link.specs.declared.fault.LinkFault.TheVariants.{NotText, Grammar, TooMany}
use Rattle.lw_link.specs.Printing.{printing}
use Rattle.lw_request.proofs.ObjectLemmas.{fault_is, no_text, no_list}
use Rattle.lw_request.proofs.objects.read_objects.Goals as goal

pub returns-in-Err-NotText-clause-unread : goal.returns-in-Err-NotText-clause-unread
returns-in-Err-NotText-clause-unread c =
    let fault = fault_is c.args.payload.now c.read.result c.in-Err-NotText.field-0 NotText c.read.ensures.faults c.in-Err-NotText.is c.in-Err-NotText.field-0-is (λ h. cc) in
    (omega arith, no_text c.args.payload.now fault)

pub returns-in-Err-Grammar-clause-unread : goal.returns-in-Err-Grammar-clause-unread
returns-in-Err-Grammar-clause-unread c =
    let fault = fault_is c.args.payload.now c.read.result c.in-Err-Grammar.field-0 (Grammar c.in-Err-Grammar.field-0-0) c.read.ensures.faults c.in-Err-Grammar.is c.in-Err-Grammar.field-0-is (λ h. cc) in
    (omega arith, no_list c.args.payload.now c.in-Err-Grammar.field-0-0 fault)

pub returns-in-Err-TooMany-clause-unread : goal.returns-in-Err-TooMany-clause-unread
returns-in-Err-TooMany-clause-unread c =
    inr (fault_is c.args.payload.now c.read.result c.in-Err-TooMany.field-0 TooMany c.read.ensures.faults c.in-Err-TooMany.is c.in-Err-TooMany.field-0-is (λ h. cc))

pub returns-in-Err-NoMemory-clause-unread : goal.returns-in-Err-NoMemory-clause-unread
returns-in-Err-NoMemory-clause-unread c =
    let read = c.read.ensures.memory (c.in-Err-NoMemory.is ∙ ap Err c.in-Err-NoMemory.field-0-is) in
    (printing read.0, (omega arith, (read.0, read.1, read.2, refl)))
