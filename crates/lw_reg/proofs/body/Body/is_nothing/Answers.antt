use Rattle.std.proofs.Common.{◌∙◌, sym}
use Rattle.lw_reg.proofs.NothingLemmas.{is_nothing_known, nothing_has_no_entries}
use Rattle.lw_reg.proofs.body.Body.is_nothing.Goals as goal

pub returns-then-has_no_fields : goal.returns-then-has_no_fields
returns-then-has_no_fields c = (
  λ h. is_nothing_known c.args.self.now (sym c.has_no_fields.ensures ∙ c.if-has_no_fields.true) (c.is_empty.ensures.0 h),
  λ e. c.is_empty.ensures.1 (nothing_has_no_entries c.args.self.now e),
)
