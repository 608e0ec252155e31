use Rattle.std.proofs.Common.{sym}
use mathlib.Core.Bool.{true≢false}
use Rattle.lw_delta.proofs.Texts.{letters_utf8}
use Rattle.lw_delta.proofs.values.binding_of.Goals as goal

pub returns-in_default-clause-accepted : goal.returns-in_default-clause-accepted
returns-in_default-clause-accepted c = (λ e. absurd (true≢false (sym e)), λ h. absurd (c.in_default.ensures.cases.0 (letters_utf8 c.args.letters.now h)))
