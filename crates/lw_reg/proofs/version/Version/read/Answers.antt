use Rattle.std.proofs.Common.{◌≡◌, ℕ, List, Option, Some, None}
use Rattle.std.specs.Prelude.{codes}
use Rattle.lw_reg.specs.declared.version.Version.{Version}
use Rattle.lw_reg.specs.declared.version.Version.TheVariants.{V10, V11}
use Rattle.lw_reg.specs.Version.{version_text}
use Rattle.lw_reg.proofs.version.Version.read.Goals as goal

neither : (text : List ℕ) → (text ≡ codes "1.0" → ⊥) → (text ≡ codes "1.1" → ⊥) → (v : Version) → text ≡ version_text v → ⊥
neither text no_old no_new V10 is = no_old is
neither text no_old no_new V11 is = no_new is

unread : (text : List ℕ) (v : Version) → ◌≡◌ {A = Option Version} None (Some v) → text ≡ version_text v
unread text v is = cc

pub returns-in_default : goal.returns-in_default
returns-in_default c = λ v. (unread _ v, λ is. absurd (neither _ c.in_default.not-text c.in_default.not-text-2 v is))
