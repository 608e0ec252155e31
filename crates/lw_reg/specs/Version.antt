-- The texts of the two versions (LwM2M 1.1 Core, section 6.2.1: the Register parameter `lwm2m`).
use Rattle.std.specs.Prelude.{ℕ, List, codes}
use Rattle.lw_reg.specs.declared.version.Version.{Version}
use Rattle.lw_reg.specs.declared.version.Version.TheVariants.{V10, V11}

abbrev pub version_text : Version → List ℕ
version_text V10 = codes "1.0"
version_text V11 = codes "1.1"
