-- An address by its family.
use Rattle.std.proofs.Common.{◌≡◌, ℕ, ◌==◌, List, sym, subst}
use Rattle.lw_reg.specs.declared.addr.Addr.{Addr}
use Rattle.lw_delta.specs.declared.fault.DeltaFault.{DeltaFault}
use Rattle.lw_delta.specs.Part.{Found, Fails}
use Rattle.lw_delta.specs.Format.{host}

pub at_family : {bytes : List ℕ} {a : Addr} {rest : List ℕ} (family known : ℕ) → family ≡ known → Found (host (known == 4)) bytes a rest → Found (host (family == 4)) bytes a rest
at_family {bytes} {a} {rest} family known e f = subst (λ (n : ℕ). Found (host (n == 4)) bytes a rest) (sym e) f

pub at_family_fails : {bytes : List ℕ} {fault : DeltaFault} (family known : ℕ) → family ≡ known → Fails (host (known == 4)) bytes fault → Fails (host (family == 4)) bytes fault
at_family_fails {bytes} {fault} family known e f = subst (λ (n : ℕ). Fails (host (n == 4)) bytes fault) (sym e) f
